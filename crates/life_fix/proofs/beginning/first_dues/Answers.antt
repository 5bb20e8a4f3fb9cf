use Rattle.std.proofs.Common.{ℕ, ◌∙◌, arith, length, subst, sym}
use Rattle.std.proofs.lemmas.Grind.{common_steps}
use Rattle.std.proofs.lemmas.Option.{slice_get_within}
use Rattle.life_sets.specs.NumberSets.{holds}
use Rattle.life_fix.specs.Solving.{IsFirstDue}
use Rattle.life_fix.proofs.PutBack.{push_each, push_sized}
use Rattle.life_fix.proofs.beginning.first_dues.Goals as goal

pub loop-k-preserved : goal.loop-k-preserved
loop-k-preserved c =
    let locations = length c.args.flow.now.table.now.locations in
    let edges = c.args.flow.now.edges.now in
    let plans = c.args.plans.now in
    let so_far = c.loop-k.invariant in
    let limit = c.in_ok-all.ensures.limit ∙ c.location_count.ensures in
    let due = subst (λ (n : ℕ). IsFirstDue n edges plans c.loop-k.k (holds c.in_ok-first_due.field-0)) limit c.in_ok-first_due.ensures.due in
    record {
      count = rw c.in_ok-push.ensures.items (grind (arith, common_steps, so_far.count));
      sized = rw c.in_ok-push.ensures.items (push_sized locations c.loop-k.dues.items _ so_far.sized (c.in_ok-first_due.ensures.limit ∙ limit));
      due =
          rw c.in_ok-push.ensures.items
          (λ j lt.
          push_each (λ i d. IsFirstDue locations edges plans i d) c.loop-k.dues.items _ (λ i h. so_far.due i (omega (arith, h, so_far.count))) (subst (λ (i : ℕ). IsFirstDue locations edges plans i (holds c.in_ok-first_due.field-0)) (sym so_far.count) due) j (omega (arith, lt, so_far.count)));
    }

pub returns-clause-due : goal.returns-clause-due
returns-clause-due c = λ k edge plan at had. c.loop-k.invariant.due k (omega (arith, slice_get_within c.args.plans.now k plan had, c.loop-k-test.false)) edge plan at had
