use Rattle.std.proofs.Common.{◌≢◌, ◌∙◌, ap, inl, inr, subst}
use Rattle.std.proofs.lemmas.Option.{get_or_from_slice_get}
use Rattle.std.proofs.lemmas.Result.{IfOk-weaker}
use Rattle.std.specs.Prelude.{IsTrue}
use Rattle.life_core.specs.declared.stmt.Edge.{Edge}
use Rattle.life_sets.specs.NumberSets.{Numbers, holds}
use Rattle.life_plan.specs.Carried.{is_whole}
use Rattle.life_plan.specs.declared.plan.Plan.{Plan}
use Rattle.life_fix.specs.Solving.{IsFirstDue}
use Rattle.life_fix.proofs.beginning.first_due.Goals as goal

pub returns-then-starts_quiet-clause-due : goal.returns-then-starts_quiet-clause-due
returns-then-starts_quiet-clause-due c =
    let edges = c.args.edges.now in
    let plans = c.args.plans.now in
    let quiet = c.starts_quiet.ensures c.if-starts_quiet.true in
    IfOk-weaker c.copy.result _ (λ set. IsFirstDue c.args.all.now.limit edges plans c.args.k (holds set))
    (λ set is edge plan at had. inr (
      subst (λ (e : Edge). e.from.0 ≢ 1) (get_or_from_slice_get edges c.args.k edge _ at) quiet.0,
      subst (λ (p : Plan). IsTrue (is_whole p)) (c.index-plans-k.is ∙ get_or_from_slice_get plans c.args.k plan _ had) quiet.1,
    ))
    c.copy.ensures

pub returns-clause-due : goal.returns-clause-due
returns-clause-due c =
    IfOk-weaker c.copy-2.result _ (λ set. IsFirstDue c.args.all.now.limit c.args.edges.now c.args.plans.now c.args.k (holds set))
    (λ set is edge plan at had. inl (λ l low. ap (λ (s : Numbers). holds s l) is ∙ c.requires.all l low))
    c.copy-2.ensures
