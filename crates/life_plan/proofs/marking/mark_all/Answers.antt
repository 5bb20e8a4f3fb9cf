use Rattle.std.proofs.Common.{◌≤◌, ◌∙◌, ℕ, sym, arith}
use Rattle.std.proofs.lemmas.Bool.{both_ways}
use Rattle.std.specs.Prelude.{IsTrue}
use Rattle.life_sets.specs.NumberSets.{holds}
use Rattle.life_plan.specs.Crossing.{crossing_in}
use Rattle.life_plan.specs.Numbered.{MarksNumber}
use Rattle.life_plan.proofs.Seeing.{marks_all, marks_more}
use Rattle.life_plan.proofs.Tabulating.{gathered_more, gathered_past, grown_more}
use Rattle.life_plan.proofs.marking.mark_all.Goals as goal
use Rattle.life_plan.proofs.marking.mark_all.Goals.{else-contains, then-contains}

pub loop-d-preserved : goal.loop-d-preserved
loop-d-preserved c =
    let x = crossing_in c.args.context.now in
    let says : ℕ → ℕ → Type 0 = λ d e. IsTrue (holds c.args.targets.now d) × MarksNumber x d e in
    elim c.if-contains.branch [
      | then-contains w ↦
          rw (w.mask-is, w.grew-is)
          (record {
            limit = w.mark_by-grew.ensures.limit ∙ c.loop-d.invariant.limit;
            each = gathered_more says c.loop-d.d (holds c.args.mask.now) (holds c.loop-d.mask) (holds w.mark_by-grew.new.mask) c.loop-d.invariant.each
                (marks_more x (holds c.args.targets.now) c.loop-d.d (holds c.loop-d.mask) (holds w.mark_by-grew.new.mask) (sym c.contains.ensures ∙ w.if-contains.true) w.mark_by-grew.ensures.mask);
            grew = grown_more (holds c.args.mask.now) (holds c.loop-d.mask) (holds w.mark_by-grew.new.mask) c.loop-d.grew w.mark_by-grew.result c.loop-d.invariant.grew w.mark_by-grew.ensures.grew;
          })
      | else-contains w ↦
          rw (w.mask-is, w.grew-is)
          (record {
            limit = c.loop-d.invariant.limit;
            each = gathered_past says c.loop-d.d (holds c.args.mask.now) (holds c.loop-d.mask) c.loop-d.invariant.each
                (λ n h. both_ways (holds c.args.targets.now c.loop-d.d) (sym c.contains.ensures ∙ w.if-contains.false) h.0);
            grew = c.loop-d.invariant.grew;
          })
    ]

pub returns-clause-mask : goal.returns-clause-mask
returns-clause-mask c =
    let x = crossing_in c.args.context.now in
    let past : c.args.targets.now.limit ≤ c.loop-d.d = omega (arith, c.limit-d-end.ensures, c.loop-d-test.false) in
    marks_all x c.args.targets.now c.loop-d.d (holds c.args.mask.now) (holds c.loop-d.mask) past c.loop-d.invariant.each
