use Rattle.std.proofs.Common.{arith, sym, ◌∙◌}
use Rattle.life_psets.specs.SetTexts.{is_own}
use Rattle.life_psets.proofs.Tables.{first_all, first_more, first_stops}
use Rattle.life_psets.proofs.report.leading.Goals as goal

pub loop-index-preserved : goal.loop-index-preserved
loop-index-preserved c =
    first_more (is_own c.args.function) c.args.sets.now c.loop-index.index c.index-sets-index.result c.loop-index-test.true c.index-sets-index.is (sym c.is_own.ensures ∙ c.if-not-is_own.false) c.loop-index.invariant

pub returns-then-not-is_own : goal.returns-then-not-is_own
returns-then-not-is_own c =
    first_stops (is_own c.args.function) c.args.sets.now c.loop-index.index c.index-sets-index.result c.loop-index-test.true c.index-sets-index.is (sym c.is_own.ensures ∙ c.if-not-is_own.true) c.loop-index.invariant

pub returns : goal.returns
returns c = first_all (is_own c.args.function) c.args.sets.now c.loop-index.index (omega (arith, c.loop-index-test.false)) c.loop-index.invariant
