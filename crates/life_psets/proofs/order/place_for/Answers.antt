use Rattle.std.proofs.Common.{arith, sym, ◌∙◌}
use Rattle.life_psets.specs.SetTexts.{is_earlier, shown_seen}
use Rattle.life_psets.proofs.Tables.{first_all, first_more, first_stops}
use Rattle.life_psets.proofs.order.place_for.Goals as goal

pub loop-index-preserved : goal.loop-index-preserved
loop-index-preserved c =
    first_more (is_earlier (shown_seen c.args.text.now)) c.args.texts.now c.loop-index.index c.index-texts-index.result c.loop-index-test.true c.index-texts-index.is (sym c.stands_before.ensures ∙ c.if-not-stands_before.false) c.loop-index.invariant

pub returns-then-not-stands_before : goal.returns-then-not-stands_before
returns-then-not-stands_before c =
    first_stops (is_earlier (shown_seen c.args.text.now)) c.args.texts.now c.loop-index.index c.index-texts-index.result c.loop-index-test.true c.index-texts-index.is (sym c.stands_before.ensures ∙ c.if-not-stands_before.true) c.loop-index.invariant

pub returns : goal.returns
returns c = first_all (is_earlier (shown_seen c.args.text.now)) c.args.texts.now c.loop-index.index (omega (arith, c.loop-index-test.false)) c.loop-index.invariant
