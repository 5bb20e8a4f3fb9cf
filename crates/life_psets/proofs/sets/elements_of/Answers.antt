use Rattle.std.proofs.Common.{[], arith, slice_get}
use Rattle.life_psets.specs.Sets.{element_if}
use Rattle.life_psets.proofs.InTurn.{turn_all, turn_more}
use Rattle.life_psets.proofs.sets.elements_of.Goals as goal

pub loop-number-preserved : goal.loop-number-preserved
loop-number-preserved g c = record {
  within = omega (arith, c.loop-number-test.true, c.element_count-number-end.ensures);
  are =
      turn_more (λ e. element_if (g.R.Rows.has c.args.row.now c.args.location e) (slice_get c.args.table.now.elements e)) [] c.loop-number.elements.items c.push_held.new.out.items c.loop-number.number
      c.loop-number.invariant.are c.in_ok-push_held.ensures;
}

pub returns : goal.returns
returns g c =
    turn_all (λ e. element_if (g.R.Rows.has c.args.row.now c.args.location e) (slice_get c.args.table.now.elements e)) [] c.loop-number.elements.items c.loop-number.number _
    c.loop-number.invariant.within (omega (arith, c.loop-number-test.false, c.element_count-number-end.ensures)) c.loop-number.invariant.are
