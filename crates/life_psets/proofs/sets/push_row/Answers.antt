use Rattle.std.proofs.Common.{arith, map, slice_get}
use Rattle.life_psets.specs.Sets.{held_elements, set_of, set_seen}
use Rattle.life_psets.proofs.InTurn.{turn_all, turn_more}
use Rattle.life_psets.proofs.sets.push_row.Goals as goal

pub loop-number-preserved : goal.loop-number-preserved
loop-number-preserved g c = record {
  within = omega (arith, c.loop-number-test.true, c.location_count-number-end.ensures);
  are =
      turn_more (λ n. set_of c.args.before (slice_get c.args.table.now.locations n) (held_elements c.args.table.now (g.R.Rows.has c.args.row.now n)))
      (map set_seen c.args.out.now.items) (map set_seen c.loop-number.out.items) (map set_seen c.push_set.new.out.items) c.loop-number.number
      c.loop-number.invariant.are c.in_ok-push_set.ensures;
}

pub returns : goal.returns
returns g c =
    turn_all (λ n. set_of c.args.before (slice_get c.args.table.now.locations n) (held_elements c.args.table.now (g.R.Rows.has c.args.row.now n)))
    (map set_seen c.args.out.now.items) (map set_seen c.loop-number.out.items) c.loop-number.number _
    c.loop-number.invariant.within (omega (arith, c.loop-number-test.false, c.location_count-number-end.ensures)) c.loop-number.invariant.are
