use Rattle.std.proofs.Common.{◌≤◌, ◌∙◌, ℕ, Bool, arith, length, slice_get, sym}
use Rattle.life_rules.specs.Staying.{spot_reads}
use Rattle.life_plan.specs.Crossing.{crossing_in}
use Rattle.life_plan.specs.Numbered.{passes}
use Rattle.life_plan.proofs.Making.{read_all, read_more, read_none, read_past, readings_more, readings_none, unseen_more, unseen_none}
use Rattle.life_plan.proofs.reading.readings_of.Goals as goal
use Rattle.life_plan.proofs.reading.readings_of.Goals.{else-is_read, then-is_read+in_ok-push_reading}

pub loop-n-init : goal.loop-n-init
loop-n-init c =
    let x = crossing_in c.args.context.now in
    rw c.new-readings.ensures.items
    (record {
      sized = readings_none x;
      each = read_none (λ n. passes (spot_reads x.spot) (slice_get x.table.locations n));
      unseen = unseen_none;
    })

pub loop-n-preserved : goal.loop-n-preserved
loop-n-preserved c =
    let x = crossing_in c.args.context.now in
    let test : ℕ → Bool = λ n. passes (spot_reads x.spot) (slice_get x.table.locations n) in
    let was = c.loop-n.invariant in
    let n = c.loop-n.n in
    elim c.if-is_read.branch [
      | then-is_read+in_ok-push_reading w ↦
          let r = w.in_ok-push_reading.ensures in
          rw (w.readings-is, r.1.0)
          (record {
            sized = readings_more x n c.loop-n.readings.items r.0 (omega (arith, c.loop-n-test.true, c.location_count-n-end.ensures)) r.1.1 was.sized;
            each = read_more test n c.loop-n.readings.items was.each (length x.table.elements) r.0 r.1.1 (sym c.is_read.ensures ∙ w.if-is_read.true);
            unseen = unseen_more (length x.table.elements) n c.loop-n.readings.items r.0 r.1.1 was.unseen;
          })
      | else-is_read w ↦
          rw w.readings-is
          (record {
            sized = was.sized;
            each = read_past test n c.loop-n.readings.items was.each (sym c.is_read.ensures ∙ w.if-is_read.false);
            unseen = was.unseen;
          })
    ]

pub returns-clause-are : goal.returns-clause-are
returns-clause-are c =
    let x = crossing_in c.args.context.now in
    let past : length x.table.locations ≤ c.loop-n.n = omega (arith, c.loop-n-test.false, c.location_count-n-end.ensures) in
    record {
      sized = c.loop-n.invariant.sized;
      each = read_all (spot_reads x.spot) x.table.locations c.loop-n.n c.loop-n.readings.items past c.loop-n.invariant.each;
    }

pub returns-clause-seen : goal.returns-clause-seen
returns-clause-seen c = c.loop-n.invariant.unseen
