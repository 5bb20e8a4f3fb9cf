use Rattle.life_plan.proofs.Changing.{other_all, other_same, other_step}
use Rattle.life_plan.proofs.staying.note_changes.Goals as goal
use Rattle.life_plan.proofs.staying.note_changes.Goals.{else-is_other, then-is_other+in_ok-note_named}

pub loop-other-preserved : goal.loop-other-preserved
loop-other-preserved c =
    let t = c.args.table.now in
    let x = c.args.element.now in
    let first = c.args.becoming.now.items in
    let i = c.loop-other.other-index in
    elim c.if-is_other.branch [
      | then-is_other+in_ok-note_named w ↦
          rw w.becoming-is
          (record {
            noted = other_step t x first c.args.e c.args.stays.now i _ c.loop-other.becoming.items w.note_named.new.becoming.items c.loop-other-test.true (c.is_other.ensures.other w.if-is_other.true) c.loop-other.invariant.noted w.in_ok-note_named.ensures.noted;
            sized = w.in_ok-note_named.ensures.sized;
          })
      | else-is_other w ↦
          rw w.becoming-is
          (record {
            noted = other_same t x first c.args.e c.args.stays.now i _ c.loop-other.becoming.items c.loop-other-test.true (c.is_other.ensures.same w.if-is_other.false) c.loop-other.invariant.noted;
            sized = c.loop-other.invariant.sized;
          })
    ]

pub returns-clause-noted : goal.returns-clause-noted
returns-clause-noted c =
    other_all c.args.table.now c.args.element.now c.args.becoming.now.items c.args.e c.args.stays.now c.loop-other.other-index c.loop-other.becoming.items c.loop-other-test.false c.loop-other.invariant.noted
