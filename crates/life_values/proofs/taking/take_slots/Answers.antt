use Rattle.std.proofs.Common.{refl, arith, ◌∙◌}
use Rattle.life_forest.specs.Kinds.{kinds_of as forest_kinds}
use Rattle.life_seen.specs.Kinds.{kinds_of}
use Rattle.life_values.proofs.AlikeKinds.{alike_kinds}
use Rattle.life_values.proofs.SlotsTaking.{progress_begin, progress_end, progress_next, slot_births, slot_can, slot_clock}
use Rattle.life_values.proofs.taking.take_slots.Goals as goal

pub loop-slot-init : goal.loop-slot-init
loop-slot-init g c = record {
  limit = refl;
  rowed = λ rowed. rowed;
  progress = λ can. progress_begin (kinds_of c.args.types.now) (forest_kinds c.args.types.now) (alike_kinds c.args.types.now) c.args.object c.args.leaves.now c.args.first c.args.count (g.S.Store.content c.args.store.now) (g.S.Store.rows c.args.store.now) can;
}

pub overflow_add-spot : goal.overflow_add-spot
overflow_add-spot g c = let small = c.requires.small in let less = c.loop-slot-test.true in omega (arith, small, less)

pub take_value-requires-clause-can : goal.take_value-requires-clause-can
take_value-requires-clause-can g c =
    slot_can (kinds_of c.args.types.now) (forest_kinds c.args.types.now) (alike_kinds c.args.types.now) c.args.object c.args.leaves.now c.args.first c.args.count (g.S.Store.content c.args.store.now) (g.S.Store.rows c.args.store.now) c.requires.can
    (g.S.Store.content c.loop-slot.store) (g.S.Store.rows c.loop-slot.store) c.loop-slot.slot (c.loop-slot.invariant.progress c.requires.can) c.loop-slot-test.true

pub take_value-requires-clause-births : goal.take_value-requires-clause-births
take_value-requires-clause-births g c =
    slot_births (kinds_of c.args.types.now) (forest_kinds c.args.types.now) (alike_kinds c.args.types.now) c.args.object c.args.leaves.now c.args.first c.args.count (g.S.Store.content c.args.store.now) (g.S.Store.rows c.args.store.now) c.requires.can
    (g.S.Store.content c.loop-slot.store) (g.S.Store.rows c.loop-slot.store) c.loop-slot.slot (c.loop-slot.invariant.progress c.requires.can) c.loop-slot-test.true c.requires.births

pub take_value-requires-clause-clock : goal.take_value-requires-clause-clock
take_value-requires-clause-clock g c =
    slot_clock (kinds_of c.args.types.now) (forest_kinds c.args.types.now) (alike_kinds c.args.types.now) c.args.object c.args.leaves.now c.args.first c.args.count (g.S.Store.content c.args.store.now) (g.S.Store.rows c.args.store.now) c.requires.can
    (g.S.Store.content c.loop-slot.store) (g.S.Store.rows c.loop-slot.store) c.loop-slot.slot (c.loop-slot.invariant.progress c.requires.can) c.loop-slot-test.true c.requires.clock

pub loop-slot-preserved : goal.loop-slot-preserved
loop-slot-preserved g c = record {
  limit = c.take_value.ensures.limit ∙ c.loop-slot.invariant.limit;
  rowed = λ rowed. c.take_value.ensures.rowed (c.loop-slot.invariant.rowed rowed);
  progress = λ can.
      progress_next (kinds_of c.args.types.now) (forest_kinds c.args.types.now) (alike_kinds c.args.types.now) c.args.object c.args.leaves.now c.args.first c.args.count (g.S.Store.content c.args.store.now) (g.S.Store.rows c.args.store.now) can
      (g.S.Store.content c.loop-slot.store) (g.S.Store.rows c.loop-slot.store) c.loop-slot.slot (c.loop-slot.invariant.progress can) c.loop-slot-test.true
      (g.S.Store.content c.take_value.new.store) (g.S.Store.rows c.take_value.new.store) c.take_value.ensures.taken c.take_value.ensures.later;
}

pub returns-clause-taken : goal.returns-clause-taken
returns-clause-taken g c =
    let past = c.loop-slot-test.false in
    progress_end (kinds_of c.args.types.now) (forest_kinds c.args.types.now) (alike_kinds c.args.types.now) c.args.object c.args.leaves.now c.args.first c.args.count (g.S.Store.content c.args.store.now) (g.S.Store.rows c.args.store.now) c.requires.can
    (g.S.Store.content c.loop-slot.store) (g.S.Store.rows c.loop-slot.store) c.loop-slot.slot (c.loop-slot.invariant.progress c.requires.can) (omega (arith, past))

pub returns-clause-later : goal.returns-clause-later
returns-clause-later g c = (c.loop-slot.invariant.progress c.requires.can).later

pub returns-clause-rowed : goal.returns-clause-rowed
returns-clause-rowed g c rowed = c.loop-slot.invariant.rowed rowed
