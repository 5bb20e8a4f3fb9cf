use Rattle.std.proofs.Common.{◌≡◌}
use Rattle.life_forest.specs.Kinds.{kinds_of as forest_kinds}
use Rattle.life_seen.specs.Kinds.{kinds_of}
use Rattle.life_seen.specs.Rowed.{AreRowed}
use Rattle.life_values.specs.Regrown.{CanTakeSlots}
use Rattle.life_values.proofs.AlikeKinds.{alike_kinds}
use Rattle.life_values.proofs.SlotsTaking.{Progress}
use Rattle.life_values.proofs.taking.take_slots.Given as goal

abbrev pub invariant-loop-slot : goal.invariant-loop-slot
invariant-loop-slot g l = record {
  limit : g.S.Store.limit l.store ≡ g.S.Store.limit l.fn.store;
  rowed : AreRowed (kinds_of l.types) (g.S.Store.content l.fn.store) (g.S.Store.rows l.fn.store) → AreRowed (kinds_of l.types) (g.S.Store.content l.store) (g.S.Store.rows l.store);
  progress : (can : CanTakeSlots (kinds_of l.types) (forest_kinds l.types) l.object l.leaves l.first l.count (g.S.Store.content l.fn.store) (g.S.Store.rows l.fn.store))
      → Progress (kinds_of l.types) (forest_kinds l.types) (alike_kinds l.types) l.object l.leaves l.first l.count (g.S.Store.content l.fn.store) (g.S.Store.rows l.fn.store) can (g.S.Store.content l.store) (g.S.Store.rows l.store) l.slot;
}
