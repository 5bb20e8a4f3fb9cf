use Rattle.std.proofs.Common.{◌-◌, ◌+◌, ◌*◌, ◌≡◌, ◌≤◌, length}
use Rattle.life_forest.specs.Kinds.{kinds_of as forest_kinds}
use Rattle.life_seen.specs.Kinds.{kinds_of}
use Rattle.life_seen.specs.Rowed.{AreRowed}
use Rattle.life_values.specs.Ending.{CanEnd}
use Rattle.life_values.proofs.AlikeKinds.{alike_kinds}
use Rattle.life_values.proofs.Deep.{Progress}
use Rattle.life_values.proofs.deep_end.+end_deep.Given as goal

abbrev pub decreases-end_deep : goal.decreases-end_deep
decreases-end_deep g l = l.depth

abbrev pub invariant-loop-slot : goal.invariant-loop-slot
invariant-loop-slot g l = record {
  slot : l.slot ≤ l.shape.length;
  index : l.index ≤ length l.owners;
  limit : g.S.Store.limit l.store ≡ g.S.Store.limit l.fn.store;
  rowed : AreRowed (kinds_of l.types) (g.S.Store.content l.fn.store) (g.S.Store.rows l.fn.store) → AreRowed (kinds_of l.types) (g.S.Store.content l.store) (g.S.Store.rows l.store);
  progress : (can : CanEnd (kinds_of l.types) (forest_kinds l.types) l.depth l.object (g.S.Store.content l.fn.store) (g.S.Store.rows l.fn.store))
      → Progress (kinds_of l.types) (forest_kinds l.types) (alike_kinds l.types) l.depth l.object (g.S.Store.content l.fn.store) (g.S.Store.rows l.fn.store) can l.owners (g.S.Store.content l.store) (g.S.Store.rows l.store) l.slot l.index;
}

abbrev pub decreases-loop-slot : goal.decreases-loop-slot
decreases-loop-slot g l = (l.shape.length - l.slot) * (length l.owners + 1) + (length l.owners - l.index)
