use Rattle.std.proofs.Common.{◌≡◌, Ok}
use Rattle.life_forest.specs.Kinds.{kinds_of as forest_kinds}
use Rattle.life_seen.specs.Kinds.{kinds_of}
use Rattle.life_seen.specs.Rowed.{AreRowed}
use Rattle.life_store.specs.References.{asked_of, object_of, shape_of}
use Rattle.life_store.specs.declared.object.Shape.{Shape}
use Rattle.life_values.specs.Cleared.{CanClear}
use Rattle.life_values.specs.Layouts.{owners_at, width_at, AreLaid}
use Rattle.life_values.proofs.SlotsCleared.{Progress}
use Rattle.life_values.proofs.edits.clear.Given as goal

abbrev pub invariant-loop-slot : goal.invariant-loop-slot
invariant-loop-slot g l = record {
  limit : g.S.Store.limit l.store ≡ g.S.Store.limit l.fn.store;
  rowed : AreRowed (kinds_of l.types) (g.S.Store.content l.fn.store) (g.S.Store.rows l.fn.store) → AreRowed (kinds_of l.types) (g.S.Store.content l.store) (g.S.Store.rows l.store);
  progress : (can : CanClear (kinds_of l.types) (forest_kinds l.types) l.depth l.buffer (g.S.Store.content l.fn.store) (g.S.Store.rows l.fn.store)) (shape : Shape) (asked : asked_of (object_of (g.S.Store.content l.fn.store) (g.S.Store.rows l.fn.store) l.buffer) shape_of ≡ Ok shape)
      (laid : AreLaid l.types l.layouts) (own : l.owners ≡ owners_at l.layouts shape.ty) (wide : l.width ≡ width_at l.layouts shape.ty)
      → Progress l.types l.layouts l.depth l.buffer (g.S.Store.content l.fn.store) (g.S.Store.rows l.fn.store) can shape asked laid l.owners own l.width wide (g.S.Store.content l.store) (g.S.Store.rows l.store) l.slot;
}
