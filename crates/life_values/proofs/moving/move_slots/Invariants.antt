use Rattle.std.proofs.Common.{◌≡◌, Some}
use Rattle.life_store.specs.Cells.{at}
use Rattle.life_store.specs.Content.{Object}
use Rattle.life_seen.specs.Kinds.{kinds_of}
use Rattle.life_seen.specs.Rowed.{AreRowed}
use Rattle.life_seen.specs.Seen.{seen}
use Rattle.life_values.specs.Moved.{AreUncut}
use Rattle.life_values.proofs.SlotsGoing.{Progress}
use Rattle.life_values.proofs.moving.move_slots.Given as goal

abbrev pub invariant-loop-slot : goal.invariant-loop-slot
invariant-loop-slot g l = record {
  limit : g.S.Store.limit l.store ≡ g.S.Store.limit l.fn.store;
  rows : g.S.Store.rows l.store ≡ g.S.Store.rows l.fn.store;
  rowed : (o : Object) → at (seen (kinds_of l.types) (g.S.Store.content l.fn.store) (g.S.Store.rows l.fn.store)).objects l.to.object.birth ≡ Some o → AreUncut (kinds_of l.types o.ty) l.to.word l.width
      → AreRowed (kinds_of l.types) (g.S.Store.content l.fn.store) (g.S.Store.rows l.fn.store) → AreRowed (kinds_of l.types) (g.S.Store.content l.store) (g.S.Store.rows l.store);
  progress : Progress (kinds_of l.types) l.from l.to l.count l.width l.owners (g.S.Store.content l.fn.store) (g.S.Store.rows l.fn.store) (g.S.Store.content l.store) (g.S.Store.rows l.store) l.slot;
}
