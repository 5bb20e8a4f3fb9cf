use Rattle.std.proofs.Common.{◌≡◌, Some}
use Rattle.life_store.specs.Cells.{at}
use Rattle.life_store.specs.Content.{Object}
use Rattle.life_seen.specs.Kinds.{kinds_of}
use Rattle.life_seen.specs.Rowed.{AreRowed}
use Rattle.life_seen.specs.Seen.{seen}
use Rattle.life_values.specs.Fresh.{AreBlank}
use Rattle.life_values.proofs.Filling.{Filling}
use Rattle.life_values.proofs.fresh_value.fresh.Given as goal

abbrev pub invariant-loop-leaf : goal.invariant-loop-leaf
invariant-loop-leaf g l = record {
  limit : g.S.Store.limit l.store ≡ g.S.Store.limit l.fn.store;
  blank : (o : Object) → at (seen (kinds_of l.types) (g.S.Store.content l.fn.store) (g.S.Store.rows l.fn.store)).objects l.spot.object.birth ≡ Some o → AreBlank l.leaves l.spot.slot l.spot.word o
      → (x : Object) → at (seen (kinds_of l.types) (g.S.Store.content l.store) (g.S.Store.rows l.store)).objects l.spot.object.birth ≡ Some x → AreBlank l.leaves l.spot.slot l.spot.word x;
  rowed : (o : Object) → at (seen (kinds_of l.types) (g.S.Store.content l.fn.store) (g.S.Store.rows l.fn.store)).objects l.spot.object.birth ≡ Some o → AreBlank l.leaves l.spot.slot l.spot.word o
      → AreRowed (kinds_of l.types) (g.S.Store.content l.fn.store) (g.S.Store.rows l.fn.store) → AreRowed (kinds_of l.types) (g.S.Store.content l.store) (g.S.Store.rows l.store);
  filling : Filling (kinds_of l.types) l.types l.fn.form (g.S.Store.limit l.fn.store) l.spot l.leaves (g.S.Store.content l.fn.store) (g.S.Store.rows l.fn.store) (g.S.Store.content l.store) (g.S.Store.rows l.store) l.leaf-index;
}
