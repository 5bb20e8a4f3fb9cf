use Rattle.std.proofs.Common.{length, ◌-◌, ◌≡◌, ◌<◌, ◌≤◌, ℕ, slice_get, Some}
use Rattle.life_store.specs.Content.{Object, word_at}
use Rattle.life_store.specs.References.{object_of}
use Rattle.life_seen.specs.Housed.{IsHoused}
use Rattle.life_seen.specs.Kinds.{Kinds}
use Rattle.life_seen.specs.Named.{names_of}
use Rattle.life_seen.specs.Seen.{object_seen}
use Rattle.life_values.specs.Layouts.{AreOwners}
use Rattle.life_values.proofs.deep_end.next_in.Given as goal

abbrev pub invariant-loop-index : goal.invariant-loop-index
invariant-loop-index g l = record {
  from : l.fn.from ≤ l.index;
  clear : (kinds : Kinds) (o : Object) → IsHoused kinds (g.S.Store.content l.store) (g.S.Store.rows l.store) → object_of (g.S.Store.content l.store) (g.S.Store.rows l.store) l.object ≡ Some o → AreOwners (kinds o.ty) l.owners
      → (j u : ℕ) → l.fn.from ≤ j → j < l.index → slice_get l.owners j ≡ Some u → word_at (object_seen kinds (names_of (g.S.Store.content l.store) (g.S.Store.rows l.store)) o) l.slot u ≡ 0;
}

abbrev pub decreases-loop-index : goal.decreases-loop-index
decreases-loop-index g l = length l.owners - l.index
