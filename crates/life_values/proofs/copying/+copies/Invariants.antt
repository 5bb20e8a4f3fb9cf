use Rattle.std.proofs.Common.{◌≡◌, ◌+◌, ◌*◌}
use Rattle.life_types.specs.Trees.{IsOrdered}
use Rattle.life_seen.specs.Kinds.{kinds_of}
use Rattle.life_seen.specs.Rowed.{AreRowed}
use Rattle.life_values.specs.Layouts.{AreLaid}
use Rattle.life_values.proofs.CopyingSlots.{Progress as SlotsProgress}
use Rattle.life_values.proofs.Recopying.{Progress as WordsProgress}
use Rattle.life_values.proofs.copying.+copies.Given as goal

abbrev pub decreases-copy_deep : goal.decreases-copy_deep
decreases-copy_deep g l = 3 * l.depth

abbrev pub decreases-copy_slots : goal.decreases-copy_slots
decreases-copy_slots g l = 3 * l.depth + 2

abbrev pub decreases-recopy : goal.decreases-recopy
decreases-recopy g l = 3 * l.depth + 1

abbrev pub invariant-copy_slots-loop-slot : goal.invariant-copy_slots-loop-slot
invariant-copy_slots-loop-slot g l = record {
  limit : g.S.Store.limit l.store ≡ g.S.Store.limit l.fn.store;
  rowed : AreRowed (kinds_of l.types) (g.S.Store.content l.fn.store) (g.S.Store.rows l.fn.store) → AreRowed (kinds_of l.types) (g.S.Store.content l.store) (g.S.Store.rows l.store);
  progress : (laid : AreLaid l.types l.layouts) (ordered : IsOrdered l.types)
      → SlotsProgress l.types l.layouts laid ordered (g.S.Store.limit l.fn.store) l.depth l.from l.to l.length l.width l.owners (g.S.Store.content l.fn.store) (g.S.Store.rows l.fn.store) (g.S.Store.content l.store) (g.S.Store.rows l.store) l.slot;
}

abbrev pub invariant-recopy-loop-word : goal.invariant-recopy-loop-word
invariant-recopy-loop-word g l = record {
  limit : g.S.Store.limit l.store ≡ g.S.Store.limit l.fn.store;
  rowed : AreRowed (kinds_of l.types) (g.S.Store.content l.fn.store) (g.S.Store.rows l.fn.store) → AreRowed (kinds_of l.types) (g.S.Store.content l.store) (g.S.Store.rows l.store);
  progress : (laid : AreLaid l.types l.layouts) (ordered : IsOrdered l.types)
      → WordsProgress l.types l.layouts laid ordered (g.S.Store.limit l.fn.store) l.depth l.object l.slot l.owners (g.S.Store.content l.fn.store) (g.S.Store.rows l.fn.store) (g.S.Store.content l.store) (g.S.Store.rows l.store) l.word-index;
}
