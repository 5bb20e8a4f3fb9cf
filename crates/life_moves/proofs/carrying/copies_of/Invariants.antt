use Rattle.std.proofs.Common.{◌≡◌}
use Rattle.life_types.specs.Trees.{IsOrdered}
use Rattle.life_seen.specs.Kinds.{kinds_of}
use Rattle.life_seen.specs.Rowed.{AreRowed}
use Rattle.life_values.specs.Layouts.{AreLaid}
use Rattle.life_moves.specs.CopiedTo.{CanCopyFrom}
use Rattle.life_moves.proofs.CopyingOwned.{Progress}
use Rattle.life_moves.proofs.carrying.copies_of.Given as goal

abbrev pub invariant-loop-word : goal.invariant-loop-word
invariant-loop-word g l = record {
  limit : g.S.Store.limit l.store ≡ g.S.Store.limit l.fn.store;
  rowed : AreRowed (kinds_of l.types) (g.S.Store.content l.fn.store) (g.S.Store.rows l.fn.store) → AreRowed (kinds_of l.types) (g.S.Store.content l.store) (g.S.Store.rows l.store);
  progress : (ordered : IsOrdered l.types) (laid : AreLaid l.types l.layouts) (can : CanCopyFrom l.types (g.S.Store.limit l.fn.store) l.depth l.fn.ty l.from (g.S.Store.content l.fn.store) (g.S.Store.rows l.fn.store))
      → Progress l.types ordered l.layouts laid (g.S.Store.limit l.fn.store) l.depth l.fn.ty l.from (g.S.Store.content l.fn.store) (g.S.Store.rows l.fn.store) can (g.S.Store.content l.store) (g.S.Store.rows l.store) l.copies.items l.word-index;
}
