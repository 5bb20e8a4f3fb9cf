use Rattle.std.proofs.Common.{◌≡◌, ◌≤◌, length}
use Rattle.life_seen.specs.Kinds.{kinds_of}
use Rattle.life_seen.specs.Rowed.{AreRowed}
use Rattle.life_moves.specs.CopiedTo.{CanGive}
use Rattle.life_moves.proofs.GivingOwners.{Progress}
use Rattle.life_moves.proofs.carrying.give_all.Given as goal

abbrev pub invariant-loop-left : goal.invariant-loop-left
invariant-loop-left g l = record {
  within : l.left ≤ length l.owners;
  count : length l.copies ≡ length l.owners;
  limit : g.S.Store.limit l.store ≡ g.S.Store.limit l.fn.store;
  rowed : AreRowed (kinds_of l.types) (g.S.Store.content l.fn.store) (g.S.Store.rows l.fn.store) → AreRowed (kinds_of l.types) (g.S.Store.content l.store) (g.S.Store.rows l.store);
  progress : (can : CanGive (kinds_of l.types) l.to l.owners l.copies (g.S.Store.content l.fn.store) (g.S.Store.rows l.fn.store))
      → Progress l.types l.to l.owners l.copies (g.S.Store.content l.fn.store) (g.S.Store.rows l.fn.store) can (g.S.Store.content l.store) (g.S.Store.rows l.store) l.left;
}

abbrev pub decreases-loop-left : goal.decreases-loop-left
decreases-loop-left g l = l.left
