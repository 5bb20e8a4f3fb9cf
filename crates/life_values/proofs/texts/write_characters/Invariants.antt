use Rattle.std.proofs.Common.{◌≡◌}
use Rattle.std.specs.Prelude.{length}
use Rattle.life_seen.specs.Kinds.{kinds_of}
use Rattle.life_seen.specs.Rowed.{AreRowed}
use Rattle.life_values.specs.Texts.{CanWrite}
use Rattle.life_values.proofs.CharactersWritten.{Progress}
use Rattle.life_values.proofs.texts.write_characters.Given as goal

abbrev pub invariant-loop-character : goal.invariant-loop-character
invariant-loop-character g l = record {
  slot : l.slot ≡ l.character-index;
  limit : g.S.Store.limit l.store ≡ g.S.Store.limit l.fn.store;
  rowed : CanWrite (kinds_of l.types) l.text (length l.characters) (g.S.Store.content l.fn.store) (g.S.Store.rows l.fn.store) → AreRowed (kinds_of l.types) (g.S.Store.content l.fn.store) (g.S.Store.rows l.fn.store)
      → AreRowed (kinds_of l.types) (g.S.Store.content l.store) (g.S.Store.rows l.store);
  progress : (can : CanWrite (kinds_of l.types) l.text (length l.characters) (g.S.Store.content l.fn.store) (g.S.Store.rows l.fn.store))
      → Progress (kinds_of l.types) l.text l.characters (g.S.Store.content l.fn.store) (g.S.Store.rows l.fn.store) can (g.S.Store.content l.store) (g.S.Store.rows l.store) l.character-index;
}
