-- Tokens are slices of the source.
use Rattle.std.specs.Prelude.{◌≡◌, ℕ, ◌+◌, ◌<◌, ◌≤◌, List, [], ◌∷◌, length, take, drop}
use Rattle.life_lex.specs.Cursors.{Cursor}
use Rattle.life_lex.specs.Readings.{Lexeme}

-- A token is a slice of the source, at or behind the point before the call, and the point behind the call is its end.
pub record IsNextSlice (a : Cursor) (t : Lexeme) (b : Cursor) : Type 0 where
  pub begins : a.offset ≤ t.offset
  pub text : t.text ≡ take (length t.text) (drop t.offset a.source)
  pub some : 0 < length t.text
  pub ends : b.offset ≡ t.offset + length t.text
  pub within : b.offset ≤ length a.source
  pub source : b.source ≡ a.source

-- Each token is a slice of the source, the first begins at or behind `low`, and each other one at or behind the end of the one before it.
abbrev pub AreSlices : ℕ → List ℕ → List Lexeme → Type 0
AreSlices low source [] = Unit {0}
AreSlices low source (t ∷ ts) = (low ≤ t.offset) × (t.text ≡ take (length t.text) (drop t.offset source)) × AreSlices (t.offset + length t.text) source ts
