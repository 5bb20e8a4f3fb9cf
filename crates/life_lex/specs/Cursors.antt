-- Points of a file.
use Rattle.std.specs.Prelude.{ℕ, ◌+◌, List, drop}
use Rattle.life_lex.specs.Places.{byte_order_mark_len}

-- a point of a file
pub record Cursor : Type 0 where
  pub source : List ℕ
  pub offset : ℕ

-- the first point, behind a byte order mark
abbrev pub start : List ℕ → Cursor
start source = record { source = source; offset = byte_order_mark_len source }

-- the point n bytes further on
abbrev pub advance : ℕ → Cursor → Cursor
advance n c = record { source = c.source; offset = c.offset + n }

-- what is left of the file
abbrev pub rest_of : Cursor → List ℕ
rest_of c = drop c.offset c.source
