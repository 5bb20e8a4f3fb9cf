-- What the lexer knows of the point at which it stands.
use Rattle.std.specs.Prelude.{◌≡◌, ℕ, ◌<◌, ◌≤◌, ◌^◌, List, length, take, fold}
use Rattle.life_lex.specs.Places.{line_after, column_after, byte_order_mark_len, line_blank_at}
use Rattle.life_lex.specs.declared.position.Position.{Position}

-- It stands in the file, behind a byte order mark, and its line, its column and its flag are those of its offset.
pub record IsPosition (source : List ℕ) (p : Position) : Type 0 where
  pub short : length source < 2 ^ 32
  pub started : byte_order_mark_len source ≤ p.offset
  pub within : p.offset ≤ length source
  pub line : p.line ≡ fold line_after 1 (take p.offset source)
  pub column : p.column ≡ fold column_after 1 (take p.offset source)
  pub line_blank : p.line_blank ≡ line_blank_at source p.offset
