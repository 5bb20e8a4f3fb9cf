-- Where the bytes of a file stand.
use Rattle.std.specs.Prelude.{ℕ, ◌+◌, Bool, true, nat_eq, ◌&&◌, ◌==◌, List, [], ◌∷◌, take, drop, fold, if◌then◌else◌}
use Rattle.std.specs.List.{starts_with}
use Rattle.life_lex.specs.Bytes.{is_blank}
use Rattle.life_types.specs.declared.place.Place.{Place}

-- the line of what stands behind a byte
abbrev pub line_after : ℕ → ℕ → ℕ
line_after line b = if b == 10 then line + 1 else line

-- the column of what stands behind a byte
abbrev pub column_after : ℕ → ℕ → ℕ
column_after column b = if b == 10 then 1 else column + 1

-- the place of the byte at an offset; the first is in line 1 and column 1
abbrev pub place_at : List ℕ → ℕ → Place
place_at source offset = record {
  line = fold line_after 1 (take offset source);
  column = fold column_after 1 (take offset source);
}

-- the length of a leading byte order mark, EF BB BF
abbrev pub byte_order_mark_len : List ℕ → ℕ
byte_order_mark_len source = if starts_with nat_eq source (239 ∷ 187 ∷ 191 ∷ []) then 3 else 0

-- whether only spaces and tabs stand on the line behind a byte, if they did before it
abbrev pub blank_after : Bool → ℕ → Bool
blank_after line_blank b = if b == 10 then true else (line_blank && is_blank b)

-- whether only spaces and tabs stand before an offset on its line, a byte order mark aside
abbrev pub line_blank_at : List ℕ → ℕ → Bool
line_blank_at source offset = fold blank_after true (drop (byte_order_mark_len source) (take offset source))
