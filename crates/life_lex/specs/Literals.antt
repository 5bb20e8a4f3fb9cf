-- Character and string literals.
use Rattle.std.specs.Prelude.{ℕ, Bool, true, false, not, ◌&&◌, ◌||◌, nat_lt, nat_le, ◌==◌, List, [], ◌∷◌, if◌then◌else◌}
use Rattle.life_lex.specs.Bytes.{is_empty}

-- a quote in front
abbrev pub opens_literal : List ℕ → Bool
opens_literal [] = false
opens_literal (b ∷ bs) = (b == 39) || (b == 34)

-- what may stand behind a backslash: n t \ ' "
abbrev pub is_escape : ℕ → Bool
is_escape e = (e == 110) || (e == 116) || (e == 92) || (e == 39) || (e == 34)

-- a unit of one byte: a tab, 32 to 126 or 128 on, other than the quote in use and the backslash
abbrev pub is_unit : ℕ → ℕ → Bool
is_unit quote b = ((b == 9) || (nat_le 32 b && nat_le b 126) || nat_le 128 b) && not (b == quote) && not (b == 92)

-- behind a `'`: one unit below 128, or a backslash with an escape or 0, and then the closing quote
abbrev pub is_character_rest : List ℕ → Bool
is_character_rest [] = false
is_character_rest (b ∷ []) = false
is_character_rest (b ∷ c ∷ []) = is_unit 39 b && nat_lt b 128 && (c == 39)
is_character_rest (b ∷ e ∷ c ∷ []) = (b == 92) && (is_escape e || (e == 48)) && (c == 39)
is_character_rest (b ∷ e ∷ c ∷ d ∷ bs) = false

-- behind a `"`: units, which may be a backslash with an escape, and then the closing quote; `escaped`: a backslash stands before
abbrev pub is_string_rest : Bool → List ℕ → Bool
is_string_rest escaped [] = false
is_string_rest true (e ∷ bs) = is_escape e && is_string_rest false bs
is_string_rest false (b ∷ bs) =
    if b == 34 then is_empty bs else
    (if b == 92 then is_string_rest true bs else is_unit 34 b && is_string_rest false bs)
