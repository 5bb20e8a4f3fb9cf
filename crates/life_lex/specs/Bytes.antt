-- Classes of bytes.
use Rattle.std.specs.Prelude.{ℕ, Bool, true, false, ◌&&◌, ◌||◌, nat_le, ◌==◌, List, [], ◌∷◌}
use Rattle.std.specs.Char.{is_ascii_alphabetic, is_ascii_digit}

-- a letter or `_`
abbrev pub is_nondigit : ℕ → Bool
is_nondigit b = is_ascii_alphabetic b || (b == 95)

-- a letter, a digit or `_`
abbrev pub is_word_byte : ℕ → Bool
is_word_byte b = is_nondigit b || is_ascii_digit b

-- white space: 9 to 13 (the tab and the ends of lines and pages) and the space
abbrev pub is_white : ℕ → Bool
is_white b = (nat_le 9 b && nat_le b 13) || (b == 32)

-- a space or a tab
abbrev pub is_blank : ℕ → Bool
is_blank b = (b == 32) || (b == 9)

-- whether there are no bytes
abbrev pub is_empty : List ℕ → Bool
is_empty [] = true
is_empty (b ∷ bs) = false
