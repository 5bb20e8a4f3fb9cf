-- The number that a word writes.
use Rattle.std.specs.Prelude.{ℕ, ◌+◌, ◌-◌, ◌*◌, ℤ, pos, neg_ℤ, Bool, false, ◌&&◌, ◌==◌, nat_le, List, [], ◌∷◌, Option, Some, None, fold, option_map, if◌then◌else◌}
use Rattle.std.specs.Char.{is_ascii_digit}
use Rattle.std.specs.List.{list_all}

-- the value with one more digit behind it
abbrev pub next_value : ℕ → ℕ → ℕ
next_value value digit = value * 10 + (digit - 48)

-- the value of a row of digits
abbrev pub value_of : List ℕ → ℕ
value_of digits = fold next_value 0 digits

-- a digit or more
abbrev pub is_numeral : List ℕ → Bool
is_numeral [] = false
is_numeral (digit ∷ digits) = list_all is_ascii_digit (digit ∷ digits)

-- the value of digits, where it is at most so large
abbrev pub magnitude : ℕ → List ℕ → Option ℕ
magnitude most digits = if is_numeral digits && nat_le (value_of digits) most then Some (value_of digits) else None

abbrev pub plain : ℕ → ℤ
plain size = pos size

abbrev pub negated : ℕ → ℤ
negated size = neg_ℤ (pos size)

-- the number of an optional `-` and digits, where it fits 64 bits with sign
abbrev pub number_of : List ℕ → Option ℤ
number_of [] = None
number_of (first ∷ rest) =
    if first == 45 then option_map negated (magnitude 9223372036854775808 rest)
    else option_map plain (magnitude 9223372036854775807 (first ∷ rest))
