-- Decimal numbers and their values.
use Rattle.std.specs.Prelude.{ℕ, ◌+◌, ◌-◌, ◌*◌, Bool, false, ◌&&◌, nat_lt, ◌==◌, List, [], ◌∷◌, fold, if◌then◌else◌}
use Rattle.std.specs.Char.{is_ascii_digit}
use Rattle.std.specs.List.{list_all}
use Rattle.life_lex.specs.Bytes.{is_empty}

-- behind a first digit: nothing if that is 0, and else digits
abbrev pub is_number_rest : ℕ → List ℕ → Bool
is_number_rest b bs = if b == 48 then is_empty bs else list_all is_ascii_digit bs

-- the value with one more digit behind it
abbrev pub next_value : ℕ → ℕ → ℕ
next_value value digit = value * 10 + (digit - 48)

-- the value of a row of digits
abbrev pub value_of : List ℕ → ℕ
value_of digits = fold next_value 0 digits

-- a digit in front
abbrev pub starts_number : List ℕ → Bool
starts_number [] = false
starts_number (b ∷ bs) = is_ascii_digit b

-- a number past the largest long, 2^63 - 1
abbrev pub is_too_large : List ℕ → Bool
is_too_large text = starts_number text && nat_lt 9223372036854775807 (value_of text)
