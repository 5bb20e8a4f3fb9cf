-- Numbers among the words.
use Rattle.std.specs.Prelude.{◌&&◌, ℕ, Bool, length, nat_le, Option, Some, None, if◌then◌else◌}
use Rattle.std.specs.Char.{is_ascii_digit}
use Rattle.std.specs.List.{list_all}
use Rattle.std.specs.Str.Parse.{digits_value, without_leading_plus}
use Rattle.clap.specs.ValueTests.{is_unsigned_in}
use Rattle.clap.specs.Words.{Text}

-- a word that clap takes for a number from `least` to `most`: digits, perhaps behind a plus
abbrev pub number_between : ℕ → ℕ → Text → Option ℕ
number_between least most word = if is_unsigned_in least most word then Some (digits_value 10 (without_leading_plus word)) else None

-- at most 20 decimal digits
abbrev pub is_digits : Text → Bool
is_digits word = nat_le (length word) 20 && list_all is_ascii_digit word

-- .. whose number fits 64 bits
abbrev pub digits_number : Text → Option ℕ
digits_number word = if is_digits word then number_between 0 18446744073709551615 word else None
