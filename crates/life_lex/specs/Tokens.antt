-- Which whole texts are tokens. Nothing here says how they are found.
use Rattle.std.specs.Prelude.{◌≡◌, ℕ, ◌<◌, ◌≤◌, Bool, true, false, ◌==◌, List, [], ◌∷◌, length, take, Option, Some, None, if◌then◌else◌}
use Rattle.std.specs.Char.{is_ascii_digit}
use Rattle.std.specs.List.{list_all}
use Rattle.life_lex.specs.Bytes.{is_nondigit, is_word_byte}
use Rattle.life_lex.specs.Literals.{is_character_rest, is_string_rest}
use Rattle.life_lex.specs.Marks.{is_mark_rest}
use Rattle.life_lex.specs.Numbers.{is_number_rest}

-- The first byte of a token says of what kind it is: a name or keyword, a number, a character or string literal, or a mark.
abbrev pub is_token_rest : ℕ → List ℕ → Bool
is_token_rest b bs =
    if is_nondigit b then list_all is_word_byte bs else
    (if is_ascii_digit b then is_number_rest b bs else
    (if b == 39 then is_character_rest bs else
    (if b == 34 then is_string_rest false bs else is_mark_rest b bs)))

abbrev pub is_token : List ℕ → Bool
is_token [] = false
is_token (b ∷ bs) = is_token_rest b bs

-- The longest front of the bytes that passes a test has n bytes; None: no front passes.
abbrev pub IsLongest : (List ℕ → Bool) → List ℕ → Option ℕ → Type 0
IsLongest test bytes (Some n) = (n ≤ length bytes) × (test (take n bytes) ≡ true)
    × ((m : ℕ) → n < m → m ≤ length bytes → test (take m bytes) ≡ false)
IsLongest test bytes None = (m : ℕ) → m ≤ length bytes → test (take m bytes) ≡ false
