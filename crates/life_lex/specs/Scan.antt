-- How what begins at a point is found. No definition of tokens, gaps and faults stands on this.
use Rattle.std.specs.Prelude.{ℕ, ◌<◌, ◌≤◌, Bool, true, false, ◌&&◌, ◌||◌, nat_lt, ◌==◌, List, [], ◌∷◌, take, Option, Some, None, if◌then◌else◌}
use Rattle.std.specs.Char.{is_ascii_digit}
use Rattle.std.specs.List.{prefix_len}
use Rattle.life_lex.specs.Bytes.{is_nondigit, is_word_byte}
use Rattle.life_lex.specs.Comments.{opens_comment}
use Rattle.life_lex.specs.Cursors.{Cursor, rest_of}
use Rattle.life_lex.specs.Gaps.{gap_len}
use Rattle.life_lex.specs.Lengths.{plus}
use Rattle.life_lex.specs.Literals.{is_escape, is_unit, opens_literal}
use Rattle.life_lex.specs.Marks.{is_short_mark, is_long_mark}
use Rattle.life_lex.specs.Numbers.{is_too_large}
use Rattle.life_lex.specs.Places.{line_blank_at}
use Rattle.life_lex.specs.declared.fault.LexFaultKind.TheVariants.{BadByte, UnclosedText, UnclosedComment, NumberTooLarge}
use Rattle.life_lex.specs.declared.scan.Scanned.{Scanned}
use Rattle.life_lex.specs.declared.scan.Scanned.TheVariants.{End, Gap, Token, Fault}

-- a byte in front
abbrev pub starts_byte : ℕ → List ℕ → Bool
starts_byte n [] = false
starts_byte n (b ∷ bs) = b == n

-- a closing quote ends a character literal of n bytes
abbrev pub quote_scan : List ℕ → ℕ → Option ℕ
quote_scan bs n = if starts_byte 39 bs then Some n else None

-- a character literal behind its opening quote and backslash
abbrev pub escape_scan : List ℕ → Option ℕ
escape_scan [] = None
escape_scan (e ∷ bs) = if is_escape e || (e == 48) then quote_scan bs 3 else None

-- a character literal behind its opening quote
abbrev pub character_scan : List ℕ → Option ℕ
character_scan [] = None
character_scan (b ∷ bs) =
    if b == 92 then escape_scan bs else
    (if is_unit 39 b && nat_lt b 128 then quote_scan bs 2 else None)

-- a string literal behind its opening quote; `escaped`: a backslash stands before
abbrev pub string_scan : Bool → List ℕ → Option ℕ
string_scan escaped [] = None
string_scan true (e ∷ bs) = if is_escape e then plus 1 (string_scan false bs) else None
string_scan false (b ∷ bs) =
    if b == 34 then Some 1 else
    (if b == 92 then plus 1 (string_scan true bs) else
    (if is_unit 34 b then plus 1 (string_scan false bs) else None))

-- a byte that makes a mark of two with the one before it
abbrev pub pairs_with : ℕ → List ℕ → Bool
pairs_with b [] = false
pairs_with b (c ∷ bs) = is_long_mark b c

-- a mark behind its first byte
abbrev pub mark_scan : ℕ → List ℕ → Option ℕ
mark_scan b bs = if pairs_with b bs then Some 1 else (if is_short_mark b then Some 0 else None)

-- a number behind its first digit
abbrev pub number_scan : ℕ → List ℕ → ℕ
number_scan b bs = if b == 48 then 0 else prefix_len is_ascii_digit bs

-- the longest token behind its first byte
abbrev pub token_rest_scan : ℕ → List ℕ → Option ℕ
token_rest_scan b bs =
    if is_nondigit b then Some (prefix_len is_word_byte bs) else
    (if is_ascii_digit b then Some (number_scan b bs) else
    (if b == 39 then character_scan bs else
    (if b == 34 then string_scan false bs else mark_scan b bs)))

-- the longest token in front
unfoldable pub token_scan : List ℕ → Option ℕ
token_scan [] = None
token_scan (b ∷ bs) = plus 1 (token_rest_scan b bs)

-- where no gap, comment and token begins
abbrev pub stray_scan : List ℕ → Scanned
stray_scan bytes = Fault (if opens_literal bytes then UnclosedText else BadByte)

-- where the longest token is found
abbrev pub scan_at_token : List ℕ → Option ℕ → Scanned
scan_at_token bytes None = stray_scan bytes
scan_at_token bytes (Some n) = if is_too_large (take n bytes) then Fault NumberTooLarge else Token n

-- where the gap is found
abbrev pub scan_at_gap : List ℕ → Option ℕ → Scanned
scan_at_gap bytes (Some n) = Gap n
scan_at_gap bytes None = if opens_comment bytes then Fault UnclosedComment else scan_at_token bytes (token_scan bytes)

-- what begins in front
unfoldable pub scan_of : Bool → List ℕ → Scanned
scan_of line_blank [] = End
scan_of line_blank (b ∷ bs) = scan_at_gap (b ∷ bs) (gap_len line_blank (b ∷ bs))

-- what begins at a point
abbrev pub scan_at : Cursor → Scanned
scan_at c = scan_of (line_blank_at c.source c.offset) (rest_of c)

-- what begins lies within the bytes
abbrev pub IsWithin : ℕ → Scanned → Type 0
IsWithin len End = Unit {0}
IsWithin len (Gap n) = (0 < n) × (n ≤ len)
IsWithin len (Token n) = (0 < n) × (n ≤ len)
IsWithin len (Fault kind) = 0 < len
