-- What begins at a point of a file.
use Rattle.std.specs.Prelude.{◌≡◌, ℕ, ◌<◌, Bool, true, false, List, [], length, take, Some, None}
use Rattle.life_lex.specs.Comments.{opens_comment}
use Rattle.life_lex.specs.Gaps.{gap_len}
use Rattle.life_lex.specs.Literals.{opens_literal}
use Rattle.life_lex.specs.Numbers.{is_too_large}
use Rattle.life_lex.specs.Tokens.{is_token, IsLongest}
use Rattle.life_lex.specs.declared.fault.LexFaultKind.{LexFaultKind}
use Rattle.life_lex.specs.declared.fault.LexFaultKind.TheVariants.{BadByte, UnclosedText, UnclosedComment, NumberTooLarge}
use Rattle.life_lex.specs.declared.scan.Scanned.{Scanned}
use Rattle.life_lex.specs.declared.scan.Scanned.TheVariants.{End, Gap, Token, Fault}

-- What is wrong where neither a gap nor a token begins.
abbrev pub IsFault : LexFaultKind → List ℕ → Type 0
IsFault UnclosedComment bytes = opens_comment bytes ≡ true
IsFault NumberTooLarge bytes = (opens_comment bytes ≡ false) × ((n : ℕ) × IsLongest is_token bytes (Some n) × (is_too_large (take n bytes) ≡ true))
IsFault UnclosedText bytes = (opens_comment bytes ≡ false) × (opens_literal bytes ≡ true) × IsLongest is_token bytes None
IsFault BadByte bytes = (opens_comment bytes ≡ false) × (opens_literal bytes ≡ false) × IsLongest is_token bytes None

-- What begins in front of the bytes: the end, a gap or a token of n bytes, or a fault.
-- `line_blank`: only spaces and tabs stand before them on their line.
abbrev pub Begins : Bool → List ℕ → Scanned → Type 0
Begins line_blank bytes End = bytes ≡ []
Begins line_blank bytes (Gap n) = gap_len line_blank bytes ≡ Some n
Begins line_blank bytes (Token n) = (gap_len line_blank bytes ≡ None) × (opens_comment bytes ≡ false) × IsLongest is_token bytes (Some n) × (is_too_large (take n bytes) ≡ false)
Begins line_blank bytes (Fault kind) = (0 < length bytes) × (gap_len line_blank bytes ≡ None) × IsFault kind bytes
