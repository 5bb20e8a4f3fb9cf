-- What the scan finds is what begins there, and nothing else does.
use Rattle.std.proofs.Common.{◌≡◌, ℕ, zero, suc, ◌<◌, Bool, true, false, cond, List, [], ◌∷◌, length, take, Option, Some, None, refl, arith}
use Rattle.life_lex.specs.Comments.{opens_comment}
use Rattle.life_lex.specs.Gaps.{gap_len}
use Rattle.life_lex.specs.Begins.{IsFault, Begins}
use Rattle.life_lex.specs.Literals.{opens_literal}
use Rattle.life_lex.specs.Numbers.{is_too_large}
use Rattle.life_lex.specs.Scan.{token_scan, scan_at_token, scan_at_gap, scan_of}
use Rattle.life_lex.specs.Tokens.{is_token, IsLongest}
use Rattle.life_lex.specs.declared.fault.LexFaultKind.{LexFaultKind}
use Rattle.life_lex.specs.declared.fault.LexFaultKind.TheVariants.{BadByte, UnclosedText, UnclosedComment, NumberTooLarge}
use Rattle.life_lex.specs.declared.scan.Scanned.{Scanned}
use Rattle.life_lex.specs.declared.scan.Scanned.TheVariants.{End, Gap, Token, Fault}
use Rattle.life_lex.proofs.LongestToken.{scanned, longest_is}

-- what the scan finds begins there
pub begins : (line_blank : Bool) (bytes : List ℕ) → Begins line_blank bytes (scan_of line_blank bytes)
unfolding scan_of
begins line_blank [] = refl
begins line_blank (b ∷ bs) = found (b ∷ bs) (omega arith) (gap_len line_blank (b ∷ bs)) refl
  where
    none : (bytes : List ℕ) → 0 < length bytes → gap_len line_blank bytes ≡ None → opens_comment bytes ≡ false → IsLongest is_token bytes None → (t : Bool) → opens_literal bytes ≡ t → Begins line_blank bytes (Fault (cond t UnclosedText BadByte))
    none bytes z g c s true is = (z, g, (c, is, s))
    none bytes z g c s false is = (z, g, (c, is, s))

    large : (bytes : List ℕ) → 0 < length bytes → gap_len line_blank bytes ≡ None → opens_comment bytes ≡ false → (n : ℕ) → IsLongest is_token bytes (Some n) → (t : Bool) → is_too_large (take n bytes) ≡ t → Begins line_blank bytes (cond t (Fault NumberTooLarge) (Token n))
    large bytes z g c n l true is = (z, g, (c, (n, l, is)))
    large bytes z g c n l false is = (g, c, l, is)

    token : (bytes : List ℕ) → 0 < length bytes → gap_len line_blank bytes ≡ None → opens_comment bytes ≡ false → (o : Option ℕ) → IsLongest is_token bytes o → Begins line_blank bytes (scan_at_token bytes o)
    token bytes z g c None s = none bytes z g c s (opens_literal bytes) refl
    token bytes z g c (Some n) s = large bytes z g c n s (is_too_large (take n bytes)) refl

    comment : (bytes : List ℕ) → 0 < length bytes → gap_len line_blank bytes ≡ None → (t : Bool) → opens_comment bytes ≡ t → Begins line_blank bytes (cond t (Fault UnclosedComment) (scan_at_token bytes (token_scan bytes)))
    comment bytes z g true is = (z, g, is)
    comment bytes z g false is = token bytes z g is (token_scan bytes) (scanned bytes)

    found : (bytes : List ℕ) → 0 < length bytes → (o : Option ℕ) → gap_len line_blank bytes ≡ o → Begins line_blank bytes (scan_at_gap bytes o)
    found bytes z (Some n) is = is
    found bytes z None is = comment bytes z is (opens_comment bytes) refl

-- a point that is not the end
past_end : (line_blank : Bool) (bytes : List ℕ) → 0 < length bytes → scan_of line_blank bytes ≡ scan_at_gap bytes (gap_len line_blank bytes)
unfolding scan_of
past_end line_blank [] z = absurd (omega arith)
past_end line_blank (b ∷ bs) z = refl

-- the scan finds the longest token
found_token : (bytes : List ℕ) (found : Option ℕ) → IsLongest is_token bytes found → token_scan bytes ≡ found
found_token bytes found l = longest_is bytes (token_scan bytes) found (scanned bytes) l

-- the fault that the scan finds where no gap begins
fault_is : (bytes : List ℕ) (kind : LexFaultKind) → IsFault kind bytes → Fault kind ≡ scan_at_gap bytes None
fault_is bytes UnclosedComment f = rw f refl
fault_is bytes NumberTooLarge f = rw (f.0, found_token bytes (Some f.1.0) f.1.1, f.1.2) refl
fault_is bytes UnclosedText f = rw (f.0, found_token bytes None f.2, f.1) refl
fault_is bytes BadByte f = rw (f.0, found_token bytes None f.2, f.1) refl

-- where a gap begins, bytes are left
some_left : (line_blank : Bool) (bytes : List ℕ) (n : ℕ) → gap_len line_blank bytes ≡ Some n → 0 < length bytes
some_left line_blank [] n e = absurd cc
some_left line_blank (b ∷ bs) n e = omega arith

-- where a token begins, bytes are left
token_left : (bytes : List ℕ) (n : ℕ) → IsLongest is_token bytes (Some n) → 0 < length bytes
token_left [] zero l = let a = l.1 in absurd cc
token_left [] (suc n) l = let a = l.1 in absurd cc
token_left (b ∷ bs) n l = omega arith

-- and nothing else does
pub begins_is : (line_blank : Bool) (bytes : List ℕ) (found : Scanned) → Begins line_blank bytes found → found ≡ scan_of line_blank bytes
unfolding scan_of
begins_is line_blank bytes End h = rw h refl
begins_is line_blank bytes (Gap n) h = rw (past_end line_blank bytes (some_left line_blank bytes n h), h) refl
begins_is line_blank bytes (Token n) h = rw (past_end line_blank bytes (token_left bytes n h.2), h.0, h.1, found_token bytes (Some n) h.2, h.3) refl
begins_is line_blank bytes (Fault kind) h = rw (past_end line_blank bytes h.0, h.1) (fault_is bytes kind h.2)
