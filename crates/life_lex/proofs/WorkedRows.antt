-- Worked rows of the definitions.
use Rattle.std.proofs.Common.{◌≡◌, true, false, [], ◌∷◌, ◌++◌, refl, codes}
use Rattle.life_lex.specs.Keywords.{is_keyword}
use Rattle.life_lex.specs.Kinds.{kind_of}
use Rattle.life_lex.specs.Places.{place_at, byte_order_mark_len, line_blank_at}
use Rattle.life_lex.specs.Scan.{token_scan, scan_of}
use Rattle.life_lex.specs.declared.fault.LexFaultKind.TheVariants.{BadByte, UnclosedText, UnclosedComment, NumberTooLarge}
use Rattle.life_lex.specs.declared.scan.Scanned.TheVariants.{End, Gap, Token, Fault}
use Rattle.life_lex.specs.declared.token.TokenKind.TheVariants.{Name, Keyword}

-- lines that are passed over, and others that begin with `#`
directives : (scan_of true (codes "#include <x>") ≡ Gap 12)
    × (scan_of true (codes "#include\"a\"") ≡ Gap 11)
    × (scan_of true (codes "#  pragma  once") ≡ Gap 15)
    × (scan_of false (codes "#include <x>") ≡ Fault BadByte)
    × (scan_of true (codes "#include_next") ≡ Fault BadByte)
    × (scan_of true (codes "#pragmaonce") ≡ Fault BadByte)
    × (scan_of true (codes "#pragma once2") ≡ Fault BadByte)
unfolding scan_of token_scan
directives = (refl, refl, refl, refl, refl, refl, refl)

comments : (scan_of true (codes "/**/") ≡ Gap 4)
    × (scan_of true (codes "/*/*/a") ≡ Gap 5)
    × (scan_of true (codes "/*/") ≡ Fault UnclosedComment)
    × (scan_of true (codes "//*/") ≡ Gap 4)
    × (scan_of true (codes "//a" ++ 10 ∷ codes "a") ≡ Gap 3)
unfolding scan_of token_scan
comments = (refl, refl, refl, refl, refl)

marks : (scan_of true (codes ">>") ≡ Token 1)
    × (scan_of true (codes ">=") ≡ Token 2)
    × (scan_of true (codes "<<=") ≡ Token 2)
    × (scan_of true (codes "->") ≡ Token 2)
    × (scan_of true (codes "/=") ≡ Token 2)
    × (scan_of true (codes "||") ≡ Token 2)
    × (scan_of true (codes "|") ≡ Fault BadByte)
unfolding scan_of token_scan
marks = (refl, refl, refl, refl, refl, refl, refl)

numbers : (scan_of true (codes "9223372036854775807;") ≡ Token 19)
    × (scan_of true (codes "9223372036854775808") ≡ Fault NumberTooLarge)
    × (scan_of true (codes "012") ≡ Token 1)
    × (scan_of true (codes "099999999999999999999") ≡ Token 1)
    × (scan_of true (codes "1u") ≡ Token 1)
unfolding scan_of token_scan
numbers = (refl, refl, refl, refl, refl)

-- a byte past 127 may stand in a string literal alone
literals : (scan_of true (codes "'a'") ≡ Token 3)
    × (scan_of true (codes "'\\0'") ≡ Token 4)
    × (scan_of true (codes "\"a\\0\"") ≡ Fault UnclosedText)
    × (scan_of true (codes "\"\\\"\"") ≡ Token 4)
    × (scan_of true (codes "''") ≡ Fault UnclosedText)
    × (scan_of true (codes "'ab'") ≡ Fault UnclosedText)
    × (scan_of true (39 ∷ 200 ∷ 39 ∷ []) ≡ Fault UnclosedText)
    × (scan_of true (34 ∷ 200 ∷ 34 ∷ []) ≡ Token 3)
unfolding scan_of token_scan
literals = (refl, refl, refl, refl, refl, refl, refl, refl)

others : (scan_of true [] ≡ End)
    × (scan_of true (13 ∷ []) ≡ Gap 1)
    × (scan_of true (127 ∷ []) ≡ Fault BadByte)
    × (scan_of true (codes "_a1 b") ≡ Token 3)
unfolding scan_of token_scan
others = (refl, refl, refl, refl)

kinds : (kind_of (codes "while") ≡ Keyword)
    × (kind_of (codes "xor_eq") ≡ Keyword)
    × (kind_of (codes "whil") ≡ Name)
    × (kind_of (codes "string") ≡ Name)
unfolding is_keyword
kinds = (refl, refl, refl, refl)

-- a byte order mark takes three columns, and a directive line may begin behind it
places : (place_at (codes "a" ++ 10 ∷ codes "bc") 3 ≡ record { line = 2; column = 2 })
    × (place_at (239 ∷ 187 ∷ 191 ∷ codes "x") 3 ≡ record { line = 1; column = 4 })
    × (byte_order_mark_len (239 ∷ 187 ∷ 191 ∷ codes "x") ≡ 3)
    × (line_blank_at (239 ∷ 187 ∷ 191 ∷ codes " #") 4 ≡ true)
    × (line_blank_at (codes "/*" ++ 10 ∷ codes "*/ #") 6 ≡ false)
places = (refl, refl, refl, refl, refl)
