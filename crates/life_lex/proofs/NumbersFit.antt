-- The numbers of a file that has no lexical fault are longs.
use Rattle.std.proofs.Common.{◌≡◌, ℕ, ◌<◌, ◌^◌, Bool, true, false, cond, nat_lt, ◌==◌, List, [], ◌∷◌, take, refl, subst, sym, arith}
use Rattle.std.proofs.lemmas.Bool.Decides.{nat_tests}
use Rattle.std.proofs.lemmas.List.Elements.{All-nil, All-cons}
use Rattle.std.specs.Char.{is_ascii_digit}
use Rattle.std.specs.Prelude.{All}
use Rattle.life_lex.specs.Answers.{NumberFits}
use Rattle.life_lex.specs.Bytes.{is_nondigit}
use Rattle.life_lex.specs.Cursors.{Cursor, advance, rest_of}
use Rattle.life_lex.specs.Keywords.{is_keyword}
use Rattle.life_lex.specs.Kinds.{kind_of}
use Rattle.life_lex.specs.Numbers.{is_too_large, value_of}
use Rattle.life_lex.specs.Readings.{Lexeme, Reads, Piece, gap, token, Ending, IsPieces, lexemes_of, lexeme_at}
use Rattle.life_lex.specs.declared.token.TokenKind.TheVariants as kind

not_large : (text : List ℕ) → kind_of text ≡ kind.Number → is_too_large text ≡ false → value_of text < 2 ^ 63
not_large [] k h = absurd cc
not_large (b ∷ bs) k h = go (is_nondigit b) (is_ascii_digit b) refl k
  where
    small : nat_lt 9223372036854775807 (value_of (b ∷ bs)) ≡ false → value_of (b ∷ bs) < 2 ^ 63
    small n = grind (arith, nat_tests)

    go : (n d : Bool) → is_ascii_digit b ≡ d → cond n (cond (is_keyword (b ∷ bs)) kind.Keyword kind.Name) (cond d kind.Number (cond (b == 39) kind.Char (cond (b == 34) kind.Text kind.Mark))) ≡ kind.Number → value_of (b ∷ bs) < 2 ^ 63
    go true d e k = absurd (word (is_keyword (b ∷ bs)) k)
      where
        word : (c : Bool) → cond c kind.Keyword kind.Name ≡ kind.Number → ⊥
        word true k = cc
        word false k = cc
    go false true e k = small (rw e at h)
    go false false e k = absurd (other (b == 39) (b == 34) k)
      where
        other : (c s : Bool) → cond c kind.Char (cond s kind.Text kind.Mark) ≡ kind.Number → ⊥
        other true s k = cc
        other false true k = cc
        other false false k = cc

pieces_fit : (c : Cursor) (ps : List Piece) (e : Ending) → IsPieces c ps e → All NumberFits (lexemes_of c ps)
pieces_fit c [] e h = All-nil NumberFits
pieces_fit c (gap n ∷ ps) e h = pieces_fit (advance n c) ps e h.1
pieces_fit c (token n ∷ ps) e h = All-cons NumberFits (lexeme_at n c) (lexemes_of (advance n c) ps) (λ k. not_large (take n (rest_of c)) k h.0.3) (pieces_fit (advance n c) ps e h.1)

pub numbers_fit : (c : Cursor) (ts : List Lexeme) (e : Ending) → Reads c ts e → All NumberFits ts
numbers_fit c ts e reads = subst (All NumberFits) (sym reads.2) (pieces_fit c reads.0 e reads.1)
