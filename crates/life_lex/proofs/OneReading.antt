-- A file reads in one way: its tokens and its ending are unique.
use Rattle.std.proofs.Common.{◌≡◌, ℕ, refl, sym, ◌∙◌, ap, subst, List, [], ◌∷◌}
use Rattle.life_lex.proofs.Beginnings.{begins_is}
use Rattle.life_lex.specs.Cursors.{Cursor, start, rest_of, advance}
use Rattle.life_lex.specs.Places.{line_blank_at}
use Rattle.life_lex.specs.Readings.{Lexeme, Ending, whole, broken, Piece, gap, token, BeginsAt, IsPieces, lexemes_of, Reads, Lexes, Faults, fault_at}
use Rattle.life_lex.specs.declared.fault.LexFault.{LexFault}
use Rattle.life_lex.specs.declared.fault.LexFaultKind.{LexFaultKind}
use Rattle.life_lex.specs.declared.scan.Scanned.{Scanned}
use Rattle.life_lex.specs.declared.scan.Scanned.TheVariants.{End, Gap, Token, Fault}

-- one thing begins at a point
one_beginning : (c : Cursor) (a b : Scanned) → BeginsAt c a → BeginsAt c b → a ≡ b
one_beginning c a b p q =
    begins_is (line_blank_at c.source c.offset) (rest_of c) a p ∙ sym (begins_is (line_blank_at c.source c.offset) (rest_of c) b q)

-- what begins where these pieces and this ending stand
next_of : List Piece → Ending → Scanned
next_of [] whole = End
next_of [] (broken fault) = Fault fault.kind
next_of (gap n ∷ ps) e = Gap n
next_of (token n ∷ ps) e = Token n

next_begins : (c : Cursor) (ps : List Piece) (e : Ending) → IsPieces c ps e → BeginsAt c (next_of ps e)
unfolding next_of
next_begins c [] whole p = p
next_begins c [] (broken fault) p = p.0
next_begins c (gap n ∷ ps) e p = p.0
next_begins c (token n ∷ ps) e p = p.0

same_next : (c : Cursor) (ps qs : List Piece) (e f : Ending) → IsPieces c ps e → IsPieces c qs f → next_of ps e ≡ next_of qs f
same_next c ps qs e f p q = one_beginning c (next_of ps e) (next_of qs f) (next_begins c ps e p) (next_begins c qs f q)

length_of : Scanned → ℕ
length_of End = 0
length_of (Gap n) = n
length_of (Token n) = n
length_of (Fault kind) = 0

kind_or : LexFaultKind → Scanned → LexFaultKind
kind_or k End = k
kind_or k (Gap n) = k
kind_or k (Token n) = k
kind_or k (Fault kind) = kind

pub record SameReading (ps qs : List Piece) (e f : Ending) : Type 0 where
  pub pieces : ps ≡ qs
  pub ending : e ≡ f

same_fault : (c : Cursor) (e f : LexFault) → e ≡ fault_at e.kind c → f ≡ fault_at f.kind c → Fault e.kind ≡ Fault f.kind → broken e ≡ broken f
unfolding kind_or
same_fault c e f p q same = ap broken (p ∙ ap (λ k. fault_at k c) (ap (kind_or e.kind) same) ∙ sym q)

one_piece_list : (c : Cursor) (ps qs : List Piece) (e f : Ending) → IsPieces c ps e → IsPieces c qs f → next_of ps e ≡ next_of qs f → SameReading ps qs e f
unfolding next_of length_of
one_piece_list c [] [] whole whole p q same = record { pieces = refl; ending = refl }
one_piece_list c [] [] whole (broken f) p q same = absurd (cc same)
one_piece_list c [] [] (broken e) whole p q same = absurd (cc same)
one_piece_list c [] [] (broken e) (broken f) p q same = record { pieces = refl; ending = same_fault c e f p.1 q.1 same }
one_piece_list c [] (gap n ∷ qs) whole f p q same = absurd (cc same)
one_piece_list c [] (gap n ∷ qs) (broken e) f p q same = absurd (cc same)
one_piece_list c [] (token n ∷ qs) whole f p q same = absurd (cc same)
one_piece_list c [] (token n ∷ qs) (broken e) f p q same = absurd (cc same)
one_piece_list c (gap n ∷ ps) [] e whole p q same = absurd (cc same)
one_piece_list c (gap n ∷ ps) [] e (broken f) p q same = absurd (cc same)
one_piece_list c (token n ∷ ps) [] e whole p q same = absurd (cc same)
one_piece_list c (token n ∷ ps) [] e (broken f) p q same = absurd (cc same)
one_piece_list c (gap n ∷ ps) (token m ∷ qs) e f p q same = absurd (cc same)
one_piece_list c (token n ∷ ps) (gap m ∷ qs) e f p q same = absurd (cc same)
one_piece_list c (gap n ∷ ps) (gap m ∷ qs) e f p q same =
    let at : n ≡ m = ap length_of same in
    let there : IsPieces (advance n c) qs f = subst (λ k. IsPieces (advance k c) qs f) (sym at) q.1 in
    let rest = one_piece_list (advance n c) ps qs e f p.1 there (same_next (advance n c) ps qs e f p.1 there) in
    record { pieces = (λ i. gap (at i) ∷ rest.pieces i); ending = rest.ending }
one_piece_list c (token n ∷ ps) (token m ∷ qs) e f p q same =
    let at : n ≡ m = ap length_of same in
    let there : IsPieces (advance n c) qs f = subst (λ k. IsPieces (advance k c) qs f) (sym at) q.1 in
    let rest = one_piece_list (advance n c) ps qs e f p.1 there (same_next (advance n c) ps qs e f p.1 there) in
    record { pieces = (λ i. token (at i) ∷ rest.pieces i); ending = rest.ending }

pub record SameTokens (ts us : List Lexeme) (e f : Ending) : Type 0 where
  pub tokens : ts ≡ us
  pub ending : e ≡ f

-- two readings of one file are equal
pub one_reading : (c : Cursor) (ts us : List Lexeme) (e f : Ending) → Reads c ts e → Reads c us f → SameTokens ts us e f
one_reading c ts us e f p q =
    let same = one_piece_list c p.0 q.0 e f p.1 q.1 (same_next c p.0 q.0 e f p.1 q.1) in
    record { tokens = p.2 ∙ ap (lexemes_of c) same.pieces ∙ sym q.2; ending = same.ending }

pub one_list : (source : List ℕ) (ts us : List Lexeme) → Lexes source ts → Lexes source us → ts ≡ us
one_list source ts us p q = (one_reading (start source) ts us whole whole p q).tokens

pub one_fault : (source : List ℕ) (a b : LexFault) → Faults source a → Faults source b → broken a ≡ broken b
one_fault source a b p q = (one_reading (start source) p.0 q.0 (broken a) (broken b) p.1 q.1).ending

pub list_or_fault : (source : List ℕ) (ts : List Lexeme) (fault : LexFault) → Lexes source ts → Faults source fault → whole ≡ broken fault
list_or_fault source ts fault p q = (one_reading (start source) ts q.0 whole (broken fault) p q.1).ending
