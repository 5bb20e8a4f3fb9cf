-- Steps of a reading.
use Rattle.std.proofs.Common.{◌≡◌, ℕ, List, [], ◌∷◌, ◌++◌, refl, sym, subst, ap, append_assoc, append-nil, ◌∙◌}
use Rattle.life_lex.specs.Answers.{ReadsAlike, ReadsFirst, ReadsOnly}
use Rattle.life_lex.specs.Places.{line_blank_at}
use Rattle.life_lex.specs.Cursors.{Cursor, rest_of, advance}
use Rattle.life_lex.specs.Readings.{Lexeme, lexeme_at, fault_at, Ending, whole, broken, Piece, gap, token, BeginsAt, EndsAt, IsPieces, lexemes_of, Reads}
use Rattle.life_lex.specs.Scan.{scan_at}
use Rattle.life_lex.specs.declared.fault.LexFault.{LexFault}
use Rattle.life_lex.specs.declared.fault.LexFaultKind.{LexFaultKind}
use Rattle.life_lex.specs.declared.scan.Scanned.{Scanned}
use Rattle.life_lex.specs.declared.scan.Scanned.TheVariants.{End, Gap, Token, Fault}
use Rattle.life_lex.proofs.Beginnings.{begins, begins_is}

-- one thing alone begins at a point
one_begins : (c : Cursor) (a b : Scanned) → BeginsAt c a → BeginsAt c b → a ≡ b
one_begins c a b p q = begins_is (line_blank_at c.source c.offset) (rest_of c) a p ∙ sym (begins_is (line_blank_at c.source c.offset) (rest_of c) b q)

-- what the scan finds begins there
found_begins : (c : Cursor) (found : Scanned) → found ≡ scan_at c → BeginsAt c found
found_begins c found is = subst (λ (s : Scanned). BeginsAt c s) (sym is) (begins (line_blank_at c.source c.offset) (rest_of c))

-- behind a gap the same is read
behind_gap : (c : Cursor) (n : ℕ) → BeginsAt c (Gap n) → (ts : List Lexeme) (ps : List Piece) (e : Ending) → IsPieces c ps e → ts ≡ lexemes_of c ps → Reads (advance n c) ts e
behind_gap c n b ts [] whole p is = let x = one_begins c End (Gap n) p b in absurd cc
behind_gap c n b ts [] (broken f) p is = let x = one_begins c (Fault f.kind) (Gap n) p.0 b in absurd cc
behind_gap c n b ts (gap m ∷ ps) e p is =
    let x = one_begins c (Gap m) (Gap n) p.0 b in
    let y : m ≡ n = cc in
    (ps, subst (λ (k : ℕ). IsPieces (advance k c) ps e) y p.1, subst (λ (k : ℕ). ts ≡ lexemes_of (advance k c) ps) y is)
behind_gap c n b ts (token m ∷ ps) e p is = let x = one_begins c (Token m) (Gap n) p.0 b in absurd cc

-- behind a token the rest is read
behind_token : (c : Cursor) (n : ℕ) → BeginsAt c (Token n) → (ts : List Lexeme) (ps : List Piece) (e : Ending) → IsPieces c ps e → ts ≡ lexemes_of c ps → (rest : List Lexeme) × (ts ≡ lexeme_at n c ∷ rest) × Reads (advance n c) rest e
behind_token c n b ts [] whole p is = let x = one_begins c End (Token n) p b in absurd cc
behind_token c n b ts [] (broken f) p is = let x = one_begins c (Fault f.kind) (Token n) p.0 b in absurd cc
behind_token c n b ts (gap m ∷ ps) e p is = let x = one_begins c (Gap m) (Token n) p.0 b in absurd cc
behind_token c n b ts (token m ∷ ps) e p is =
    let x = one_begins c (Token m) (Token n) p.0 b in
    let y : m ≡ n = cc in
    subst (λ (k : ℕ). (rest : List Lexeme) × (ts ≡ lexeme_at k c ∷ rest) × Reads (advance k c) rest e) y (lexemes_of (advance m c) ps, is, (ps, p.1, refl))

-- at an end nothing else is read
at_end : (c : Cursor) (e : Ending) → EndsAt c e → (ts : List Lexeme) (ps : List Piece) (f : Ending) → IsPieces c ps f → ts ≡ lexemes_of c ps → (ts ≡ []) × (f ≡ e)
at_end c whole b ts [] whole p is = (is, refl)
at_end c whole b ts [] (broken f) p is = let x = one_begins c (Fault f.kind) End p.0 b in absurd cc
at_end c whole b ts (gap m ∷ ps) f p is = let x = one_begins c (Gap m) End p.0 b in absurd cc
at_end c whole b ts (token m ∷ ps) f p is = let x = one_begins c (Token m) End p.0 b in absurd cc
at_end c (broken f) b ts [] whole p is = let x = one_begins c (Fault f.kind) End b.0 p in absurd cc
at_end c (broken f) b ts [] (broken g) p is =
    let x = one_begins c (Fault g.kind) (Fault f.kind) p.0 b.0 in
    let y : g.kind ≡ f.kind = cc in
    (is, ap broken (p.1 ∙ ap (λ (k : LexFaultKind). fault_at k c) y ∙ sym b.1))
at_end c (broken f) b ts (gap m ∷ ps) e p is = let x = one_begins c (Gap m) (Fault f.kind) p.0 b.0 in absurd cc
at_end c (broken f) b ts (token m ∷ ps) e p is = let x = one_begins c (Token m) (Fault f.kind) p.0 b.0 in absurd cc

pub alike_self : (c : Cursor) → ReadsAlike c c
alike_self c ts e = (λ r. r, λ r. r)

-- a gap is passed over
pub gap_passed : (a c d : Cursor) (n : ℕ) → ReadsAlike a c → Gap n ≡ scan_at c → d ≡ advance n c → ReadsAlike a d
gap_passed a c d n alike found is = subst (λ (x : Cursor). ReadsAlike a x) (sym is) passed
  where
    passed : ReadsAlike a (advance n c)
    passed ts e =
        let b = found_begins c (Gap n) found in
        (λ r. let s = (alike ts e).0 r in behind_gap c n b ts s.0 e s.1 s.2, λ r. (alike ts e).1 (gap n ∷ r.0, (b, r.1), r.2))

-- a token is taken
pub token_taken : (a c d : Cursor) (n : ℕ) (t : Lexeme) → ReadsAlike a c → Token n ≡ scan_at c → t ≡ lexeme_at n c → d ≡ advance n c → ReadsFirst a (t ∷ []) d
token_taken a c d n t alike found at is =
    subst (λ (u : Lexeme). ReadsFirst a (u ∷ []) d) (sym at) (subst (λ (x : Cursor). ReadsFirst a (lexeme_at n c ∷ []) x) (sym is) taken)
  where
    back : (us rest : List Lexeme) (e : Ending) → us ≡ lexeme_at n c ∷ rest → Reads (advance n c) rest e → Reads c us e
    back us rest e at r = (token n ∷ r.0, (found_begins c (Token n) found, r.1), at ∙ ap (λ (ts : List Lexeme). lexeme_at n c ∷ ts) r.2)

    taken : ReadsFirst a (lexeme_at n c ∷ []) (advance n c)
    taken us e = (
      λ r. let s = (alike us e).0 r in behind_token c n (found_begins c (Token n) found) us s.0 e s.1 s.2,
      λ r. (alike us e).1 (back us r.0 e r.1 r.2),
    )

only : (a c : Cursor) (e : Ending) → ReadsAlike a c → EndsAt c e → ReadsOnly a [] e
only a c e alike b = ((alike [] e).1 ([], b, refl), λ us f r. let s = (alike us f).0 r in at_end c e b us s.0 f s.1 s.2)

-- the end is reached
pub end_reached : (a c : Cursor) → ReadsAlike a c → End ≡ scan_at c → ReadsOnly a [] whole × ReadsOnly c [] whole
end_reached a c alike found =
    let b = found_begins c End found in
    (only a c whole alike b, only c c whole (alike_self c) b)

-- a fault is reached
pub fault_reached : (a c : Cursor) (kind : LexFaultKind) (fault : LexFault) → ReadsAlike a c → Fault kind ≡ scan_at c → fault ≡ fault_at kind c → ReadsOnly a [] (broken fault) × ReadsOnly c [] (broken fault)
fault_reached a c kind fault alike found is =
    subst (λ (f : LexFault). ReadsOnly a [] (broken f) × ReadsOnly c [] (broken f)) (sym is) (only a c (broken (fault_at kind c)) alike b, only c c (broken (fault_at kind c)) (alike_self c) b)
  where
    b : EndsAt c (broken (fault_at kind c))
    b = (found_begins c (Fault kind) found, refl)

-- no token is read yet
pub first_none : (a b : Cursor) (ts : List Lexeme) → ts ≡ [] → b ≡ a → ReadsFirst a ts b
first_none a b ts none is = subst (λ (us : List Lexeme). ReadsFirst a us b) (sym none) (subst (λ (c : Cursor). ReadsFirst a [] c) (sym is) here)
  where
    here : ReadsFirst a [] a
    here us e = (λ r. (us, refl, r), λ x. subst (λ (vs : List Lexeme). Reads a vs e) (sym x.1) x.2)

-- one token more is read
pub first_more : (a b c : Cursor) (ts us : List Lexeme) (t : Lexeme) → ReadsFirst a ts b → ReadsFirst b (t ∷ []) c → us ≡ ts ++ (t ∷ []) → ReadsFirst a us c
first_more a b c ts us t first next is = subst (λ (vs : List Lexeme). ReadsFirst a vs c) (sym is) more
  where
    more : ReadsFirst a (ts ++ (t ∷ [])) c
    more vs e = (
      λ r. let x = (first vs e).0 r in let y = (next x.0 e).0 x.2 in
          (y.0, x.1 ∙ ap (λ (zs : List Lexeme). ts ++ zs) y.1 ∙ sym (append_assoc ts (t ∷ []) y.0), y.2),
      λ x. (first vs e).1 (t ∷ x.0, x.1 ∙ append_assoc ts (t ∷ []) x.0, (next (t ∷ x.0) e).1 (x.0, refl, x.2)),
    )

-- all is read
pub first_only : (a b : Cursor) (ts : List Lexeme) (e : Ending) → ReadsFirst a ts b → ReadsOnly b [] e → ReadsOnly a ts e
first_only a b ts e first last = (
  (first ts e).1 ([], sym (append-nil ts), last.0),
  λ us f r. let x = (first us f).0 r in let y = last.1 x.0 f x.2 in (x.1 ∙ ap (λ (zs : List Lexeme). ts ++ zs) y.0 ∙ append-nil ts, y.1),
)
