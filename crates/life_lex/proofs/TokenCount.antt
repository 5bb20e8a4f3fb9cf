-- A file has no more tokens than bytes.
use Rattle.std.proofs.Common.{◌≡◌, ◌≤◌, ◌<◌, ◌-◌, ℕ, zero, suc, List, [], ◌∷◌, length, take, true, subst, arith}
use Rattle.std.proofs.lemmas.List.{length-drop}
use Rattle.life_lex.specs.Cursors.{Cursor, start, advance, rest_of}
use Rattle.life_lex.specs.Readings.{Lexeme, Reads, Piece, gap, token, Ending, IsPieces, lexemes_of}
use Rattle.life_lex.specs.Tokens.{is_token}

-- a token has a byte
some_bytes : (n : ℕ) (bytes : List ℕ) → is_token (take n bytes) ≡ true → 0 < n
some_bytes zero bytes h = absurd (cc h)
some_bytes (suc n) bytes h = omega arith

piece_count : (c : Cursor) (ps : List Piece) (e : Ending) → IsPieces c ps e → length (lexemes_of c ps) ≤ length c.source - c.offset
piece_count c [] e h = omega arith
piece_count c (gap n ∷ ps) e h = let rest = piece_count (advance n c) ps e h.1 in omega arith
piece_count c (token n ∷ ps) e h =
    let rest = piece_count (advance n c) ps e h.1 in
    let some : 0 < n = some_bytes n (rest_of c) h.0.2.1 in
    let within : n ≤ length c.source - c.offset = subst (λ k. n ≤ k) (length-drop c.offset c.source) h.0.2.0 in
    omega arith

pub token_count : (bytes : List ℕ) (ts : List Lexeme) (e : Ending) → Reads (start bytes) ts e → length ts ≤ length bytes
token_count bytes ts e reads =
    let counted = piece_count (start bytes) reads.0 e reads.1 in
    let listed : length ts ≡ length (lexemes_of (start bytes) reads.0) = (λ i. length (reads.2 i)) in
    omega arith
