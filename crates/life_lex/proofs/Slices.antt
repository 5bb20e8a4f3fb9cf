-- Each token is a slice of the source.
use Rattle.std.proofs.Common.{◌≡◌, ℕ, ◌+◌, ◌≤◌, List, [], ◌∷◌, length, take, refl, arith}
use Rattle.std.proofs.lemmas.List.{length-take}
use Rattle.life_lex.specs.Cursors.{Cursor, start, advance, rest_of}
use Rattle.life_lex.specs.Slices.{AreSlices}
use Rattle.life_lex.specs.Readings.{Lexeme, Ending, Piece, gap, token, IsPieces, lexemes_of, Reads}

slices_from : (c : Cursor) (low : ℕ) → low ≤ c.offset → (ps : List Piece) (e : Ending) → IsPieces c ps e → AreSlices low c.source (lexemes_of c ps)
slices_from c low behind [] e p = tt
slices_from c low behind (gap n ∷ ps) e p = slices_from (advance n c) low (omega arith) ps e p.1
slices_from c low behind (token n ∷ ps) e p =
    let long : length (take n (rest_of c)) ≡ n = let k = p.0.2.0 in omega (arith, length-take n (rest_of c)) in
    (behind, rw long refl, rw long (slices_from (advance n c) (c.offset + n) (omega arith) ps e p.1))

-- the tokens of a reading are slices
pub slices_of_reading : (source : List ℕ) (ts : List Lexeme) (e : Ending) → Reads (start source) ts e → AreSlices 0 source ts
slices_of_reading source ts e r = rw r.2 (slices_from (start source) 0 (omega arith) r.0 e r.1)
