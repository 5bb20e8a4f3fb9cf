-- The number that digits spell, digit by digit.
use Rattle.std.proofs.Common.{ℕ, ◌+◌, ◌-◌, ◌*◌, ◌<◌, ◌≤◌, List, [], ◌∷◌, fold, length, get_or, drop, arith}
use Rattle.std.proofs.lemmas.List.{at_drop_more}
use Rattle.life_lex.specs.Numbers.{next_value}

-- further digits make it no less
fold-le : (value : ℕ) (digits : List ℕ) → value ≤ fold next_value value digits
fold-le value [] = omega arith
fold-le value (d ∷ ds) = omega (arith, fold-le (next_value value d) ds)

-- nor does the rest of the digits
pub step-le : (value : ℕ) (digits : List ℕ) (i : ℕ) → i < length digits → value * 10 + (get_or digits i 0 - 48) ≤ fold next_value value (drop i digits)
step-le value digits i h =
    omega (arith, at_drop_more (fold next_value value) digits i 0 h, fold-le (next_value value (get_or digits i 0)) (drop (i + 1) digits))
