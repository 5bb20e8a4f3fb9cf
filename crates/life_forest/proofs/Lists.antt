-- Fronts and backs of lists of a known length.
use Rattle.std.proofs.Common.{◌≡◌, ℕ, zero, suc, ◌+◌, List, [], ◌∷◌, ◌++◌, length, refl, ap, arith}
use Rattle.std.specs.Prelude.{take, drop}

module _ {A : Type 0} where
  pub take_front : (n : ℕ) (xs ys : List A) → length xs ≡ n → take n (xs ++ ys) ≡ xs
  take_front zero [] ys e = refl
  take_front zero (x ∷ xs) ys e = absurd (omega (arith, e))
  take_front (suc n) [] ys e = absurd (omega (arith, e))
  take_front (suc n) (x ∷ xs) ys e = ap (λ (zs : List A). x ∷ zs) (take_front n xs ys (omega (arith, e)))

  pub drop_front : (n : ℕ) (xs ys : List A) → length xs ≡ n → drop n (xs ++ ys) ≡ ys
  drop_front zero [] ys e = refl
  drop_front zero (x ∷ xs) ys e = absurd (omega (arith, e))
  drop_front (suc n) [] ys e = absurd (omega (arith, e))
  drop_front (suc n) (x ∷ xs) ys e = drop_front n xs ys (omega (arith, e))

  pub length_front : (n m : ℕ) (xs : List A) → length xs ≡ n + m → length (take n xs) ≡ n
  length_front zero m xs e = refl
  length_front (suc n) m [] e = absurd (omega (arith, e))
  length_front (suc n) m (x ∷ xs) e = ap suc (length_front n m xs (omega (arith, e)))

  pub length_back : (n m : ℕ) (xs : List A) → length xs ≡ n + m → length (drop n xs) ≡ m
  length_back zero m xs e = omega (arith, e)
  length_back (suc n) m [] e = absurd (omega (arith, e))
  length_back (suc n) m (x ∷ xs) e = length_back n m xs (omega (arith, e))
