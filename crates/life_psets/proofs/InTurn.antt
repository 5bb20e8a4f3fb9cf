-- What numbers give, one after the other.
use Rattle.std.proofs.Common.{◌≡◌, ◌<◌, ◌≤◌, ℕ, zero, suc, ◌+◌, List, [], ◌++◌, refl, ap, sym, ◌∙◌, append_assoc, arith}
use Rattle.life_psets.specs.Sets.{in_turn}

pub next : (n : ℕ) → n + 1 ≡ suc n
next n = omega arith

module _ {A : Type 0} (given : ℕ → List A) where
  -- one more number, behind what was there
  pub turn_more : (before now after : List A) (n : ℕ) → now ≡ before ++ in_turn n given → after ≡ now ++ given n → after ≡ before ++ in_turn (n + 1) given
  turn_more before now after n was is =
      is ∙ ap (λ (xs : List A). xs ++ given n) was ∙ append_assoc before (in_turn n given) (given n) ∙ ap (λ (m : ℕ). before ++ in_turn m given) (sym (next n))

  -- all numbers
  pub turn_all : (before now : List A) (n m : ℕ) → n ≤ m → m ≤ n → now ≡ before ++ in_turn n given → now ≡ before ++ in_turn m given
  turn_all before now n m least most was = let same : n ≡ m = omega (arith, least, most) in was ∙ ap (λ (k : ℕ). before ++ in_turn k given) same

  -- numbers that give nothing
  pub turn_nothing : ((n : ℕ) → given n ≡ []) → (n : ℕ) → in_turn n given ≡ []
  turn_nothing none zero = refl
  turn_nothing none (suc n) = λ i. turn_nothing none n i ++ none n i

-- numbers that give the same
pub turn_same : {A : Type 0} (first second : ℕ → List A) (n : ℕ) → ((k : ℕ) → k < n → first k ≡ second k) → in_turn n first ≡ in_turn n second
turn_same first second zero same = refl
turn_same first second (suc n) same = λ i. turn_same first second n (λ k lt. same k (omega (arith, lt))) i ++ same n (omega arith) i
