-- Lists of which one item is replaced, or one more is added.
use Rattle.std.proofs.Common.{◌≡◌, ◌≢◌, ◌<◌, ℕ, zero, suc, List, [], ◌∷◌, ◌++◌, length, Some, None, inl, inr, ◌⊎◌, refl, ap, sym, ◌∙◌, arith}
use Rattle.std.proofs.lemmas.Option.{slice_get_within}
use Rattle.std.specs.Prelude.{slice_get, slice_set}
use Rattle.life_plan.proofs.Naming.{same_item}

pub get_set_same : {A : Type 0} (xs : List A) (i : ℕ) (y : A) → i < length xs → slice_get (slice_set xs i y) i ≡ Some y
get_set_same [] i y h = absurd (omega (arith, h))
get_set_same (x ∷ xs) zero y h = refl
get_set_same (x ∷ xs) (suc i) y h = get_set_same xs i y (omega (arith, h))

pub get_set_other : {A : Type 0} (xs : List A) (i p : ℕ) (y : A) → p ≢ i → slice_get (slice_set xs i y) p ≡ slice_get xs p
get_set_other [] i p y h = refl
get_set_other (x ∷ xs) zero zero y h = absurd (h refl)
get_set_other (x ∷ xs) zero (suc p) y h = refl
get_set_other (x ∷ xs) (suc i) zero y h = refl
get_set_other (x ∷ xs) (suc i) (suc p) y h = get_set_other xs i p y (λ e. h (ap suc e))

pub same_or_not : (m n : ℕ) → (m ≡ n) ⊎ (m ≢ n)
same_or_not zero zero = inl refl
same_or_not zero (suc n) = inr (λ h. omega (arith, h))
same_or_not (suc m) zero = inr (λ h. omega (arith, h))
same_or_not (suc m) (suc n) = elim (same_or_not m n) [ inl e ↦ inl (ap suc e) | inr d ↦ inr (λ h. d (omega (arith, h))) ]

-- what stands in a list of which an item was replaced: the new one, or another
pub set_cases : {A : Type 0} (xs : List A) (i k : ℕ) (y z : A) → slice_get (slice_set xs i y) k ≡ Some z → i < length xs → ((k ≡ i) × (z ≡ y)) ⊎ ((k ≢ i) × (slice_get xs k ≡ Some z))
set_cases xs i k y z at lt =
    elim (same_or_not k i) [
      | inl is ↦ inl (is, same_item (slice_get (slice_set xs i y) i) z y (ap (slice_get (slice_set xs i y)) (sym is) ∙ at) (get_set_same xs i y lt))
      | inr other ↦ inr (other, sym (get_set_other xs i k y other) ∙ at)
    ]

-- what stands in a list with one more: what stood there, or the new one
pub push_cases : {A : Type 0} (xs : List A) (k : ℕ) (y z : A) → slice_get (xs ++ y ∷ []) k ≡ Some z → (slice_get xs k ≡ Some z) ⊎ ((k ≡ length xs) × (z ≡ y))
push_cases [] zero y z at = inr (refl, sym (inside at))
  where
    inside : Some y ≡ Some z → y ≡ z
    inside h = cc
push_cases [] (suc k) y z at = absurd (none_is at)
  where
    none_is : None ≡ Some z → ⊥
    none_is h = cc
push_cases (x ∷ xs) zero y z at = inl at
push_cases (x ∷ xs) (suc k) y z at = elim (push_cases xs k y z at) [ inl was ↦ inl was | inr new ↦ inr (ap suc new.0, new.1) ]

pub push_early : {A : Type 0} (xs : List A) (k : ℕ) (y z : A) → slice_get xs k ≡ Some z → slice_get (xs ++ y ∷ []) k ≡ Some z
push_early [] k y z at = absurd (omega (arith, slice_get_within [] k z at))
push_early (x ∷ xs) zero y z at = at
push_early (x ∷ xs) (suc k) y z at = push_early xs k y z at

pub push_new : {A : Type 0} (xs : List A) (y : A) → slice_get (xs ++ y ∷ []) (length xs) ≡ Some y
push_new [] y = refl
push_new (x ∷ xs) y = push_new xs y
