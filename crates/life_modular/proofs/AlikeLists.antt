-- What is made of each item of a list is the same where it is the same of each item that is there.
use Rattle.std.proofs.Common.{◌≡◌, ◌++◌, ◌||◌, ℕ, zero, suc, Bool, List, [], ◌∷◌, Option, Some, None, Contains, inl, inr, map, slice_get, take, drop, take-append-drop, refl, ap₂, subst}
use Rattle.std.specs.List.{flat_map, list_any}
use Rattle.std.proofs.lemmas.List.Elements.{Contains-append_cases, Contains-append_left}
use Rattle.life_contract.specs.Breaking.{of_pairs}
use Rattle.life_rules.proofs.Giving.{at_head, cons_cases, flat_map_from, in_tail, none_in_empty}

-- ---- what is made of each

pub flat_map_same : {A B : Type 0} (f g : A → List B) (xs : List A) → ((x : A) → Contains xs x → f x ≡ g x) → flat_map f xs ≡ flat_map g xs
flat_map_same f g [] same = refl
flat_map_same {B = B} f g (x ∷ xs) same = ap₂ (λ (one more : List B). one ++ more) (same x (at_head x xs)) (flat_map_same f g xs (λ y among. same y (in_tail x xs y among)))

pub any_same : {A : Type 0} (f g : A → Bool) (xs : List A) → ((x : A) → Contains xs x → f x ≡ g x) → list_any f xs ≡ list_any g xs
any_same f g [] same = refl
any_same f g (x ∷ xs) same = ap₂ (λ (one more : Bool). one || more) (same x (at_head x xs)) (any_same f g xs (λ y among. same y (in_tail x xs y among)))

-- ---- .. and so is what is made of each item's counterpart

pub flat_map_mapped : {A B C : Type 0} (m : A → B) (f : B → List C) (g : A → List C) (xs : List A) → ((x : A) → Contains xs x → f (m x) ≡ g x) → flat_map f (map m xs) ≡ flat_map g xs
flat_map_mapped m f g [] same = refl
flat_map_mapped {C = C} m f g (x ∷ xs) same =
    ap₂ (λ (one more : List C). one ++ more) (same x (at_head x xs)) (flat_map_mapped m f g xs (λ y among. same y (in_tail x xs y among)))

pub any_mapped : {A B : Type 0} (m : A → B) (f : B → Bool) (g : A → Bool) (xs : List A) → ((x : A) → Contains xs x → f (m x) ≡ g x) → list_any f (map m xs) ≡ list_any g xs
any_mapped m f g [] same = refl
any_mapped m f g (x ∷ xs) same = ap₂ (λ (one more : Bool). one || more) (same x (at_head x xs)) (any_mapped m f g xs (λ y among. same y (in_tail x xs y among)))

pub of_pairs_mapped : {A B C : Type 0} (m : A → B) (f : B → B → List C) (g : A → A → List C) (xs : List A)
    → ((x y : A) → Contains xs x → Contains xs y → f (m x) (m y) ≡ g x y) → of_pairs f (map m xs) ≡ of_pairs g xs
of_pairs_mapped m f g [] same = refl
of_pairs_mapped {C = C} m f g (x ∷ xs) same =
    ap₂ (λ (one more : List C). one ++ more)
    (flat_map_mapped m (f (m x)) (g x) xs (λ y among. same x y (at_head x xs) (in_tail x xs y among)))
    (of_pairs_mapped m f g xs (λ y z one other. same y z (in_tail x xs y one) (in_tail x xs z other)))

-- ---- what holds of each

-- .. holds of what stands at a place, if anything does
pub each_place : {A : Type 0} (P : Option A → Type 0) → P None → (xs : List A) → ((x : A) → Contains xs x → P (Some x)) → (n : ℕ) → P (slice_get xs n)
each_place P none [] each n = none
each_place P none (x ∷ xs) each zero = each x (at_head x xs)
each_place P none (x ∷ xs) each (suc n) = each_place P none xs (λ y among. each y (in_tail x xs y among)) n

pub each_more : {A : Type 0} (P : A → Type 0) (x : A) (xs : List A) → P x → ((y : A) → Contains xs y → P y) → (z : A) → Contains (x ∷ xs) z → P z
each_more P x xs one more z among = elim (cons_cases x xs z among) [ inl here ↦ subst P here one | inr there ↦ more z there ]

pub each_flat_map : {A B : Type 0} (P : B → Type 0) (g : A → List B) (xs : List A) → ((x : A) → Contains xs x → (y : B) → Contains (g x) y → P y) → (y : B) → Contains (flat_map g xs) y → P y
each_flat_map P g xs each y among = let from = flat_map_from g xs y among in each from.0 from.1.0 y from.1.1

pub each_of_pairs : {A B : Type 0} (P : B → Type 0) (g : A → A → List B) (xs : List A) → ((x y : A) (z : B) → Contains (g x y) z → P z) → (z : B) → Contains (of_pairs g xs) z → P z
each_of_pairs P g [] each z among = absurd (none_in_empty z among)
each_of_pairs P g (x ∷ xs) each z among =
    elim (Contains-append_cases (flat_map (g x) xs) (of_pairs g xs) z among) [
      | inl first ↦ each_flat_map P (g x) xs (λ y _. each x y) z first
      | inr others ↦ each_of_pairs P g xs each z others
    ]

pub each_one : {A : Type 0} (P : A → Type 0) (x : A) → P x → (y : A) → Contains (x ∷ []) y → P y
each_one P x one y among = elim (cons_cases x [] y among) [ inl here ↦ subst P here one | inr none ↦ absurd (none_in_empty y none) ]

pub each_append : {A : Type 0} (P : A → Type 0) (xs ys : List A) → ((x : A) → Contains xs x → P x) → ((y : A) → Contains ys y → P y) → (z : A) → Contains (xs ++ ys) z → P z
each_append P xs ys first second z among = elim (Contains-append_cases xs ys z among) [ inl one ↦ first z one | inr other ↦ second z other ]

pub each_map : {A B : Type 0} (P : B → Type 0) (g : A → B) (xs : List A) → ((x : A) → Contains xs x → P (g x)) → (y : B) → Contains (map g xs) y → P y
each_map P g [] each y among = absurd (none_in_empty y among)
each_map P g (x ∷ xs) each y among =
    elim (cons_cases (g x) (map g xs) y among) [
      | inl here ↦ subst P here (each x (at_head x xs))
      | inr more ↦ each_map P g xs (λ z there. each z (in_tail x xs z there)) y more
    ]

pub in_front : {A : Type 0} (n : ℕ) (xs : List A) (x : A) → Contains (take n xs) x → Contains xs x
in_front n xs x among = subst (λ ys. Contains ys x) (take-append-drop n xs) (Contains-append_left (take n xs) (drop n xs) x among)
