-- What is made of each item of a list that is moved is what was made of each before, moved.
use Rattle.std.proofs.Common.{◌≡◌, ◌∙◌, ◌++◌, Bool, true, false, List, [], ◌∷◌, Contains, cond, inl, inr, map, refl, sym, ap₂, subst}
use Rattle.std.specs.List.{flat_map}
use Rattle.std.proofs.lemmas.List.{map-append}
pub use Rattle.std.proofs.lemmas.Option.{slice_get-map as slice_get_map}
use Rattle.life_contract.specs.Breaking.{of_pairs}
use Rattle.life_rules.proofs.Giving.{at_head, cons_cases, in_tail, none_in_empty}

-- ---- one list or another

-- the one that a test picks
pub cond_moved : {A B : Type 0} (m : A → B) (b : Bool) (xs ys : List A) {us vs : List B} → us ≡ map m xs → vs ≡ map m ys → cond b us vs ≡ map m (cond b xs ys)
cond_moved m true xs ys one other = one
cond_moved m false xs ys one other = other

-- both one after the other
pub append_moved : {A B : Type 0} (m : A → B) (xs ys : List A) {us vs : List B} → us ≡ map m xs → vs ≡ map m ys → us ++ vs ≡ map m (xs ++ ys)
append_moved {B = B} m xs ys one other = ap₂ (λ (first more : List B). first ++ more) one other ∙ sym (map-append m xs ys)

-- ---- what is made of each

pub flat_map_moved : {A B C D : Type 0} (h : A → C) (m : B → D) (k : C → List D) (f : A → List B) (xs : List A)
    → ((x : A) → k (h x) ≡ map m (f x)) → flat_map k (map h xs) ≡ map m (flat_map f xs)
flat_map_moved h m k f [] same = refl
flat_map_moved h m k f (x ∷ xs) same = append_moved m (f x) (flat_map f xs) (same x) (flat_map_moved h m k f xs same)

-- .. of a list that is the same
pub flat_map_each : {A B D : Type 0} (m : B → D) (k : A → List D) (f : A → List B) (xs : List A)
    → ((x : A) → k x ≡ map m (f x)) → flat_map k xs ≡ map m (flat_map f xs)
flat_map_each m k f [] same = refl
flat_map_each m k f (x ∷ xs) same = append_moved m (f x) (flat_map f xs) (same x) (flat_map_each m k f xs same)

-- .. where each is made into one
pub map_moved : {A B C D : Type 0} (h : A → C) (m : B → D) (k : C → D) (f : A → B) (xs : List A)
    → ((x : A) → k (h x) ≡ m (f x)) → map k (map h xs) ≡ map m (map f xs)
map_moved h m k f [] same = refl
map_moved {D = D} h m k f (x ∷ xs) same = ap₂ (λ (one : D) (more : List D). one ∷ more) (same x) (map_moved h m k f xs same)

pub map_each : {A B D : Type 0} (m : B → D) (k : A → D) (f : A → B) (xs : List A)
    → ((x : A) → k x ≡ m (f x)) → map k xs ≡ map m (map f xs)
map_each m k f [] same = refl
map_each {D = D} m k f (x ∷ xs) same = ap₂ (λ (one : D) (more : List D). one ∷ more) (same x) (map_each m k f xs same)

-- .. of each and each one behind it
pub of_pairs_each : {A B D : Type 0} (m : B → D) (k : A → A → List D) (f : A → A → List B) (xs : List A)
    → ((x y : A) → k x y ≡ map m (f x y)) → of_pairs k xs ≡ map m (of_pairs f xs)
of_pairs_each m k f [] same = refl
of_pairs_each m k f (x ∷ xs) same =
    append_moved m (flat_map (f x) xs) (of_pairs f xs) (flat_map_each m (k x) (f x) xs (same x)) (of_pairs_each m k f xs same)

-- ---- what is contained

pub Contains_map : {A B : Type 0} (h : A → B) (xs : List A) (x : A) → Contains xs x → Contains (map h xs) (h x)
Contains_map h [] x among = absurd (none_in_empty x among)
Contains_map h (y ∷ ys) x among =
    elim (cons_cases y ys x among) [
      | inl here ↦ subst (λ z. Contains (h y ∷ map h ys) (h z)) here (at_head (h y) (map h ys))
      | inr more ↦ in_tail (h y) (map h ys) (h x) (Contains_map h ys x more)
    ]

-- .. in a list that is the moved one
pub Contains_moved : {A B : Type 0} (h : A → B) (xs : List A) {ys : List B} → ys ≡ map h xs → (x : A) → Contains xs x → Contains ys (h x)
Contains_moved h xs same x among = subst (λ zs. Contains zs (h x)) (sym same) (Contains_map h xs x among)
