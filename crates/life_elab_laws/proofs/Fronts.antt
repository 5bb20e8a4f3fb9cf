-- Lists, number by number: what holds of all holds of one, and lists that begin with another one.
use Rattle.std.proofs.Common.{◌≡◌, ◌≤◌, ℕ, zero, suc, Bool, true, ◌&&◌, List, [], ◌∷◌, ◌++◌, length, slice_get, Some, refl, sym, ap, ◌∙◌, subst, arith, take}
use Rattle.std.proofs.lemmas.Bool.{and_parts}
use Rattle.std.proofs.lemmas.Option.{none-some, same_Some}

-- what holds of all holds of one
pub each_at : {X : Type 0} (One : X → Type 0) (All : List X → Type 0) → ((x : X) (xs : List X) → All (x ∷ xs) → One x × All xs) → (xs : List X) (n : ℕ) (x : X) → All xs → slice_get xs n ≡ Some x → One x
each_at One All parts [] n x h at = absurd (none-some x at)
each_at One All parts (z ∷ xs) zero x h at = subst One (same_Some z x at) (parts z xs h).0
each_at One All parts (z ∷ xs) (suc n) x h at = each_at One All parts xs n x (parts z xs h).1 at

pub passed_at : {X : Type 0} (test : X → Bool) (all : List X → Bool) → ((x : X) (xs : List X) → all (x ∷ xs) ≡ (test x && all xs)) → (xs : List X) (n : ℕ) (x : X) → all xs ≡ true → slice_get xs n ≡ Some x → test x ≡ true
passed_at test all both = each_at (λ x. test x ≡ true) (λ xs. all xs ≡ true) (λ x xs h. and_parts (test x) (all xs) (sym (both x xs) ∙ h))

-- what the first has at a number, the second has there too
abbrev pub IsFront : {X : Type 0} → List X → List X → Type 0
IsFront {X} xs ys = (n : ℕ) (x : X) → slice_get xs n ≡ Some x → slice_get ys n ≡ Some x

pub front_itself : {X : Type 0} (xs : List X) → IsFront xs xs
front_itself xs n x e = e

pub front_then : {X : Type 0} (xs ys zs : List X) → IsFront xs ys → IsFront ys zs → IsFront xs zs
front_then xs ys zs f g n x e = g n x (f n x e)

pub front_append : {X : Type 0} (xs ys : List X) → IsFront xs (xs ++ ys)
front_append [] ys n x e = absurd (none-some x e)
front_append (z ∷ xs) ys zero x e = e
front_append (z ∷ xs) ys (suc n) x e = front_append xs ys n x e

-- the one behind
pub last_there : {X : Type 0} (xs : List X) (x : X) → slice_get (xs ++ x ∷ []) (length xs) ≡ Some x
last_there [] x = refl
last_there (z ∷ xs) x = last_there xs x

pub front_length : {X : Type 0} (xs ys : List X) → IsFront xs ys → length xs ≤ length ys
front_length [] ys front = omega arith
front_length (x ∷ xs) [] front = absurd (none-some x (front zero x refl))
front_length (x ∷ xs) (y ∷ ys) front = let more = front_length xs ys (λ n z e. front (suc n) z e) in omega (arith, more)

-- .. and is cut off
pub front_taken : {X : Type 0} (xs ys : List X) → IsFront xs ys → take (length xs) ys ≡ xs
front_taken [] ys front = refl
front_taken (x ∷ xs) [] front = absurd (none-some x (front zero x refl))
front_taken {X} (x ∷ xs) (y ∷ ys) front =
    ap (λ (z : X). z ∷ take (length xs) ys) (same_Some y x (front zero x refl)) ∙ ap (λ (zs : List X). x ∷ zs) (front_taken xs ys (λ n z e. front (suc n) z e))

-- .. and in two
pub front_cut : {X : Type 0} (xs ys : List X) → IsFront xs ys → (rest : List X) × (ys ≡ xs ++ rest)
front_cut [] ys front = (ys, refl)
front_cut (x ∷ xs) [] front = absurd (none-some x (front zero x refl))
front_cut {X} (x ∷ xs) (y ∷ ys) front =
    let more = front_cut xs ys (λ n z e. front (suc n) z e) in
    (more.0, ap (λ (z : X). z ∷ ys) (same_Some y x (front zero x refl)) ∙ ap (λ (zs : List X). x ∷ zs) more.1)
