-- Numbers among others.
use Rattle.std.proofs.Common.{◌≡◌, ◌<◌, ◌≤◌, ◌⊎◌, inl, inr, ℕ, zero, suc, List, [], ◌∷◌, ◌++◌, Contains, drop, length, reverse, slice_index_or, take, refl, sym, subst, arith, take-append-drop, Bool, true}
use Rattle.std.proofs.lemmas.Bool.{and_from, cases_eq}
use Rattle.std.specs.List.{list_all}
use Rattle.std.proofs.lemmas.List.{reverse-append}

-- one of them is this one
abbrev pub Among : ℕ → List ℕ → Type 0
Among y [] = ⊥
Among y (x ∷ xs) = (x ≡ y) ⊎ Among y xs

pub among_contains : (xs : List ℕ) (y : ℕ) → Among y xs → Contains xs y
among_contains [] y h = absurd h
among_contains (x ∷ xs) y (inl e) = (zero, omega arith, e)
among_contains (x ∷ xs) y (inr h) = let c = among_contains xs y h in (suc c.0, omega (arith, c.1), c.2)

pub contains_among : (xs : List ℕ) (y : ℕ) → Contains xs y → Among y xs
contains_among xs y c = go xs c.0 c.1 c.2
  where
    go : (xs : List ℕ) (k : ℕ) → k < length xs → slice_index_or xs k y ≡ y → Among y xs
    go [] k lt e = absurd (omega (arith, lt))
    go (x ∷ xs) zero lt e = inl e
    go (x ∷ xs) (suc k) lt e = inr (go xs k (omega (arith, lt)) e)

pub among_or : (y : ℕ) (xs : List ℕ) → Among y xs ⊎ (Among y xs → ⊥)
among_or y [] = inr (λ h. h)
among_or y (x ∷ xs) = elim (cases_eq x y) [
  | inl e ↦ inl (inl e)
  | inr ne ↦ elim (among_or y xs) [ inl h ↦ inl (inr h) | inr none ↦ inr (λ h. elim h [ inl e ↦ ne e | inr g ↦ none g ]) ]
]

pub among_left : (xs ys : List ℕ) (y : ℕ) → Among y xs → Among y (xs ++ ys)
among_left [] ys y h = absurd h
among_left (x ∷ xs) ys y (inl e) = inl e
among_left (x ∷ xs) ys y (inr h) = inr (among_left xs ys y h)

pub among_right : (xs ys : List ℕ) (y : ℕ) → Among y ys → Among y (xs ++ ys)
among_right [] ys y h = h
among_right (x ∷ xs) ys y h = inr (among_right xs ys y h)

pub among_either : (xs ys : List ℕ) (y : ℕ) → Among y (xs ++ ys) → Among y xs ⊎ Among y ys
among_either [] ys y h = inr h
among_either (x ∷ xs) ys y (inl e) = inl (inl e)
among_either (x ∷ xs) ys y (inr h) = elim (among_either xs ys y h) [ inl a ↦ inl (inr a) | inr b ↦ inr b ]

pub among_reverse : (xs : List ℕ) (y : ℕ) → Among y xs → Among y (reverse xs)
among_reverse [] y h = absurd h
among_reverse (x ∷ xs) y (inl e) = subst (Among y) (sym (reverse-append (x ∷ []) xs)) (among_right (reverse xs) (x ∷ []) y (inl e))
among_reverse (x ∷ xs) y (inr h) = subst (Among y) (sym (reverse-append (x ∷ []) xs)) (among_left (reverse xs) (x ∷ []) y (among_reverse xs y h))

pub reverse_among : (xs : List ℕ) (y : ℕ) → Among y (reverse xs) → Among y xs
reverse_among [] y h = absurd h
reverse_among (x ∷ xs) y h = elim (among_either (reverse xs) (x ∷ []) y (subst (Among y) (reverse-append (x ∷ []) xs) h)) [
  | inl a ↦ inr (reverse_among xs y a)
  | inr b ↦ elim b [ inl e ↦ inl e | inr none ↦ absurd none ]
]

pub among_take : (n : ℕ) (xs : List ℕ) (y : ℕ) → Among y (take n xs) → Among y xs
among_take n xs y h = subst (Among y) (take-append-drop n xs) (among_left (take n xs) (drop n xs) y h)

pub among_drop : (n : ℕ) (xs : List ℕ) (y : ℕ) → Among y (drop n xs) → Among y xs
among_drop n xs y h = subst (Among y) (take-append-drop n xs) (among_right (take n xs) (drop n xs) y h)

pub among_parts : (n : ℕ) (xs : List ℕ) (y : ℕ) → Among y xs → Among y (take n xs) ⊎ Among y (drop n xs)
among_parts n xs y h = among_either (take n xs) (drop n xs) y (subst (Among y) (sym (take-append-drop n xs)) h)

-- what each of them passes, all do
pub all_among : (test : ℕ → Bool) (xs : List ℕ) → ((y : ℕ) → Among y xs → test y ≡ true) → list_all test xs ≡ true
all_among test [] each = refl
all_among test (x ∷ xs) each = and_from (test x) (list_all test xs) (each x (inl refl)) (all_among test xs (λ y m. each y (inr m)))

-- ---- each is greater than those before it

-- .. from this one on
abbrev pub Ascend : ℕ → List ℕ → Type 0
Ascend low [] = Unit {0}
Ascend low (x ∷ xs) = (low ≤ x) × Ascend (suc x) xs

pub ascend_low : (low : ℕ) (xs : List ℕ) (y : ℕ) → Ascend low xs → Among y xs → low ≤ y
ascend_low low [] y a h = absurd h
ascend_low low (x ∷ xs) y a (inl e) = omega (arith, a.0, e)
ascend_low low (x ∷ xs) y a (inr h) = omega (arith, a.0, ascend_low (suc x) xs y a.1 h)

pub ascend_take : (n low : ℕ) (xs : List ℕ) → Ascend low xs → Ascend low (take n xs)
ascend_take zero low xs a = tt
ascend_take (suc n) low [] a = tt
ascend_take (suc n) low (x ∷ xs) a = (a.0, ascend_take n (suc x) xs a.1)

pub ascend_drop : (n low : ℕ) (xs : List ℕ) → Ascend low xs → Ascend low (drop n xs)
ascend_drop zero low xs a = a
ascend_drop (suc n) low [] a = tt
ascend_drop (suc n) low (x ∷ xs) a = lower (suc x) low (drop n xs) (omega (arith, a.0)) (ascend_drop n (suc x) xs a.1)
  where
    lower : (high low : ℕ) (ys : List ℕ) → low ≤ high → Ascend high ys → Ascend low ys
    lower high low [] h a = tt
    lower high low (y ∷ ys) h a = (omega (arith, h, a.0), a.1)

pub ascend_more : (low : ℕ) (xs : List ℕ) (n : ℕ) → Ascend low xs → low ≤ n → ((y : ℕ) → Among y xs → y < n) → Ascend low (xs ++ n ∷ [])
ascend_more low [] n a h below = (h, tt)
ascend_more low (x ∷ xs) n a h below = (a.0, ascend_more (suc x) xs n a.1 (below x (inl refl)) (λ y m. below y (inr m)))

-- none of the first is among the others
pub parts_apart : (n low : ℕ) (xs : List ℕ) (y : ℕ) → Ascend low xs → Among y (take n xs) → Among y (drop n xs) → ⊥
parts_apart zero low xs y a h g = h
parts_apart (suc n) low [] y a h g = h
parts_apart (suc n) low (x ∷ xs) y a (inl e) g = let far = ascend_low (suc x) (drop n xs) y (ascend_drop n (suc x) xs a.1) g in omega (arith, e, far)
parts_apart (suc n) low (x ∷ xs) y a (inr h) g = parts_apart n (suc x) xs y a.1 h g

-- ---- all apart

abbrev pub Apart : List ℕ → Type 0
Apart [] = Unit {0}
Apart (x ∷ xs) = (Among x xs → ⊥) × Apart xs

pub ascend_apart : (low : ℕ) (xs : List ℕ) → Ascend low xs → Apart xs
ascend_apart low [] a = tt
ascend_apart low (x ∷ xs) a = ((λ h. let far = ascend_low (suc x) xs x a.1 h in omega (arith, far)), ascend_apart (suc x) xs a.1)

apart_last : (xs : List ℕ) (x : ℕ) → Apart xs → (Among x xs → ⊥) → Apart (xs ++ x ∷ [])
apart_last [] x a no_x = ((λ h. h), tt)
apart_last (z ∷ xs) x a no_x = ((λ h. elim (among_either xs (x ∷ []) z h) [ inl m ↦ a.0 m | inr m ↦ elim m [ inl e ↦ no_x (inl (sym e)) | inr none ↦ none ] ]), apart_last xs x a.1 (λ m. no_x (inr m)))

pub apart_reverse : (xs : List ℕ) → Apart xs → Apart (reverse xs)
apart_reverse [] a = tt
apart_reverse (x ∷ xs) a = subst Apart (sym (reverse-append (x ∷ []) xs)) (apart_last (reverse xs) x (apart_reverse xs a.1) (λ m. a.0 (reverse_among xs x m)))
