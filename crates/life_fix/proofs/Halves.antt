-- A list that is cut in two, and one of its elements written in one half.
use Rattle.std.proofs.Common.{◌≡◌, ℕ, zero, suc, ◌+◌, ◌<◌, List, [], ◌∷◌, ◌++◌, refl, ap, sym, ◌∙◌, arith, Some, length, get_or}
use Rattle.std.proofs.lemmas.Option.{slice_get-get_or}
use Rattle.std.specs.Prelude.{slice_get, slice_set}

set_behind : {A : Type 0} (front back : List A) (y : A) → front ++ slice_set back 0 y ≡ slice_set (front ++ back) (length front) y
set_behind [] back y = refl
set_behind {A = A} (x ∷ front) back y = ap (λ (ys : List A). x ∷ ys) (set_behind front back y)

set_before : {A : Type 0} (front back : List A) (i : ℕ) (y : A) → i < length front → slice_set front i y ++ back ≡ slice_set (front ++ back) i y
set_before [] back i y lt = absurd (omega (arith, lt))
set_before (x ∷ front) back zero y lt = refl
set_before {A = A} (x ∷ front) back (suc i) y lt = ap (λ (ys : List A). x ∷ ys) (set_before front back i y (omega (arith, lt)))

get_behind : {A : Type 0} (front back : List A) → slice_get (front ++ back) (length front) ≡ slice_get back 0
get_behind [] back = refl
get_behind (x ∷ front) back = get_behind front back

get_before : {A : Type 0} (front back : List A) (i : ℕ) → i < length front → slice_get (front ++ back) i ≡ slice_get front i
get_before [] back i lt = absurd (omega (arith, lt))
get_before (x ∷ front) back zero lt = refl
get_before (x ∷ front) back (suc i) lt = get_before front back i (omega (arith, lt))

module _ {A : Type 0} (xs front back : List A) (n : ℕ) (is : xs ≡ front ++ back) (long : length front ≡ n) where
  -- what is read first in the second half
  pub at_behind : (x : A) → length back + n ≡ length xs → n < length xs → slice_get xs n ≡ Some (get_or back 0 x)
  at_behind x rest some = ap (λ (ys : List A). slice_get ys n) is ∙ ap (slice_get (front ++ back)) (sym long) ∙ get_behind front back ∙ slice_get-get_or back 0 x (omega (arith, rest, some))

  -- .. and somewhere in the first
  pub at_before : (i : ℕ) (x : A) → i < n → slice_get xs i ≡ Some (get_or front i x)
  at_before i x lt = ap (λ (ys : List A). slice_get ys i) is ∙ get_before front back i (omega (arith, lt, long)) ∙ slice_get-get_or front i x (omega (arith, lt, long))

  -- the first of the second half is written
  pub write_behind : (y : A) → front ++ slice_set back 0 y ≡ slice_set xs n y
  write_behind y = set_behind front back y ∙ ap (λ (k : ℕ). slice_set (front ++ back) k y) long ∙ ap (λ (ys : List A). slice_set ys n y) (sym is)

  -- .. or one of the first
  pub write_before : (i : ℕ) (y : A) → i < n → slice_set front i y ++ back ≡ slice_set xs i y
  write_before i y lt = set_before front back i y (omega (arith, lt, long)) ∙ ap (λ (ys : List A). slice_set ys i y) (sym is)
