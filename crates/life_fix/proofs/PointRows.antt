-- Rows in a list: that of point 1 stands at place 0.
use Rattle.std.proofs.Common.{◌≡◌, ◌≢◌, ℕ, zero, suc, ◌+◌, ◌<◌, ◌≤◌, List, [], ◌∷◌, ◌++◌, refl, ap, sym, ◌∙◌, inl, inr, ◌⊎◌, arith, Some, None, Option, Bool, false, length, get_or}
use Rattle.std.proofs.lemmas.Option.{get_or_from_slice_get, slice_get_within, slice_get-get_or}
use Rattle.std.specs.Borrow.{Bor}
use Rattle.std.specs.Option.{option_copied}
use Rattle.std.specs.Prelude.{IfSome, slice_get, slice_set}
use Rattle.life_plan.proofs.Places.{get_set_other, get_set_same}
use Rattle.life_fix.specs.Solution.{numbered_row, AllLimited}
use Rattle.life_fix.specs.Solving.{pairs_in, pairs_at}

-- what an index reads
pub row_at : {A : Type 0} (xs : List A) (i : ℕ) (x : A) → i < length xs → x ≡ get_or xs i x → slice_get xs i ≡ Some x
row_at xs i x h is = slice_get-get_or xs i x h ∙ ap Some (sym is)

-- what stands at a place within a list
pub there : {A : Type 0} (xs : List A) (k : ℕ) → k < length xs → (x : A) × (slice_get xs k ≡ Some x)
there [] k lt = absurd (omega (arith, lt))
there (x ∷ xs) zero lt = (x, refl)
there (x ∷ xs) (suc k) lt = there xs k (omega (arith, lt))

-- what stands in a list with one more at its end
pub push_at : {A : Type 0} (xs : List A) (y : A) (k : ℕ) (x : A) → slice_get (xs ++ y ∷ []) k ≡ Some x → (slice_get xs k ≡ Some x) ⊎ ((k ≡ length xs) × (y ≡ x))
push_at [] y zero x h = inr (refl, cc)
push_at [] y (suc k) x h = absurd (cc)
push_at (z ∷ xs) y zero x h = inl h
push_at (z ∷ xs) y (suc k) x h = elim (push_at xs y k x h) [ inl was ↦ inl was | inr new ↦ inr (ap suc new.0, new.1) ]

-- the pairs at a point are those of its row
pub pairs_of_row : {R : Type 0} (has : R → ℕ → ℕ → Bool) (rows : List R) (p i : ℕ) (row : R) → i + 1 ≡ p → slice_get rows i ≡ Some row → pairs_at has rows p ≡ has row
pairs_of_row has rows zero i row is at = absurd (omega (arith, is))
pairs_of_row has rows (suc n) i row is at =
    let e : n ≡ i = omega (arith, is) in
    ap (pairs_in has) (ap (slice_get rows) e ∙ at)

-- a point with a row is one of the points
pub within_rows : {R : Type 0} (rows : List R) (p : ℕ) (row : R) → numbered_row rows p ≡ Some row → (1 ≤ p) × (p ≤ length rows)
within_rows rows zero row at = absurd (cc)
within_rows rows (suc n) row at = let lt = slice_get_within rows n row at in (omega arith, omega (arith, lt))

-- .. and has the limits that all rows have
pub limit_at : {R : Type 0} (limit : R → ℕ) (n : ℕ) (rows : List R) (p : ℕ) (row : Option (Bor R)) → option_copied row ≡ numbered_row rows p → AllLimited limit n rows → IfSome row (λ r. limit r.now ≡ n)
limit_at limit n rows p None at all = tt
limit_at limit n rows zero (Some r) at all = absurd (cc)
limit_at limit n rows (suc k) (Some r) at all =
    let here : slice_get rows k ≡ Some r.now = sym at in
    sym (ap limit (get_or_from_slice_get rows k r.now r.now here)) ∙ all k r.now (slice_get_within rows k r.now here)

-- one row is written
module _ {R : Type 0} (has : R → ℕ → ℕ → Bool) (rows : List R) (i : ℕ) (row new : R) (at : slice_get rows i ≡ Some row) where
  fits : i < length rows
  fits = slice_get_within rows i row at

  pub pairs_same : pairs_at has (slice_set rows i new) (suc i) ≡ has new
  pairs_same = ap (pairs_in has) (get_set_same rows i new fits)

  pub pairs_other : (p : ℕ) → p ≢ suc i → pairs_at has (slice_set rows i new) p ≡ pairs_at has rows p
  pairs_other zero d = refl
  pairs_other (suc p) d = ap (pairs_in has) (get_set_other rows i p new (λ e. d (ap suc e)))

-- one more row without pairs
none_push : {R : Type 0} (has : R → ℕ → ℕ → Bool) (rows : List R) (row : R) → ((k l e : ℕ) → pairs_in has (slice_get rows k) l e ≡ false) → ((l e : ℕ) → has row l e ≡ false) → (k l e : ℕ) → pairs_in has (slice_get (rows ++ row ∷ []) k) l e ≡ false
none_push has [] row all new zero l e = new l e
none_push has [] row all new (suc k) l e = refl
none_push has (x ∷ rows) row all new zero l e = all zero l e
none_push has (x ∷ rows) row all new (suc k) l e = none_push has rows row (λ j. all (suc j)) new k l e

pub pairs_push : {R : Type 0} (has : R → ℕ → ℕ → Bool) (rows : List R) (row : R) → ((p l e : ℕ) → pairs_at has rows p l e ≡ false) → ((l e : ℕ) → has row l e ≡ false) → (p l e : ℕ) → pairs_at has (rows ++ row ∷ []) p l e ≡ false
pairs_push has rows row all new zero l e = refl
pairs_push has rows row all new (suc n) l e = none_push has rows row (λ k. all (suc k)) new n l e
