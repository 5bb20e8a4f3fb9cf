-- What stands in a cell whose local isn't there, and cells one of which was written.
use Rattle.std.proofs.Common.{◌≡◌, ◌≢◌, ℕ, zero, suc, Bool, false, List, [], ◌∷◌, map, Option, Some, None, refl, sym, ap, ◌∙◌, ⊎_elim, inl, inr, ◌⊎◌}
use Rattle.std.specs.Prelude.{slice_get, slice_set, option_map}
use Rattle.std.proofs.lemmas.Bool.{false≢true}
use Rattle.std.proofs.lemmas.List.{map-set}
use Rattle.std.proofs.lemmas.Option.{slice_get-map}
use Rattle.life_core.specs.Ready.{IsBit}
use Rattle.life_store.specs.Cells.{Cells, at, set, unset, at-set_same, at-set_other, at-unset_same, at-unset_other}
use Rattle.life_store.specs.State.{Cell, Empty, Named, Number, Points, is_there}
use Rattle.std.proofs.lemmas.Bool.Decides.{eqb_tells}

-- ---- by whether it is there

pub some_same : {A : Type 0} {a b : A} → Some a ≡ Some b → a ≡ b
some_same e = cc

pub none_some : {A : Type 0} {a : A} → ◌≡◌ {A = Option A} None (Some a) → ⊥
none_some e = cc

abbrev IsCell : Bool → Option Cell → Type 0
IsCell there o = option_map is_there o ≡ Some there

-- a local that is there has a cell that isn't empty
there_cell : (cells : List Cell) (x : ℕ) (there : Bool) → IsBit (map is_there cells) x there → IsCell there (slice_get cells x)
there_cell cells x there is = sym (slice_get-map is_there cells x) ∙ is

pub empty_cell_is : (cells : List Cell) (x : ℕ) → IsBit (map is_there cells) x false → slice_get cells x ≡ Some Empty
empty_cell_is cells x is = go (slice_get cells x) refl (there_cell cells x false is)
  where
    go : (o : Option Cell) → slice_get cells x ≡ o → IsCell false o → slice_get cells x ≡ Some Empty
    go None e i = absurd (none_some i)
    go (Some Empty) e i = e
    go (Some (Named n)) e i = absurd (false≢true (sym (some_same i)))
    go (Some (Number z)) e i = absurd (false≢true (sym (some_same i)))
    go (Some (Points p)) e i = absurd (false≢true (sym (some_same i)))

-- ---- one of them was written

pub cell_cases : {A : Type 0} (cells : List A) (x y : ℕ) (v w : A) → slice_get (slice_set cells x v) y ≡ Some w → ((x ≡ y) × (v ≡ w)) ⊎ ((x ≢ y) × (slice_get cells y ≡ Some w))
cell_cases [] x y v w e = absurd (none_some e)
cell_cases (c ∷ cs) zero zero v w e = inl (refl, some_same e)
cell_cases (c ∷ cs) zero (suc y) v w e = inr (clash, e)
  where
    clash : zero ≡ suc y → ⊥
    clash k = cc
cell_cases (c ∷ cs) (suc x) zero v w e = inr (clash, e)
  where
    clash : suc x ≡ zero → ⊥
    clash k = cc
cell_cases (c ∷ cs) (suc x) (suc y) v w e = further (cell_cases cs x y v w e)
  where
    less : suc x ≡ suc y → x ≡ y
    less k = cc

    further : ((x ≡ y) × (v ≡ w)) ⊎ ((x ≢ y) × (slice_get cs y ≡ Some w)) → ((suc x ≡ suc y) × (v ≡ w)) ⊎ ((suc x ≢ suc y) × (slice_get cs y ≡ Some w))
    further (inl h) = inl (ap suc h.0, h.1)
    further (inr h) = inr ((λ k. h.0 (less k)), h.1)

pub cell_other : {A : Type 0} (cells : List A) (x y : ℕ) (v : A) → x ≢ y → slice_get (slice_set cells x v) y ≡ slice_get cells y
cell_other [] x y v ne = refl
cell_other (c ∷ cs) zero zero v ne = absurd (ne refl)
cell_other (c ∷ cs) zero (suc y) v ne = refl
cell_other (c ∷ cs) (suc x) zero v ne = refl
cell_other (c ∷ cs) (suc x) (suc y) v ne = cell_other cs x y v (λ k. ne (ap suc k))

-- which locals are there where a cell was written
pub ready_set : (cells : List Cell) (x : ℕ) (v : Cell) → map is_there (slice_set cells x v) ≡ slice_set (map is_there cells) x (is_there v)
ready_set cells x v = map-set is_there cells x v

-- a finite map one of whose numbers was set, or taken out
pub set_cases : {A : Type 0} (m : Cells A) (k j : ℕ) (v : A) → ((k ≡ j) × (at (set m k v) j ≡ Some v)) ⊎ ((k ≢ j) × (at (set m k v) j ≡ at m j))
set_cases m k j v = ⊎_elim (λ h. inl (h.1, at-set_same m k j v h.1)) (λ h. inr (h.1, at-set_other m k j v h.1)) (eqb_tells k j)

pub unset_cases : {A : Type 0} (m : Cells A) (k j : ℕ) → ((k ≡ j) × (at (unset m k) j ≡ None)) ⊎ ((k ≢ j) × (at (unset m k) j ≡ at m j))
unset_cases m k j = ⊎_elim (λ h. inl (h.1, at-unset_same m k j h.1)) (λ h. inr (h.1, at-unset_other m k j h.1)) (eqb_tells k j)
