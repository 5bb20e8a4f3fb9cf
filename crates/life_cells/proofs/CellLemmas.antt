-- What is read of a cell.
use Rattle.std.proofs.Common.{◌≡◌, ℕ, Option, Some, None, refl, sym, ap}
use Rattle.std.proofs.lemmas.Option.{none-some, same_Some}
use Rattle.std.specs.Prelude.{ℤ}
use Rattle.life_store.specs.Content.{Content}
use Rattle.life_store.specs.Effects.{Effect, Strays, GotLost, on_number, on_pointer}
use Rattle.life_store.specs.Iterators.{index_in, iterator}
use Rattle.life_store.specs.State.{Cell, Empty, Named, Number, Pointer, Points}
use Rattle.life_store.specs.Views.{used}
use Rattle.life_cells.specs.Cells.{number_in, object_in, pointer_in}

-- ---- which cell it is

pub points : (o : Option Cell) (p : Pointer) → Some p ≡ pointer_in o → o ≡ Some (Points p)
points None p e = absurd (none-some p (sym e))
points (Some Empty) p e = absurd (none-some p (sym e))
points (Some (Named n)) p e = absurd (none-some p (sym e))
points (Some (Number z)) p e = absurd (none-some p (sym e))
points (Some (Points q)) p e = ap (λ (x : Pointer). Some (Points x)) (sym (same_Some p q e))

pub counts : (o : Option Cell) (z : ℤ) → Some z ≡ number_in o → o ≡ Some (Number z)
counts None z e = absurd (none-some z (sym e))
counts (Some Empty) z e = absurd (none-some z (sym e))
counts (Some (Named n)) z e = absurd (none-some z (sym e))
counts (Some (Number y)) z e = ap (λ (x : ℤ). Some (Number x)) (sym (same_Some z y e))
counts (Some (Points p)) z e = absurd (none-some z (sym e))

pub names : (o : Option Cell) (n : ℕ) → Some n ≡ object_in o → o ≡ Some (Named n)
names None n e = absurd (none-some n (sym e))
names (Some Empty) n e = absurd (none-some n (sym e))
names (Some (Named m)) n e = ap (λ (x : ℕ). Some (Named x)) (sym (same_Some n m e))
names (Some (Number z)) n e = absurd (none-some n (sym e))
names (Some (Points p)) n e = absurd (none-some n (sym e))

-- ---- what holds none of them

module _ (m : Content) where
  pub no_iterator : (o : Option Cell) → None ≡ pointer_in o → iterator m o ≡ GotLost
  no_iterator None e = refl
  no_iterator (Some Empty) e = refl
  no_iterator (Some (Named n)) e = refl
  no_iterator (Some (Number z)) e = refl
  no_iterator (Some (Points p)) e = absurd (none-some p e)

  pub no_view : (o : Option Cell) → None ≡ pointer_in o → used m o ≡ GotLost
  no_view None e = refl
  no_view (Some Empty) e = refl
  no_view (Some (Named n)) e = refl
  no_view (Some (Number z)) e = refl
  no_view (Some (Points p)) e = absurd (none-some p e)

pub no_pointer : (o : Option Cell) (go : Pointer → Effect) → None ≡ pointer_in o → on_pointer o go ≡ Strays
no_pointer None go e = refl
no_pointer (Some Empty) go e = refl
no_pointer (Some (Named n)) go e = refl
no_pointer (Some (Number z)) go e = refl
no_pointer (Some (Points p)) go e = absurd (none-some p e)

pub no_number : (o : Option Cell) (go : ℤ → Effect) → None ≡ number_in o → on_number o go ≡ Strays
no_number None go e = refl
no_number (Some Empty) go e = refl
no_number (Some (Named n)) go e = refl
no_number (Some (Number z)) go e = absurd (none-some z e)
no_number (Some (Points p)) go e = refl

pub no_index : (o : Option Cell) → None ≡ number_in o → index_in o ≡ GotLost
no_index None e = refl
no_index (Some Empty) e = refl
no_index (Some (Named n)) e = refl
no_index (Some (Number z)) e = absurd (none-some z e)
no_index (Some (Points p)) e = refl
