-- What the pointers among locals, and among their members, hold behind a cell that is written and names nothing.
use Rattle.std.proofs.Common.{◌≡◌, ◌≢◌, ◌⊎◌, inl, inr, ⊎_elim, ℕ, List, [], ◌∷◌, Option, Some, None, refl, sym, ap, ◌∙◌}
use Rattle.std.specs.Prelude.{slice_get, slice_set}
use Rattle.life_types.specs.Types.{Types}
use Rattle.life_types.specs.declared.ty.TyId.{TyId}
use Rattle.life_core.specs.Function.{Function}
use Rattle.life_core.specs.Operands.{Location, whole}
use Rattle.life_store.specs.Content.{Content}
use Rattle.life_store.specs.Effects.{cell, put_cell}
use Rattle.life_store.specs.Held.{pointer_in, words_at}
use Rattle.life_store.specs.Parts.{local_type, word_within}
use Rattle.life_store.specs.Places.{location_cell, member_cell}
use Rattle.life_store.specs.State.{Cell, Empty, Named, Number, Pointer, Points, State}
use Rattle.life_store.proofs.CellLemmas.{cell_cases, none_some}

-- a location without members is its local
pub whole_is : (l : Location) (x : ℕ) → l.local ≡ x → l.members ≡ [] → whole x ≡ l
whole_is l x local none = ap whole (sym local) ∙ ap (λ (ms : List ℕ). record { local = l.local; members = ms }) (sym none)

-- locals of one type have their members at the same words
pub member_same : (types : Types) (f g : Function) (x y : ℕ) → local_type types f x ≡ local_type types g y → (ms : List ℕ) (v : Option Cell) (c : Content) → member_cell types f x ms v c ≡ member_cell types g y ms v c
member_same types f g x y same [] v c = refl
member_same types f g x y same (m ∷ ms) (Some (Named n)) c = ap (λ (id : Option TyId). Some (Points (pointer_in (words_at c n 0 (word_within types id (m ∷ ms)) 5)))) same
member_same types f g x y same (m ∷ ms) None c = refl
member_same types f g x y same (m ∷ ms) (Some Empty) c = refl
member_same types f g x y same (m ∷ ms) (Some (Number z)) c = refl
member_same types f g x y same (m ∷ ms) (Some (Points p)) c = refl

module _ (types : Types) (f : Function) (st : State) (q : ℕ) (new : Cell) (nameless : (n : ℕ) → new ≡ Named n → ⊥) where
  -- it is the cell itself, or what another location held
  pub put_held : (l : Location) (w : Pointer) → location_cell types f l (put_cell q new st) ≡ Some (Points w) → ((whole q ≡ l) × (new ≡ Points w)) ⊎ ((q ≢ l.local) × (location_cell types f l st ≡ Some (Points w)))
  put_held l w held = go l.members refl held
    where
      member : (m : ℕ) (ms : List ℕ) (x : Option Cell) → slice_get (slice_set st.cells q new) l.local ≡ x → member_cell types f l.local (m ∷ ms) x st.world.content ≡ Some (Points w) → (q ≢ l.local) × (member_cell types f l.local (m ∷ ms) (cell st l.local) st.world.content ≡ Some (Points w))
      member m ms (Some (Named n)) e h = ⊎_elim
          (λ here. absurd (nameless n here.1))
          (λ old. (old.0, ap (λ (y : Option Cell). member_cell types f l.local (m ∷ ms) y st.world.content) old.1 ∙ h))
          (cell_cases st.cells q l.local new (Named n) e)
      member m ms None e h = absurd (none_some h)
      member m ms (Some Empty) e h = absurd (none_some h)
      member m ms (Some (Number z)) e h = absurd (none_some h)
      member m ms (Some (Points p)) e h = absurd (none_some h)

      go : (ms : List ℕ) → l.members ≡ ms → member_cell types f l.local ms (slice_get (slice_set st.cells q new) l.local) st.world.content ≡ Some (Points w)
          → ((whole q ≡ l) × (new ≡ Points w)) ⊎ ((q ≢ l.local) × (location_cell types f l st ≡ Some (Points w)))
      go [] is h = ⊎_elim
          (λ here. inl (whole_is l q (sym here.0) is, here.1))
          (λ old. inr (old.0, ap (λ (ms : List ℕ). member_cell types f l.local ms (cell st l.local) st.world.content) is ∙ old.1))
          (cell_cases st.cells q l.local new (Points w) h)
      go (m ∷ ms) is h =
          let was = member m ms (slice_get (slice_set st.cells q new) l.local) refl h in
          inr (was.0, ap (λ (ks : List ℕ). member_cell types f l.local ks (cell st l.local) st.world.content) is ∙ was.1)
