-- A frame stands where a location is given a pointer that points well.
use Rattle.std.proofs.Common.{◌≡◌, ℕ, zero, suc, ◌+◌, List, [], ◌∷◌, Option, Some, None, refl, sym, ap, subst}
use Rattle.std.specs.Prelude.{ℤ, slice_get, slice_set}
use Rattle.life_types.specs.Trees.{IsOrdered}
use Rattle.life_types.specs.Types.{Types}
use Rattle.life_types.specs.declared.ty.TyId.{TyId}
use Rattle.life_core.specs.Function.{Function}
use Rattle.life_core.specs.Operands.{Location}
use Rattle.life_store.specs.Effects.{cell, put_cell}
use Rattle.life_store.specs.Held.{pointer_words, wrote}
use Rattle.life_store.specs.Parts.{Parts, Single, Raw, Iterates, Views, Text, Vector, Unique, Member, NoMember, local_type, location_type, parts_at, type_within, width, word_within}
use Rattle.life_store.specs.Places.{member_pointed, pointed}
use Rattle.life_store.specs.State.{Pointer, Cell, Empty, Named, Number, Points, State}
use Rattle.life_store.proofs.CellLemmas.{none_some}
use Rattle.life_forest.specs.FrameTypes.{PointsWell, Stands, seen_type}
use Rattle.life_forest.specs.Frames.{HasStore, OnNext, named_in}
use Rattle.life_store.specs.Kinds.{Owner, kind_in}
use Rattle.life_forest.specs.Owned.{times}
use Rattle.life_forest.specs.Typed.{IsStore}
use Rattle.life_forest.proofs.FittingBirths.{pointer_owner}
use Rattle.life_forest.proofs.FrameWords.{cell_keeps, member_keeps}
use Rattle.life_forest.proofs.Following.{IsOwned, follows_content, follows_number, follows_pointer, follows_stands, next_stands}
use Rattle.life_forest.proofs.Operands.{place_named}
use Rattle.life_forest.proofs.Staying.{stays_self, stays_wrote}

-- a pointer of any kind
abbrev pub IsPointer : Parts → Type 0
IsPointer Raw = Unit {0}
IsPointer Iterates = Unit {0}
IsPointer Views = Unit {0}
IsPointer _ = ⊥

pointer_plain : (p : Parts) → IsPointer p → (u : ℕ) → kind_in p u ≡ Owner → ⊥
pointer_plain Raw is u k = pointer_owner u k
pointer_plain Iterates is u k = pointer_owner u k
pointer_plain Views is u k = pointer_owner u k
pointer_plain Single is u k = is
pointer_plain (Text id) is u k = is
pointer_plain (Vector id element) is u k = is
pointer_plain (Unique id target) is u k = is
pointer_plain (Member first others) is u k = is
pointer_plain NoMember is u k = is

pub pointer_width : (p : Parts) → IsPointer p → width p ≡ 5
pointer_width Raw is = refl
pointer_width Iterates is = refl
pointer_width Views is = refl
pointer_width Single is = absurd is
pointer_width (Text id) is = absurd is
pointer_width (Vector id element) is = absurd is
pointer_width (Unique id target) is = absurd is
pointer_width (Member first others) is = absurd is
pointer_width NoMember is = absurd is

-- what isn't there isn't written
set_nowhere : {A : Type 0} (xs : List A) (x : ℕ) (v : A) → slice_get xs x ≡ None → slice_set xs x v ≡ xs
set_nowhere [] x v e = refl
set_nowhere (y ∷ ys) zero v e = absurd (none_some (sym e))
set_nowhere (y ∷ ys) (suc x) v e = ap (λ zs. y ∷ zs) (set_nowhere ys x v e)

module _ (types : Types) (ordered : IsOrdered types) (f : Function) (rest : ℕ → ℕ) (st : State) (stands : Stands types f rest st) where
  -- a cell is given what names nothing
  pub written_keeps : (x : ℕ) (v : Cell) → ((k : ℕ) → times (named_in (v ∷ [])) k ≡ 0) → HasStore types rest (put_cell x v st)
  written_keeps x v none = go (slice_get st.cells x) refl
    where
      go : (o : Option Cell) → slice_get st.cells x ≡ o → HasStore types rest (put_cell x v st)
      go None e = subst (λ (vs : List Cell). IsStore types (λ k. times (named_in vs) k + rest k) st.world.content) (sym (set_nowhere st.cells x v e)) stands.store
      go (Some old) e = cell_keeps types ordered rest st stands.store x old v e none

  pub number_stands : (x : ℕ) (z : ℤ) → Stands types f rest (put_cell x (Number z) st)
  number_stands x z =
      follows_stands types f rest st stands (put_cell x (Number z) st) (written_keeps x (Number z) (λ k. refl))
      (follows_number types f st st.world.content x z (stays_self (IsOwned types st.world.content) st.world.content))

  pub pointer_stands : (x : ℕ) (v : Pointer) → PointsWell types st.world.content (seen_type types (local_type types f x)) v → Stands types f rest (put_cell x (Points v) st)
  pointer_stands x v well =
      follows_stands types f rest st stands (put_cell x (Points v) st) (written_keeps x (Points v) (λ k. refl))
      (follows_pointer types f st st.world.content x v (stays_self (IsOwned types st.world.content) st.world.content) well)

  -- ---- a local, or a member of one

  pub pointed_stands : (l : Location) (part : TyId) (v : Pointer) → location_type types f l ≡ Some part → IsPointer (parts_at types part) → PointsWell types st.world.content (seen_type types (Some part)) v
      → OnNext (pointed types f l v st) (Stands types f rest)
  pointed_stands l part v typed pointer well = go l.members typed (cell st l.local) refl
    where
      go : (ms : List ℕ) → type_within types (local_type types f l.local) ms ≡ Some part → (o : Option Cell) → cell st l.local ≡ o → OnNext (member_pointed types f l.local ms o v st) (Stands types f rest)
      go [] e o there = pointer_stands l.local v (subst (λ id. PointsWell types st.world.content (seen_type types id) v) (sym e) well)
      go (m ∷ ms) e None there = tt
      go (m ∷ ms) e (Some Empty) there = tt
      go (m ∷ ms) e (Some (Number z)) there = tt
      go (m ∷ ms) e (Some (Points p)) there = tt
      go (m ∷ ms) e (Some (Named n)) there =
          let place = place_named types ordered f st stands.frame (record { local = l.local; members = m ∷ ms }) part e n there in
          next_stands types f rest st stands (member_pointed types f l.local (m ∷ ms) (Some (Named n)) v st)
          (member_keeps types ordered rest st stands.store f l.local m ms v n part place.0 place.1.there place.1.within place.1.slot (λ u k. pointer_plain (parts_at types part) pointer u k) (pointer_width (parts_at types part) pointer))
          (follows_content types f st (wrote n 0 (word_within types (local_type types f l.local) (m ∷ ms)) (pointer_words v) st.world.content)
          (stays_wrote (IsOwned types st.world.content) st.world.content n 0 (word_within types (local_type types f l.local) (m ∷ ms)) (pointer_words v) st.world.content (stays_self (IsOwned types st.world.content) st.world.content)))
