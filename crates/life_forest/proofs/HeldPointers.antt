-- What stands in pointers that are members of objects points well and is of its type, where the objects hold such pointers alone.
use Rattle.std.proofs.Common.{◌≡◌, ℕ, true, List, [], ◌∷◌, Option, Some, None, refl, sym, ap, subst, ◌∙◌}
use Rattle.std.specs.Prelude.{slice_get}
use Rattle.life_types.specs.Trees.{IsOrdered}
use Rattle.life_types.specs.TypeTests.{is_pointer}
use Rattle.life_types.specs.Types.{HasEachOnce, Types}
use Rattle.life_types.specs.declared.ty.TyId.{TyId}
use Rattle.life_core.specs.Function.{Function}
use Rattle.life_pset.specs.Shapes.{members_type, ty_if}
use Rattle.life_pset.specs.Shapes as shapes
use Rattle.life_proper.specs.Placed.{type_in}
use Rattle.life_store.specs.Content.{Content}
use Rattle.life_store.specs.Effects.{cell}
use Rattle.life_store.specs.Held.{pointer_in, words_at}
use Rattle.life_store.specs.Parts.{local_type, parts_at, type_within, word_within}
use Rattle.life_store.specs.Places.{member_cell}
use Rattle.life_store.specs.State.{Pointer, Cell, Empty, Named, Number, Points, State}
use Rattle.life_store.proofs.CellLemmas.{none_some}
use Rattle.life_forest.specs.Begins.{begins_at}
use Rattle.life_forest.specs.FrameTypes.{IsFrame, PointsWell, seen_type}
use Rattle.life_forest.specs.HeldPointers.{HoldWell, HoldsWell}
use Rattle.life_forest.specs.Settled.{PointersFit}
use Rattle.life_forest.specs.Sorted.{AreSorted, PointerFits}
use Rattle.life_forest.proofs.Begins.{pointer_begins}
use Rattle.life_forest.proofs.Following.{pointer_stays}
use Rattle.life_forest.proofs.SeenTypes.{pointer_parts, pointer_solid}
use Rattle.life_forest.proofs.Shaped.{IsShaped}
use Rattle.life_forest.proofs.StandingPointers.{IsPointer}
use Rattle.life_forest.proofs.Staying.{Stays}
use Rattle.life_forest.proofs.TypedSteps.{PointersAim, location_of}

points_one : (p q : Pointer) → Some (Points p) ≡ Some (Points q) → p ≡ q
points_one p q e = cc

module _ (types : Types) (ordered : IsOrdered types) (f : Function) (st : State) (held : HoldWell types f st) where
  -- what a pointer is that is a member: one of those that its object holds
  pub record IsHeld (part : TyId) (p : Pointer) : Type 0 where
    pub object : ℕ
    pub id : TyId
    pub well : HoldsWell types st.world.content object id
    pub word : ℕ
    pub begins : begins_at types id word ≡ Some part
    pub is : pointer_in (words_at st.world.content object 0 word 5) ≡ p

  member_held : (x m : ℕ) (ms : List ℕ) (part : TyId) (p : Pointer) → type_within types (local_type types f x) (m ∷ ms) ≡ Some part → IsPointer (parts_at types part) → (v : Option Cell) → cell st x ≡ v
      → member_cell types f x (m ∷ ms) v st.world.content ≡ Some (Points p) → IsHeld part p
  member_held x m ms part p typed pointer None e there = absurd (none_some there)
  member_held x m ms part p typed pointer (Some Empty) e there = absurd (none_some there)
  member_held x m ms part p typed pointer (Some (Number z)) e there = absurd (none_some there)
  member_held x m ms part p typed pointer (Some (Points q)) e there = absurd (none_some there)
  member_held x m ms part p typed pointer (Some (Named n)) e there = of (local_type types f x) refl typed
    where
      of : (o : Option TyId) → local_type types f x ≡ o → type_within types o (m ∷ ms) ≡ Some part → IsHeld part p
      of None is within = absurd (none_some within)
      of (Some id) is within = record {
        object = n;
        id = id;
        well = held x n id e is;
        word = word_within types (Some id) (m ∷ ms);
        begins = pointer_begins types ordered id part (m ∷ ms) within pointer;
        is = points_one (pointer_in (words_at st.world.content n 0 (word_within types (Some id) (m ∷ ms)) 5)) p
            (ap (λ (y : Option TyId). Some (Points (pointer_in (words_at st.world.content n 0 (word_within types y (m ∷ ms)) 5)))) (sym is) ∙ there);
      }

  pub pointers_aim : IsFrame types f st.world.content st.cells → PointersAim types f st
  pointers_aim frame l part typed pointer p there = subst (λ (id : Option TyId). PointsWell types st.world.content (seen_type types id) p) (sym typed) (go l.members typed there)
    where
      go : (ms : List ℕ) → type_within types (local_type types f l.local) ms ≡ Some part → member_cell types f l.local ms (cell st l.local) st.world.content ≡ Some (Points p) → PointsWell types st.world.content (seen_type types (Some part)) p
      go [] e h = subst (λ (id : Option TyId). PointsWell types st.world.content (seen_type types id) p) e (frame.pointers l.local p h)
      go (m ∷ ms) e h =
          let k = member_held l.local m ms part p e pointer (cell st l.local) refl h in
          subst (PointsWell types st.world.content (seen_type types (Some part))) k.is (k.well.aims k.word part k.begins)

  pub pointers_fit : HasEachOnce types → (texts : ℕ) (fs : List Function) → IsShaped types f → AreSorted types f st.cells → PointersFit types f st
  pointers_fit once texts fs shaped sorted l p pointer there =
      let at = location_of types ordered once texts fs f shaped l (type_in types f l) refl (pointer_solid (type_in types f l) pointer) in
      go l.members at.number at.is at.there pointer there
    where
      go : (ms : List ℕ) (part : TyId) → type_within types (local_type types f l.local) ms ≡ Some part → slice_get types.types part.0 ≡ Some (ty_if types (members_type types (shapes.local_type types f l.local) ms))
          → is_pointer (ty_if types (members_type types (shapes.local_type types f l.local) ms)) ≡ true → member_cell types f l.local ms (cell st l.local) st.world.content ≡ Some (Points p)
          → PointerFits (ty_if types (members_type types (shapes.local_type types f l.local) ms)) p
      go [] part e number is h = (sorted l.local (Points p) h).1
      go (m ∷ ms) part e number is h =
          let k = member_held l.local m ms part p e (pointer_parts types ordered part (ty_if types (members_type types (shapes.local_type types f l.local) (m ∷ ms))) number is) (cell st l.local) refl h in
          subst (PointerFits (ty_if types (members_type types (shapes.local_type types f l.local) (m ∷ ms)))) k.is (k.well.fits k.word part (ty_if types (members_type types (shapes.local_type types f l.local) (m ∷ ms))) k.begins number)

-- what an object holds is well still where these words are as they were, whatever else was done
pub holds_stay : (types : Types) (loose : ℕ → Type 0) (c d : Content) (n : ℕ) (id : TyId) → Stays loose c d → ((u : ℕ) (part : TyId) → begins_at types id u ≡ Some part → words_at c n 0 u 5 ≡ words_at d n 0 u 5) → HoldsWell types c n id → HoldsWell types d n id
holds_stay types loose c d n id stays same well = record {
  aims = λ u part begins. pointer_stays types loose c d stays (seen_type types (Some part)) (pointer_in (words_at d n 0 u 5))
      (subst (λ (ws : List ℕ). PointsWell types c (seen_type types (Some part)) (pointer_in ws)) (same u part begins) (well.aims u part begins));
  fits = λ u part t begins there. subst (λ (ws : List ℕ). PointerFits t (pointer_in ws)) (same u part begins) (well.fits u part t begins there);
}
