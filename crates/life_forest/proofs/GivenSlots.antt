-- What stands in the slots where a function is left: in each what the type takes of which it is a slot; and the objects among that were in the hand.
use Rattle.std.proofs.Common.{◌≡◌, inl, inr, ℕ, zero, suc, ◌+◌, ◌≤◌, Bool, true, false, cond, List, [], ◌∷◌, ◌++◌, Option, Some, None, refl, sym, ap, subst, ◌∙◌, arith}
use Rattle.std.specs.Prelude.{drop, map, slice_get, take}
use Rattle.life_types.specs.Pointees.{ty_of}
use Rattle.life_types.specs.TypeTests.{is_pointer}
use Rattle.life_types.specs.Types.{Types, is_slot_at}
use Rattle.life_types.specs.declared.ty.Ty.{Ty}
use Rattle.life_types.specs.declared.ty.Ty.TheVariants as ty
use Rattle.life_types.specs.declared.ty.TyId.{TyId}
use Rattle.life_core.specs.declared.program.Local.{Local}
use Rattle.life_core.specs.Function.{Function}
use Rattle.life_core.specs.Ready.{IsThere}
use Rattle.life_pset.specs.Shapes.{ty_if}
use Rattle.life_proper.specs.OperandTypes.{is_composed}
use Rattle.life_proper.specs.Placed.{is_slot_local, slot_at, type_at}
use Rattle.life_proper.specs.WellFormed.{types_taken}
use Rattle.life_proper.specs.WellFormed as formed
use Rattle.life_store.specs.Calls.{slot_back, slot_cell, slots_back}
use Rattle.life_store.specs.Effects.{cell}
use Rattle.life_store.specs.Parts.{held_type_if, local_type}
use Rattle.life_store.specs.State.{Cell, Empty, Points, State, ready_of}
use Rattle.life_forest.specs.FrameTypes.{IsVariable, PointsWell, seen_type}
use Rattle.life_forest.specs.Frames.{named_in}
use Rattle.life_forest.specs.HeldPointers.{HoldWell}
use Rattle.life_forest.specs.Owned.{times}
use Rattle.life_forest.specs.Settled.{IsPoised}
use Rattle.life_forest.specs.Sorted.{PointerFits}
use Rattle.life_forest.proofs.Frames.{first_named}
use Rattle.life_forest.proofs.HandedOver.{AreHandedTo, IsHandedTo}
use Rattle.life_forest.proofs.ReadyCells.{composed_is_object, object_cell, pointer_cell}
use Rattle.life_forest.proofs.Shaped.{IsShaped}
use Rattle.life_forest.proofs.SlotSorts.{IsSlotSort, slot_sort, taken_type}

-- of these parameters, the types of what the slots are of
abbrev pub slot_types : Types → List TyId → List TyId
slot_types types [] = []
slot_types types (id ∷ ids) = cond (is_slot_at types id) (taken_type types id ∷ slot_types types ids) (slot_types types ids)

module _ (types : Types) (f : Function) (shaped : IsShaped types f) (st : State) (at_point : IsPoised types f st) (held : HoldWell types f st) (there : (x : ℕ) → slot_at types f x ≡ true → IsThere (ready_of st) x) where
  none_from : (n x : ℕ) → ((i : ℕ) → slice_get f.locals (x + i) ≡ None) → slots_back types f x n st ≡ []
  none_from zero x none = refl
  none_from (suc n) x none =
      let k : x + 0 ≡ x = omega arith in
      ap (λ (o : Option Local). slot_back types o (cell st x) ++ slots_back types f (x + 1) n st) (ap (slice_get f.locals) (sym k) ∙ none 0)
      ∙ none_from n (x + 1) (λ i. let j : x + 1 + i ≡ x + suc i = omega arith in ap (slice_get f.locals) j ∙ none (suc i))

  -- one slot
  slot_holds : (x : ℕ) (l : Local) → slice_get f.locals x ≡ Some l → is_slot_at types l.ty ≡ true → IsHandedTo types st.world.content (taken_type types l.ty) (slot_cell (cell st x))
  slot_holds x l local is = by_sort (slot_sort types l.ty is)
    where
      typed : local_type types f x ≡ Some (taken_type types l.ty)
      typed = ap (held_type_if types) local

      own : type_at types f x ≡ ty_of types (taken_type types l.ty)
      own = ap (ty_if types) (shaped x ∙ typed)

      is_there : IsThere (ready_of st) x
      is_there = there x (ap (is_slot_local types f) local ∙ is)

      by_sort : IsSlotSort (ty_of types (taken_type types l.ty)) → IsHandedTo types st.world.content (taken_type types l.ty) (slot_cell (cell st x))
      by_sort (inl pointer) =
          let p = pointer_cell types f st at_point x (ap is_pointer own ∙ pointer) is_there in
          subst (λ (o : Option Cell). IsHandedTo types st.world.content (taken_type types l.ty) (slot_cell o)) (sym p.1) (
            pointer,
            subst (λ (id : Option TyId). PointsWell types st.world.content (seen_type types id) p.0) typed (at_point.frame.pointers x p.0 p.1),
            subst (λ (u : Ty). PointerFits u p.0) own (at_point.sorted x (Points p.0) p.1).1,
          )
      by_sort (inr u) =
          let composed : is_composed (ty_of types (taken_type types l.ty)) ≡ true = ap is_composed u.1 in
          let n = object_cell types f st at_point x (composed_is_object types f at_point.kinds x (ap is_composed own ∙ composed)) is_there in
          subst (λ (o : Option Cell). IsHandedTo types st.world.content (taken_type types l.ty) (slot_cell o)) (sym n.1)
          (subst (λ (id : Option TyId). IsVariable st.world.content id n.0) typed (at_point.frame.objects x n.0 n.1), held x n.0 (taken_type types l.ty) n.1 typed, composed)

  slots_from : (n : ℕ) (ls : List Local) (x : ℕ) → ((i : ℕ) → slice_get ls i ≡ slice_get f.locals (x + i)) → AreHandedTo types st.world.content (slot_types types (map formed.local_type (take n ls))) (slots_back types f x n st)
  slots_from zero ls x same = tt
  slots_from (suc n) [] x same = subst (λ (vs : List Cell). AreHandedTo types st.world.content [] vs) (sym (none_from (suc n) x (λ i. sym (same i)))) tt
  slots_from (suc n) (l ∷ ls) x same =
      let none : x + 0 ≡ x = omega arith in
      let local : slice_get f.locals x ≡ Some l = ap (slice_get f.locals) (sym none) ∙ sym (same 0) in
      subst (λ (o : Option Local). AreHandedTo types st.world.content (slot_types types (map formed.local_type (take (suc n) (l ∷ ls)))) (slot_back types o (cell st x) ++ slots_back types f (x + 1) n st)) (sym local)
      (one local (is_slot_at types l.ty) refl (slots_from n ls (x + 1) (λ i. let k : x + suc i ≡ x + 1 + i = omega arith in same (suc i) ∙ ap (slice_get f.locals) k)))
    where
      one : slice_get f.locals x ≡ Some l → (b : Bool) → is_slot_at types l.ty ≡ b → AreHandedTo types st.world.content (slot_types types (map formed.local_type (take n ls))) (slots_back types f (x + 1) n st)
          → AreHandedTo types st.world.content (cond b (taken_type types l.ty ∷ slot_types types (map formed.local_type (take n ls))) (slot_types types (map formed.local_type (take n ls)))) (cond b (slot_cell (cell st x) ∷ []) [] ++ slots_back types f (x + 1) n st)
      one local false is more = more
      one local true is more = (slot_holds x l local is, more)

  pub slots_given : AreHandedTo types st.world.content (slot_types types (types_taken f)) (slots_back types f 0 f.parameters st)
  slots_given = slots_from f.parameters f.locals 0 (λ i. let k : i ≡ 0 + i = omega arith in ap (slice_get f.locals) k)

-- ---- what they name was in the hand

pub named_append : (xs ys : List Cell) (k : ℕ) → times (named_in (xs ++ ys)) k ≡ times (named_in xs) k + times (named_in ys) k
named_append [] ys k = omega arith
named_append (v ∷ xs) ys k = let a = first_named v (xs ++ ys) k in let b = first_named v xs k in let h = named_append xs ys k in omega (arith, a, b, h)

module _ (types : Types) (f : Function) (st : State) (k : ℕ) where
  one_named : (o : Option Local) (v : Cell) → times (named_in (slot_back types o (Some v))) k ≤ times (named_in (v ∷ [])) k
  one_named None v = omega arith
  one_named (Some l) v = go (is_slot_at types l.ty)
    where
      go : (b : Bool) → times (named_in (cond b (v ∷ []) [])) k ≤ times (named_in (v ∷ [])) k
      go true = omega arith
      go false = omega arith

  none_named : (o : Option Local) → times (named_in (slot_back types o None)) k ≡ 0
  none_named None = refl
  none_named (Some l) = go (is_slot_at types l.ty)
    where
      go : (b : Bool) → times (named_in (cond b (Empty ∷ []) [])) k ≡ 0
      go true = refl
      go false = refl

  named_under : (n : ℕ) (cs : List Cell) (x : ℕ) → ((i : ℕ) → slice_get cs i ≡ cell st (x + i)) → times (named_in (slots_back types f x n st)) k ≤ times (named_in (take n cs)) k
  named_under zero cs x same = omega arith
  named_under (suc n) [] x same =
      let here : x + 0 ≡ x = omega arith in
      let absent : cell st x ≡ None = ap (cell st) (sym here) ∙ sym (same 0) in
      let one = ap (λ (v : Option Cell). times (named_in (slot_back types (slice_get f.locals x) v)) k) absent ∙ none_named (slice_get f.locals x) in
      let both = named_append (slot_back types (slice_get f.locals x) (cell st x)) (slots_back types f (x + 1) n st) k in
      let more = named_under n [] (x + 1) (λ i. let j : x + suc i ≡ x + 1 + i = omega arith in same (suc i) ∙ ap (cell st) j) in
      let nothing = ap (λ (vs : List Cell). times (named_in vs) k) (none_taken n) in
      omega (arith, one, both, more, nothing)
    where
      none_taken : (n : ℕ) → take {A = Cell} n [] ≡ []
      none_taken zero = refl
      none_taken (suc n) = refl
  named_under (suc n) (v ∷ cs) x same =
      let here : x + 0 ≡ x = omega arith in
      let stands : cell st x ≡ Some v = ap (cell st) (sym here) ∙ sym (same 0) in
      let eq = ap (λ (u : Option Cell). times (named_in (slot_back types (slice_get f.locals x) u)) k) stands in
      let one = one_named (slice_get f.locals x) v in
      let both = named_append (slot_back types (slice_get f.locals x) (cell st x)) (slots_back types f (x + 1) n st) k in
      let more = named_under n cs (x + 1) (λ i. let j : x + suc i ≡ x + 1 + i = omega arith in same (suc i) ∙ ap (cell st) j) in
      let first = first_named v (take n cs) k in
      omega (arith, eq, one, both, more, first)

  pub slots_named : times (named_in (slots_back types f 0 f.parameters st)) k ≤ times (named_in (take f.parameters st.cells)) k
  slots_named = named_under f.parameters st.cells 0 (λ i. let j : i ≡ 0 + i = omega arith in ap (cell st) j)

-- .. beside what stands behind the parameters
pub named_parts : (n : ℕ) (cs : List Cell) (k : ℕ) → times (named_in cs) k ≡ times (named_in (take n cs)) k + times (named_in (drop n cs)) k
named_parts zero cs k = omega arith
named_parts (suc n) [] k = refl
named_parts (suc n) (v ∷ cs) k = let a = first_named v cs k in let b = first_named v (take n cs) k in let h = named_parts n cs k in omega (arith, a, b, h)

pub dropped_first : (n : ℕ) (cs : List Cell) → slice_get (drop n cs) 0 ≡ slice_get cs n
dropped_first zero cs = refl
dropped_first (suc n) [] = refl
dropped_first (suc n) (v ∷ cs) = dropped_first n cs
