-- What the arguments of a call name is there, and of the types that the parameters ask for.
use Rattle.std.proofs.Common.{◌≡◌, inl, inr, ◌≤◌, ◌^◌, true, false, List, [], ◌∷◌, length, Option, Some, None, refl, sym, ap, subst, ◌∙◌, arith}
use Rattle.std.proofs.lemmas.Bool.{and_parts, false≢true}
use Rattle.std.specs.Prelude.{not, slice_get}
use Rattle.life_types.specs.Pointees.{pointee, ty_of}
use Rattle.life_types.specs.TypeTests.{is_constant, is_pointer}
use Rattle.life_types.specs.Types.{is_slot_at}
use Rattle.life_types.specs.declared.ty.Ty.{Ty}
use Rattle.life_types.specs.declared.ty.Ty.TheVariants as ty
use Rattle.life_types.specs.declared.ty.TyId.{TyId}
use Rattle.life_core.specs.Function.{Function, Program}
use Rattle.life_core.specs.Operands.{Argument, GivenOver, Location, PointerOf, Slot, Value}
use Rattle.life_core.specs.Step.{Step, Call}
use Rattle.life_core.specs.declared.program.FnId.{FnId}
use Rattle.life_proper.specs.OperandTypes.{are_alike, keeps_const, same, takes}
use Rattle.life_proper.specs.Placed.{type_in}
use Rattle.life_proper.specs.WellFormed.{are_arguments_for, is_argument_for, is_call, types_taken}
use Rattle.life_proper.proofs.HeldSorts.{same_is}
use Rattle.life_store.specs.Kinds.{kind_in}
use Rattle.life_store.specs.Parts.{Parts, Single, Raw, Iterates, Views, Text, Vector, Unique, Member, NoMember, parts_at, parts_if, width, width_at}
use Rattle.life_store.specs.State.{State}
use Rattle.life_forest.proofs.OneNumber.{also_solid}
use Rattle.life_forest.proofs.SeenTypes.{parts_typed}
use Rattle.life_forest.proofs.SettlingPointers.{alike_points}
use Rattle.life_forest.proofs.SlotSorts.{IsSlotSort, slot_sort, slot_taken, taken_type}
use Rattle.life_forest.proofs.StandingPointers.{IsPointer}
use Rattle.life_forest.proofs.TypedSteps.{location_of, pointer_of}
use Rattle.life_cells.specs.Asked.{is_unique}
use Rattle.life_slots.specs.Slots.{IsSlotPlace}
use Rattle.life_interp.specs.CallOperands.{AreArgumentPlaces, IsArgumentPlace}
use Rattle.life_interp.specs.Sound.{IsAt}
use Rattle.life_interp.proofs.HeldPlaces.{owner_held}
use Rattle.life_interp.proofs.SoundPlaces.{aims, formed_at, hand, held_pointer, shaped}

-- a pointer is no unique_ptr
no_owner : (q : Parts) → IsPointer q → is_unique q ≡ true → ⊥
no_owner Raw is e = false≢true e
no_owner Iterates is e = false≢true e
no_owner Views is e = false≢true e
no_owner Single is e = absurd is
no_owner (Text id) is e = absurd is
no_owner (Vector id element) is e = absurd is
no_owner (Unique id target) is e = absurd is
no_owner (Member first others) is e = absurd is
no_owner NoMember is e = absurd is

true_false : true ≡ false → ⊥
true_false e = cc

module _ (p : Program) (f : Function) (st : State) (i : Step) (at : IsAt p f i st) (narrow : (ty : TyId) → width_at p.types ty ≤ 2 ^ 32) where
  slot_place : (id : TyId) (l : Location) → is_argument_for p.types (length p.texts) p.functions f id (Slot l) ≡ true → IsSlotPlace p.types f l st
  slot_place id l e = by_sort (slot_sort p.types id both.0)
    where
      both : (is_slot_at p.types id ≡ true) × (same (pointee p.types (ty_of p.types id)) (type_in p.types f l) ≡ true)
      both = and_parts (is_slot_at p.types id) (same (pointee p.types (ty_of p.types id)) (type_in p.types f l)) e

      alike : same (ty_of p.types (taken_type p.types id)) (type_in p.types f l) ≡ true
      alike = subst (λ (t : Ty). same t (type_in p.types f l) ≡ true) (sym (slot_taken p.types id both.0)) both.1

      type : ty_of p.types (taken_type p.types id) ≡ type_in p.types f l
      type = same_is (ty_of p.types (taken_type p.types id)) (type_in p.types f l) alike

      by_sort : IsSlotSort (ty_of p.types (taken_type p.types id)) → IsSlotPlace p.types f l st
      by_sort (inl pointer) =
          let points : is_pointer (type_in p.types f l) ≡ true = ap is_pointer (sym type) ∙ pointer in
          let of = pointer_of p.types at.sound.proper.well_formed.table at.sound.proper.well_formed.once (length p.texts) p.functions f (shaped p f st i at narrow) st (aims p f st i at narrow) at.sound.sound.sorted l (type_in p.types f l) refl points in
          record {
            owner = λ unique. absurd (no_owner (parts_at p.types of.part) of.takes.1 (sym (ap (λ (o : Option TyId). is_unique (parts_if p.types o)) of.takes.0) ∙ unique));
            pointer = λ other. held_pointer p f st i at narrow l points;
          }
      by_sort (inr u) =
          let table = at.sound.proper.well_formed.table in
          let of = location_of p.types table at.sound.proper.well_formed.once (length p.texts) p.functions f (shaped p f st i at narrow) l (type_in p.types f l) refl (also_solid (ty_of p.types (taken_type p.types id)) (type_in p.types f l) alike) in
          let are : parts_at p.types of.number ≡ Unique u.0 (parts_at p.types u.0) = parts_typed p.types table of.number (ty.Unique u.0) (of.there ∙ ap (λ (t : Ty). Some t) (sym type ∙ u.1)) in
          record {
            owner = λ unique. owner_held p.types table narrow f (hand p f st i at narrow) st at.sound.sound.stands.store at.sound.sound.stands.frame l of.number of.is
                (record { wide = let w = ap width are in omega (arith, w); owner = ap (λ (q : Parts). kind_in q 0) are });
            pointer = λ other. absurd (true_false (sym (ap is_unique are) ∙ sym (ap (λ (o : Option TyId). is_unique (parts_if p.types o)) of.is) ∙ other));
          }

  argument_place : (id : TyId) (x : Argument) → is_argument_for p.types (length p.texts) p.functions f id x ≡ true → IsArgumentPlace p.types f st x
  argument_place id (Value r) e = tt
  argument_place id (GivenOver x) e = tt
  argument_place id (Slot l) e = slot_place id l e
  argument_place id (PointerOf l) e =
      let taken = (and_parts (not (is_slot_at p.types id)) (takes p.types (ty_of p.types id) (type_in p.types f l)) e).1 in
      let alike = (and_parts (are_alike p.types (ty_of p.types id) (type_in p.types f l)) (keeps_const (is_constant (ty_of p.types id)) (is_constant (type_in p.types f l))) taken).0 in
      held_pointer p f st i at narrow l (alike_points p.types (ty_of p.types id) (type_in p.types f l) alike).1

  pub argument_places : (ids : List TyId) (xs : List Argument) → are_arguments_for p.types (length p.texts) p.functions f ids xs ≡ true → AreArgumentPlaces p.types f st xs
  argument_places ids [] e = tt
  argument_places [] (x ∷ xs) e = absurd (false≢true e)
  argument_places (id ∷ ids) (x ∷ xs) e =
      let both = and_parts (is_argument_for p.types (length p.texts) p.functions f id x) (are_arguments_for p.types (length p.texts) p.functions f ids xs) e in
      (argument_place id x both.0, argument_places ids xs both.1)

-- .. of a call at a point
pub call_places : (p : Program) (f : Function) (st : State) (target : Option Location) (g : FnId) (xs : List Argument) → IsAt p f (Call target g xs) st → ((ty : TyId) → width_at p.types ty ≤ 2 ^ 32) → AreArgumentPlaces p.types f st xs
call_places p f st target g xs at narrow = by_function (slice_get p.functions g.0) (formed_at p f st (Call target g xs) at narrow)
  where
    by_function : (o : Option Function) → is_call p.types (length p.texts) p.functions f o target xs ≡ true → AreArgumentPlaces p.types f st xs
    by_function None e = absurd (false≢true e)
    by_function (Some gf) e =
        argument_places p f st (Call target g xs) at narrow (types_taken gf) xs
        (and_parts (are_arguments_for p.types (length p.texts) p.functions f (types_taken gf) xs) _ e).0
