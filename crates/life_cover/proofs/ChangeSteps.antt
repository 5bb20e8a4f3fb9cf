-- An instruction of a frame that changes a vector or a string, and at which nothing is wrong, makes no fault, and the facts
-- behind it cover all pointers of the frame.
use Rattle.std.proofs.Common.{◌≡◌, inl, ℕ, Bool, true, false, ◌&&◌, not, List, [], Option, Some, None, refl, sym, subst, ◌∙◌}
use Rattle.std.specs.Prelude.{if◌then◌else◌}
use Rattle.std.proofs.lemmas.Bool.{and_parts, false≢true}
use Rattle.life_types.specs.Pointees.{ty_of}
use Rattle.life_types.specs.TypeTests.{is_value}
use Rattle.life_types.specs.Types.{Types}
use Rattle.life_types.specs.declared.place.Place.{Place}
use Rattle.life_types.specs.declared.ty.Ty.{Ty}
use Rattle.life_types.specs.declared.ty.Ty.TheVariants as ty
use Rattle.life_types.specs.declared.ty.TyId.{TyId}
use Rattle.life_core.specs.Function.{Function}
use Rattle.life_core.specs.Operands.{Characters, Location, Operand}
use Rattle.life_core.specs.Operands as named
use Rattle.life_core.specs.Step.{Append, Change, Changes, Clear, Erase, PopBack, PushBack, Reserve, Set, Step}
use Rattle.life_pset.specs.declared.element.Fact.{Fact}
use Rattle.life_pset.specs.declared.element.Root.{Root}
use Rattle.life_contract.specs.Signatures.{Signature}
use Rattle.life_proper.specs.OperandTypes.{same, walks}
use Rattle.life_proper.specs.Placed.{is_const_place, is_given, is_number_of, object_at, result_at, slot_at, type_at, type_in, type_of}
use Rattle.life_proper.specs.WellFormed.{are_characters, is_change_of}
use Rattle.life_rules.proofs.Giving.{at_head}
use Rattle.life_store.specs.Doing.{does}
use Rattle.life_store.specs.Effects.{Setting, cell}
use Rattle.life_store.specs.Parts.{local_type}
use Rattle.life_store.specs.State.{Cell, Empty, Named, Number, Points, State}
use Rattle.life_forest.proofs.OneNumber.{one_number}
use Rattle.life_forest.proofs.ReadyCells.{number_any}
use Rattle.life_forest.proofs.SeenTypes.{pointer_solid, range_points, walks_seen}
use Rattle.life_cover.specs.Covers.{IsSeenAs}
use Rattle.life_cover.specs.Frames.{FrameCovered}
use Rattle.life_cover.proofs.ChangeKinds.{IsGiven, not_pushed, text_append, text_clear, text_push, text_set, vector_clear, vector_pop, vector_push, vector_reserve}
use Rattle.life_cover.proofs.EraseKinds.{vector_erase}
use Rattle.life_cover.proofs.KnownFrames.{IsKnownFrame, IsRight, object_uncounted}
use Rattle.life_cover.proofs.Looks.{view_range, given_type, seen_at, walks_single}
use Rattle.life_cover.proofs.Pointers.{OnRight}
use Rattle.life_cover.proofs.PushKinds.{vector_object}
use Rattle.life_cover.specs.Regions.{Region}

module _ (types : Types) (f : Function) (rest : ℕ → ℕ) (inputs : Root → Option Region) (S : Fact → Type 0) (st : State) (k : IsKnownFrame types f rest inputs S st) (sigs : List Signature) (n : ℕ) (place : Place) (S' : Fact → Type 0) (texts : ℕ) (fs : List Function) (s : Setting) where
  abbrev Right : Step → Type 0
  Right i = IsRight sigs types n f place i S S'

  abbrev Covers : Step → Type 0
  Covers i = OnRight (does s types f i st) (FrameCovered types f inputs S')

  module _ (o : Operand) (free : is_const_place types f o ≡ false) where
    given_view : (given : Characters) → are_characters types texts fs f given ≡ true → IsGiven types f rest inputs S st k sigs n place S' s o free given
    given_view (named.Single r) e = tt
    given_view (named.View l) e = let ranged = view_range (type_in types f l) e in (range_points (type_in types f l) ranged, ranged)

    text_step : (c : Change) → type_of types f o ≡ ty.Text → Right (Changes o c) → is_change_of types texts fs f ty.Text c ≡ true → Covers (Changes o c)
    text_step (PushBack r) is right e = text_push types f rest inputs S st k sigs n place S' s o free is r (number_any types f ty.Char r e) right
    text_step Clear is right e = text_clear types f rest inputs S st k sigs n place S' s o free is right
    text_step (Set given) is right e = text_set types f rest inputs S st k sigs n place S' s o free is given (given_view given e) right
    text_step (Append given) is right e = text_append types f rest inputs S st k sigs n place S' s o free is given (given_view given e) right
    text_step _ is right e = absurd (false≢true e)

    -- a number is pushed, or an object
    push_step : (element : TyId) (x : ℕ) → type_of types f o ≡ ty.Vector element → Right (Changes o (PushBack x)) → (value : Bool) → is_value (ty_of types element) ≡ value
        → (if value then is_number_of types f (ty_of types element) x else is_given types f (ty_of types element) x) ≡ true → Covers (Changes o (PushBack x))
    push_step element x is right true value e = vector_push types f rest inputs S st k sigs n place S' s o free element is x e value right
    push_step element x is right false value e = by_cell (cell st x) refl
      where
        outer : (object_at types f x ≡ true) × ((not (result_at types f x) && (not (slot_at types f x) && same (ty_of types element) (type_at types f x))) ≡ true)
        outer = and_parts (object_at types f x) _ e

        typed : local_type types f x ≡ Some element
        typed = given_type types k.ordered k.once f k.shaped x element (and_parts (not (slot_at types f x)) _ (and_parts (not (result_at types f x)) _ outer.1).1).1

        by_cell : (v : Option Cell) → cell st x ≡ v → Covers (Changes o (PushBack x))
        by_cell (Some (Named m)) there = vector_object types f rest inputs S st k x m there (right.given x outer.0 (at_head x [])) sigs n place S' s o element is typed right free
        by_cell (Some (Number z)) there = absurd (object_uncounted types f rest inputs S st k x z outer.0 there)
        by_cell None there = not_pushed types f rest inputs S st k sigs n place S' s o free element is x None there right (λ spot. tt)
        by_cell (Some Empty) there = not_pushed types f rest inputs S st k sigs n place S' s o free element is x (Some Empty) there right (λ spot. tt)
        by_cell (Some (Points p)) there = not_pushed types f rest inputs S st k sigs n place S' s o free element is x (Some (Points p)) there right (λ spot. tt)

    erase_step : (element : TyId) → type_of types f o ≡ ty.Vector element → (x y : Location) → Right (Changes o (Erase x y)) → walks types (type_in types f x) (ty_of types element) ≡ true → walks types (type_in types f y) (ty_of types element) ≡ true → Covers (Changes o (Erase x y))
    erase_step element is x y right from walk =
        let seen = walks_seen types k.ordered k.once (type_in types f y) (ty_of types element) walk in
        vector_erase types f rest inputs S st k sigs n place S' s o free element is x y (walks_seen types k.ordered k.once (type_in types f x) (ty_of types element) from).pointer (walks_single types (type_in types f x) (ty_of types element) from) seen.pointer (walks_single types (type_in types f y) (ty_of types element) walk)
        (subst (λ (t : Option TyId). IsSeenAs types t element) (sym (seen_at types k.ordered k.once f k.shaped y (type_in types f y) refl (pointer_solid (type_in types f y) seen.pointer) ∙ seen.seen)) (inl (one_number types k.once seen.target element seen.is))) right

    vector_step : (element : TyId) (c : Change) → type_of types f o ≡ ty.Vector element → Right (Changes o c) → is_change_of types texts fs f (ty.Vector element) c ≡ true → Covers (Changes o c)
    vector_step element (PushBack x) is right e = push_step element x is right (is_value (ty_of types element)) refl e
    vector_step element PopBack is right e = vector_pop types f rest inputs S st k sigs n place S' s o free element is right
    vector_step element Clear is right e = vector_clear types f rest inputs S st k sigs n place S' s o free element is right
    vector_step element (Reserve r) is right e = vector_reserve types f rest inputs S st k sigs n place S' s o free element is r right
    vector_step element (Erase at into) is right e =
        let both = and_parts (walks types (type_in types f at) (ty_of types element)) (walks types (type_in types f into) (ty_of types element)) e in
        erase_step element is at into right both.0 both.1
    vector_step element _ is right e = absurd (false≢true e)

    pub change_step : (c : Change) (t : Ty) → type_of types f o ≡ t → Right (Changes o c) → is_change_of types texts fs f t c ≡ true → Covers (Changes o c)
    change_step c ty.Text is right e = text_step c is right e
    change_step c (ty.Vector element) is right e = vector_step element c is right e
    change_step c _ is right e = absurd (false≢true e)
