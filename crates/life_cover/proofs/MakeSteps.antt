-- A unique_ptr is made, as it is asked of well-formed instructions: null, fresh, of a number, or of what a temporary gives over.
use Rattle.std.proofs.Common.{◌≡◌, ℕ, Bool, true, false, List, [], ◌∷◌, Option, Some, refl, sym, ap, subst, ◌∙◌}
use Rattle.std.specs.Prelude.{Contains, ◌&&◌, if◌then◌else◌, not}
use Rattle.std.proofs.lemmas.Bool.{and_parts, false≢true}
use Rattle.life_types.specs.Pointees.{ty_of}
use Rattle.life_types.specs.TypeTests.{is_unique, is_value}
use Rattle.life_types.specs.Types.{Types}
use Rattle.life_types.specs.declared.place.Place.{Place}
use Rattle.life_types.specs.declared.ty.Ty.{Ty}
use Rattle.life_types.specs.declared.ty.Ty.TheVariants as ty
use Rattle.life_types.specs.declared.ty.TyId.{TyId}
use Rattle.life_core.specs.declared.instr.Made.{Made}
use Rattle.life_core.specs.declared.instr.Made.TheVariants as made
use Rattle.life_core.specs.Function.{Function}
use Rattle.life_core.specs.Operands.{Location}
use Rattle.life_core.specs.Step.{Make}
use Rattle.life_pset.specs.declared.element.Fact.{Fact}
use Rattle.life_pset.specs.declared.element.Root.{Root}
use Rattle.life_contract.specs.Signatures.{Signature}
use Rattle.life_proper.specs.GivenOver.{given_made}
use Rattle.life_proper.specs.OperandTypes.{owned_target, same}
use Rattle.life_proper.specs.Placed.{is_consumed, is_given, is_number_of, object_at, result_at, slot_at, type_at, type_in}
use Rattle.life_proper.specs.WellFormed.{is_made_for}
use Rattle.life_rules.proofs.Giving.{at_head}
use Rattle.life_store.specs.Doing.{does}
use Rattle.life_store.specs.Effects.{Effect, Setting, cell}
use Rattle.life_store.specs.Parts.{local_type}
use Rattle.life_store.specs.State.{Named, State}
use Rattle.life_forest.proofs.OneNumber.{type_there}
use Rattle.life_forest.proofs.ReadyCells.{number_any}
use Rattle.life_forest.proofs.SeenTypes.{value_parts}
use Rattle.life_forest.proofs.TypedSteps.{value_solid}
use Rattle.life_cover.proofs.KnownFrames.{IsKnownFrame, IsRight, number_free, object_uncounted}
use Rattle.life_cover.proofs.Looks.{given_type}
use Rattle.life_cover.proofs.MadeOver.{object_kind}
use Rattle.life_cover.proofs.MakeKinds.{IsMade, fresh_kind, null_kind, number_kind}
use Rattle.life_cover.proofs.Pointers.{OnRight, right_weaker}
use Rattle.life_cover.proofs.UniqueLocations.{unique_at, unique_is}
use Rattle.life_cover.proofs.Behind.{HasPlaceOf, behind_more, no_local}
use Rattle.life_cover.specs.Lacking.{MayLack}
use Rattle.life_cover.specs.Regions.{Region}

module _ (types : Types) (texts : ℕ) (fs : List Function) (f : Function) where
  -- ---- its type

  no_void : (y : ℕ) → is_given types f ty.Void y ≡ true → ⊥
  no_void y e = false≢true (and_parts (not (slot_at types f y)) false (and_parts (not (result_at types f y)) (not (slot_at types f y) && false) (and_parts (object_at types f y) (not (result_at types f y) && (not (slot_at types f y) && false)) e).1).1).1

  pub unique_of : (t : Ty) (m : Made) → is_made_for types texts fs f t m ≡ true → is_unique t ≡ true
  unique_of t made.Null e = e
  unique_of t made.Zero e = e
  unique_of (ty.Unique target) (made.Of y) e = refl
  unique_of _ (made.Of y) e = absurd (no_void y e)

module _ (types : Types) (f : Function) (rest : ℕ → ℕ) (inputs : Root → Option Region) (S : Fact → Type 0) (st : State) (k : IsKnownFrame types f rest inputs S st) (sigs : List Signature) (number : ℕ) (place : Place) (S' : Fact → Type 0) (texts : ℕ) (fs : List Function) (s : Setting) where
  -- what is known behind it
  abbrev pub IsMadeBy : Location → Made → State → Type 0
  IsMadeBy to m after = IsMade types f inputs S' (MayLack types f inputs S st) (λ z. Contains (given_made m) z) (HasPlaceOf to) st after

  -- more may be given over
  more_over : (to : Location) (m : Made) (over : ℕ → Type 0) → ((z : ℕ) → over z → Contains (given_made m) z) → (e : Effect) → OnRight e (IsMade types f inputs S' (MayLack types f inputs S st) over (HasPlaceOf to) st) → OnRight e (IsMadeBy to m)
  more_over to m over gives e h =
      right_weaker e (IsMade types f inputs S' (MayLack types f inputs S st) over (HasPlaceOf to) st) (IsMadeBy to m) h
      (λ after a. (a.0, behind_more types f inputs (MayLack types f inputs S st) over (HasPlaceOf to) (MayLack types f inputs S st) (λ z. Contains (given_made m) z) (HasPlaceOf to) st after (λ n b. b) gives (λ z same. same) a.1, a.2))

  -- ---- of an operand

  module _ (to : Location) (y : ℕ) (right : IsRight sigs types number f place (Make to (made.Of y)) S S') (e : is_made_for types texts fs f (type_in types f to) (made.Of y) ≡ true) where
    unique : is_unique (type_in types f to) ≡ true
    unique = unique_of types texts fs f (type_in types f to) (made.Of y) e

    same_target : {a b : TyId} → ty.Unique a ≡ ty.Unique b → a ≡ b
    same_target h = cc

    module _ (target : TyId) (is : type_in types f to ≡ ty.Unique target) where
      target_is : (n : ℕ) (named : cell st to.local ≡ Some (Named n)) → target ≡ (unique_at types f rest inputs S st k to n named unique).target
      target_is n named = same_target (sym is ∙ (unique_at types f rest inputs S st k to n named unique).is)

      consumed : (if is_value (ty_of types target) then is_number_of types f (ty_of types target) y else is_given types f (ty_of types target) y) ≡ true
      consumed = subst (λ (t : Ty). is_consumed types f (owned_target types t) y ≡ true) is e

      of_number : is_value (ty_of types target) ≡ true → OnRight (does s types f (Make to (made.Of y)) st) (IsMadeBy to (made.Of y))
      of_number value =
          more_over to (made.Of y) no_local (λ z none. absurd none) (does s types f (Make to (made.Of y)) st)
          (number_kind types f rest inputs S st k sigs number place S' s to unique y right
          (λ n named.
          let id = (unique_at types f rest inputs S st k to n named unique).target in
          let plain : is_value (ty_of types id) ≡ true = subst (λ (i : TyId). is_value (ty_of types i) ≡ true) (target_is n named) value in
          value_parts types k.ordered id (ty_of types id) (type_there types id (ty_of types id) refl (value_solid (ty_of types id) plain)) plain)
          (number_free types f rest inputs S st k y (number_any types f (ty_of types target) y (subst (λ b. (if b then is_number_of types f (ty_of types target) y else is_given types f (ty_of types target) y) ≡ true) value consumed))))

      of_object : is_value (ty_of types target) ≡ false → OnRight (does s types f (Make to (made.Of y)) st) (IsMadeBy to (made.Of y))
      of_object other =
          more_over to (made.Of y) (λ z. y ≡ z) (λ z same. subst (Contains (y ∷ [])) same (at_head y [])) (does s types f (Make to (made.Of y)) st)
          (object_kind types f rest inputs S st k sigs number place S' s to unique y outer.0 right (λ n named. typed ∙ ap Some (target_is n named)) (λ z there. object_uncounted types f rest inputs S st k y z outer.0 there))
        where
          outer : (object_at types f y ≡ true) × ((not (result_at types f y) && (not (slot_at types f y) && same (ty_of types target) (type_at types f y))) ≡ true)
          outer = and_parts (object_at types f y) _ (subst (λ b. (if b then is_number_of types f (ty_of types target) y else is_given types f (ty_of types target) y) ≡ true) other consumed)

          typed : local_type types f y ≡ Some target
          typed = given_type types k.ordered k.once f k.shaped y target (and_parts (not (slot_at types f y)) _ (and_parts (not (result_at types f y)) _ outer.1).1).1

      by_value : (value : Bool) → is_value (ty_of types target) ≡ value → OnRight (does s types f (Make to (made.Of y)) st) (IsMadeBy to (made.Of y))
      by_value true e = of_number e
      by_value false e = of_object e

    operand_made : OnRight (does s types f (Make to (made.Of y)) st) (IsMadeBy to (made.Of y))
    operand_made = let u = unique_is (type_in types f to) unique in by_value u.0 u.1 (is_value (ty_of types u.0)) refl

  -- ---- each

  pub make_right : (to : Location) (m : Made) → IsRight sigs types number f place (Make to m) S S' → is_made_for types texts fs f (type_in types f to) m ≡ true → OnRight (does s types f (Make to m) st) (IsMadeBy to m)
  make_right to made.Null right e = more_over to made.Null no_local (λ z none. absurd none) (does s types f (Make to made.Null) st) (null_kind types f rest inputs S st k sigs number place S' s to e right)
  make_right to made.Zero right e = more_over to made.Zero no_local (λ z none. absurd none) (does s types f (Make to made.Zero) st) (fresh_kind types f rest inputs S st k sigs number place S' s to e right)
  make_right to (made.Of y) right e = operand_made to y right e
