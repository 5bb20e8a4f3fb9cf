-- The variable that is declared next: its kind and its type in the finished function, so it can live, and what it is given fits it.
use Rattle.std.proofs.Common.{◌≡◌, ℕ, Bool, true, false, not, ◌&&◌, List, length, slice_get, Option, Some, refl, sym, ap, ◌∙◌}
use Rattle.std.proofs.lemmas.Bool.{and_from, or_left, or_right}
use Rattle.life_elab_laws.proofs.ObjectTypes.{is_owner_of_values, is_target}
use Rattle.life_types.specs.Pointees.{ty_of}
use Rattle.life_types.specs.TypeTests.{is_pointer, is_reference, is_value}
use Rattle.life_types.specs.Types.{Types, class}
use Rattle.life_types.specs.declared.ty.Ty.{Ty}
use Rattle.life_types.specs.declared.ty.Ty.TheVariants as ty
use Rattle.life_types.specs.declared.ty.TyId.{TyId}
use Rattle.life_typed.specs.BaseTypes.{type_at}
use Rattle.life_typed.specs.declared.typed_program.TypedLocal.{TypedLocal}
use Rattle.life_core.specs.Function.{Function}
use Rattle.life_core.specs.Operands.{Operand, object_named, whole}
use Rattle.life_core.specs.Step.{Save}
use Rattle.life_core.specs.declared.program.LocalKind.TheVariants.{Object, Register}
use Rattle.life_proper.specs.OperandTypes.{keeps_const, same}
use Rattle.life_proper.specs.Placed.{is_const_place, is_number_of, object_at, register_at, type_in}
use Rattle.life_proper.specs.Placed as placed
use Rattle.life_proper.specs.WellFormed.{can_live, goes_to}
use Rattle.life_writer.specs.Around.{Around}
use Rattle.life_writer.specs.Variables.{kind, variable_local}
use Rattle.life_writer.specs.Writing.{State}
use Rattle.life_elab_laws.proofs.Aiming.{keeps_further}
use Rattle.life_elab_laws.proofs.CallParts.{goes_object}
use Rattle.life_elab_laws.proofs.Declaring.{with_new}
use Rattle.life_elab_laws.proofs.FormedVariables.{location_kind, location_no_reference, object_place, reference_there, type_found, owner_no_reference}
use Rattle.life_elab_laws.proofs.Fronts.{IsFront, front_itself, last_there}
use Rattle.life_elab_laws.proofs.Gifts.{IsAt, IsPlaceOf}
use Rattle.life_elab_laws.proofs.Growing.{Begins}
use Rattle.life_elab_laws.proofs.Locations.{is_location}
use Rattle.life_elab_laws.proofs.OperandsThere.{object_there, register_there, type_there, value_no_reference}
use Rattle.life_elab_laws.proofs.Shaping.{IsFineStep}
use Rattle.life_elab_laws.proofs.Types.{value_kind}
use Rattle.life_elab_laws.proofs.VariablePlaces.{owner_kind}
use Rattle.life_elab_laws.proofs.Targets.{one_target, target_type, target_unslotted}

module _ (a : Around) (types : Types) (texts : ℕ) (fs : List Function) (f : Function) (front : IsFront a.program.types.types types.types) where
  -- what a reference is bound to fits it
  pub bound_given : (target : TyId) (constant held : Bool) (o : Operand) → is_target a.program.types (type_at a.program.types target) ≡ true → keeps_const constant held ≡ true
      → IsPlaceOf types texts fs f (type_at a.program.types target) held o → (same (ty_of types target) (placed.type_of types f o) && keeps_const constant (is_const_place types f o)) ≡ true
  bound_given target constant held o worth kept place =
      and_from (same (ty_of types target) (placed.type_of types f o)) (keeps_const constant (is_const_place types f o))
      (ap (same (ty_of types target)) (place.typed ∙ sym (target_type a.program.types types front target worth)) ∙ one_target a.program.types types front target worth)
      (keeps_further constant held (is_const_place types f o) kept place.held)

  module _ (v : TypedLocal) (s : State) (b : Begins types f (with_new (variable_local a v) s)) where
    there : slice_get f.locals (length s.locals) ≡ Some (variable_local a v)
    there = b.locals (length s.locals) (variable_local a v) (last_there s.locals (variable_local a v))

    -- of a value type
    module _ (worth : is_value (type_at a.program.types v.ty) ≡ true) where
      is_object : (variable_local a v).kind ≡ Object
      is_object = ap (λ (o : Option Ty). kind (class o)) (type_found a.program.types a.program.types (front_itself a.program.types.types) v.ty worth) ∙ value_kind (type_at a.program.types v.ty) worth

      object_declared : object_at types f (length s.locals) ≡ true
      object_declared = object_there types f (length s.locals) (variable_local a v) there is_object

      type_declared : placed.type_at types f (length s.locals) ≡ type_at a.program.types v.ty
      type_declared =
          type_there types f (length s.locals) (variable_local a v) (type_at a.program.types v.ty) there (type_found a.program.types types front v.ty worth)
          (value_no_reference (type_at a.program.types v.ty) worth)

      pub value_lives : can_live types texts fs f (length s.locals) ≡ true
      value_lives = or_left (object_at types f (length s.locals)) _ object_declared

      pub value_saved : (r : ℕ) → is_number_of types f (type_at a.program.types v.ty) r ≡ true → IsFineStep types texts fs f (Save (object_named (length s.locals)) r)
      value_saved r h = record {
        given = refl;
        formed =
            and_from (is_number_of types f (placed.type_of types f (object_named (length s.locals))) r) true
            (ap (λ (t : Ty). is_number_of types f t r) (object_place types texts fs f (length s.locals) (type_at a.program.types v.ty) false object_declared type_declared).typed ∙ h) refl;
      }

      -- a call brings it to life
      pub value_goes : goes_to types texts fs f (type_at a.program.types v.ty) (Some (whole (length s.locals))) ≡ true
      value_goes = goes_object types texts fs f (type_at a.program.types v.ty) (length s.locals) worth type_declared object_declared

    -- an owner
    pub owner_lives : (t : Ty) → slice_get a.program.types.types v.ty.0 ≡ Some t → is_owner_of_values a.program.types t ≡ true → can_live types texts fs f (length s.locals) ≡ true
    owner_lives t found o =
        or_left (object_at types f (length s.locals)) _
        (object_there types f (length s.locals) (variable_local a v) there (ap (λ (u : Option Ty). kind (class u)) found ∙ owner_kind a.program.types t o))

    pub owner_declared : (t : Ty) → slice_get a.program.types.types v.ty.0 ≡ Some t → is_owner_of_values a.program.types t ≡ true → IsPlaceOf types texts fs f t false (object_named (length s.locals))
    owner_declared t found o =
        object_place types texts fs f (length s.locals) t false
        (object_there types f (length s.locals) (variable_local a v) there (ap (λ (u : Option Ty). kind (class u)) found ∙ owner_kind a.program.types t o))
        (type_there types f (length s.locals) (variable_local a v) t there (front v.ty.0 t found) (owner_no_reference a.program.types t o))

    -- anything else that is an object
    pub object_lives : (t : Ty) → slice_get a.program.types.types v.ty.0 ≡ Some t → kind (class (Some t)) ≡ Object → can_live types texts fs f (length s.locals) ≡ true
    object_lives t found object =
        or_left (object_at types f (length s.locals)) _ (object_there types f (length s.locals) (variable_local a v) there (ap (λ (u : Option Ty). kind (class u)) found ∙ object))

    pub object_placed : (t : Ty) → slice_get a.program.types.types v.ty.0 ≡ Some t → kind (class (Some t)) ≡ Object → is_reference t ≡ false → IsPlaceOf types texts fs f t false (object_named (length s.locals))
    object_placed t found object plain =
        object_place types texts fs f (length s.locals) t false
        (object_there types f (length s.locals) (variable_local a v) there (ap (λ (u : Option Ty). kind (class u)) found ∙ object))
        (type_there types f (length s.locals) (variable_local a v) t there (front v.ty.0 t found) plain)

    -- of the type of a raw pointer or a view
    pub location_declared : (t : Ty) → is_location t ≡ true → slice_get a.program.types.types v.ty.0 ≡ Some t → IsAt types texts fs f t (whole (length s.locals))
    location_declared t loc found = record {
      typed = type_there types f (length s.locals) (variable_local a v) t there (front v.ty.0 t found) (location_no_reference t loc);
      kept = register_there types f (length s.locals) (variable_local a v) there (ap (λ (o : Option Ty). kind (class o)) found ∙ location_kind t loc);
    }

    -- .. it can live where it is no reference
    pub location_lives : (t : Ty) → is_location t ≡ true → is_pointer t ≡ true → kind (class (Some t)) ≡ Register → slice_get a.program.types.types v.ty.0 ≡ Some t → can_live types texts fs f (length s.locals) ≡ true
    location_lives t loc pointer kept found =
        let at = location_declared t loc found in
        or_right (object_at types f (length s.locals)) _
        (and_from (register_at types f (length s.locals)) _ (register_there types f (length s.locals) (variable_local a v) there (ap (λ (o : Option Ty). kind (class o)) found ∙ kept))
        (and_from (is_pointer (placed.type_at types f (length s.locals))) (not (is_reference (placed.type_at types f (length s.locals)))) (ap is_pointer at.typed ∙ pointer)
        (ap (λ (t : Ty). not (is_reference t)) at.typed ∙ ap not (location_no_reference t loc))))

    pub raw_lives : (target : TyId) (constant : Bool) → slice_get a.program.types.types v.ty.0 ≡ Some (ty.Raw target constant) → can_live types texts fs f (length s.locals) ≡ true
    raw_lives target constant found = location_lives (ty.Raw target constant) refl refl refl found

    -- of a reference type
    module _ (target : TyId) (constant : Bool) (found : slice_get a.program.types.types v.ty.0 ≡ Some (ty.Reference target constant)) (worth : is_target a.program.types (type_at a.program.types target) ≡ true) where
      pub reference_declared : type_in types f (whole (length s.locals)) ≡ ty.Reference target constant
      reference_declared =
          reference_there types f (length s.locals) (variable_local a v) target constant there (front v.ty.0 (ty.Reference target constant) found)
          (target_unslotted a.program.types types front target worth)

      pub reference_kept : register_at types f (length s.locals) ≡ true
      reference_kept = register_there types f (length s.locals) (variable_local a v) there (ap (λ (o : Option Ty). kind (class o)) found)
