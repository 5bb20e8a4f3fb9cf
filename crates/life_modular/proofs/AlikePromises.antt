-- What a result may be is the same by two tables that have the types alike that the signature names, under new numbers.
use Rattle.std.proofs.Common.{◌≡◌, ◌∙◌, ◌++◌, ◌&&◌, ◌||◌, ℕ, Bool, true, false, cond, not, if◌then◌else◌, nat_eq, List, [], ◌∷◌, Some, Contains, length, take, refl, ap, ap₂}
use Rattle.std.proofs.lemmas.List.{length-map}
use Rattle.std.specs.List.{flat_map}
use Rattle.life_types.specs.TypeTests.{is_pointer}
use Rattle.life_types.specs.Types.{Types}
use Rattle.life_types.specs.contracts.ty.TyPartialEq.TheImpl.{ghosts as type}
use Rattle.life_types.specs.declared.ty.Ty.{Ty}
use Rattle.life_types.specs.declared.ty.Ty.TheVariants as ty
use Rattle.life_core.specs.Function.{Function}
use Rattle.life_core.specs.declared.program.LocalKind.TheVariants.{Object}
use Rattle.life_pset.specs.Elements.{Input, input_places, local_place, locations_in}
use Rattle.life_pset.specs.Places.{owned_step, path}
use Rattle.life_pset.specs.Shapes.{member_of, members_type, target_of, ty_if}
use Rattle.life_pset.specs.declared.element.AbsPlace.{AbsPlace}
use Rattle.life_pset.specs.declared.element.Element.{Element}
use Rattle.life_pset.specs.declared.element.Element.TheVariants as element
use Rattle.life_contract.specs.Inputs.{inputs_of_signature, parameter_number}
use Rattle.life_contract.specs.Positions.{owned_type, pointed_type, position_type, step_type, steps_type}
use Rattle.life_contract.specs.Promises.{admits_static, agrees, element_if, fits, fitting, fixed_elements, is_empty, is_listed, lists_null, lists_static, owner_elements, place_if, pointer_elements, promised_behind, promised_places, promises_null, promises_static, result_locations, result_type}
use Rattle.life_contract.specs.Signatures.{Signature, parameter_of, signature_of}
use Rattle.life_contract.specs.declared.param.Param.{Param}
use Rattle.life_modular.proofs.AlikeEqualTypes.{type_eq_same}
use Rattle.life_modular.proofs.AlikeInputs.{input_places_same, inputs_of_signature_named, inputs_of_signature_same, locations_in_same}
use Rattle.life_modular.proofs.AlikeLists.{each_map, flat_map_mapped, flat_map_same, in_front}
use Rattle.life_modular.proofs.AlikeTypes.{IsNamed, member_of_named, member_of_same, members_type_named, members_type_same, target_of_named, ty_if_named, ty_if_same, ty_of_named, ty_of_same}
use Rattle.life_modular.proofs.Renumbered.{agrees_renumbered, is_pointer_renumbered, is_raw_renumbered, owner_elements_renumbered, target_of_renumbered}
use Rattle.life_modular.specs.Renumbering.{Renumbering, renumbered_input, renumbered_parameter, renumbered_signature, renumbered_type}
use Rattle.life_modular.specs.Vocabulary.{Vocabulary, HasPartsIn, HaveAlike, HeadNames, Names}

-- a function's head names types that the function names
pub names_head : {v : Vocabulary} {f : Function} → Names v f → HeadNames v (signature_of f)
names_head {v} {f} names = record {
  parameters = each_map (λ (p : Param). Contains v.types p.ty) parameter_of (take f.parameters f.locals) (λ l among. names.locals l (in_front f.parameters f.locals l among));
  result = names.result;
}

either_renumbered : (new : Renumbering) (b : Bool) (t u : Ty) → (if b then renumbered_type new t else renumbered_type new u) ≡ renumbered_type new (if b then t else u)
either_renumbered new true t u = refl
either_renumbered new false t u = refl

module _ {v : Vocabulary} {new : Renumbering} {these those : Types} (alike : HaveAlike v new these those) where
  -- ---- the types of places behind an input

  pub owned_type_same : (t : Ty) → HasPartsIn v t → owned_type those (renumbered_type new t) ≡ renumbered_type new (owned_type these t)
  owned_type_same (ty.Vector item) parts = ty_of_same alike item parts
  owned_type_same (ty.Unique target) parts = ty_of_same alike target parts
  owned_type_same _ parts = refl

  pub owned_type_named : (t : Ty) → HasPartsIn v t → HasPartsIn v (owned_type these t)
  owned_type_named (ty.Vector item) parts = ty_of_named alike item parts
  owned_type_named (ty.Unique target) parts = ty_of_named alike target parts
  owned_type_named _ parts = tt

  pub step_type_same : (t : Ty) → HasPartsIn v t → (step : ℕ) → step_type those (renumbered_type new t) step ≡ renumbered_type new (step_type these t step)
  step_type_same t parts step =
      ap₂ (λ (owned member : Ty). if nat_eq step owned_step then owned else member)
      (owned_type_same t parts)
      (ap (ty_if those) (member_of_same alike t parts step) ∙ ty_if_same alike (member_of these t step) (member_of_named alike t parts step))
      ∙ either_renumbered new (nat_eq step owned_step) (owned_type these t) (ty_if these (member_of these t step))

  either_named : (b : Bool) (t u : Ty) → HasPartsIn v t → HasPartsIn v u → HasPartsIn v (if b then t else u)
  either_named true t u one other = one
  either_named false t u one other = other

  pub step_type_named : (t : Ty) → HasPartsIn v t → (step : ℕ) → HasPartsIn v (step_type these t step)
  step_type_named t parts step =
      either_named (nat_eq step owned_step) (owned_type these t) (ty_if these (member_of these t step))
      (owned_type_named t parts)
      (ty_if_named alike (member_of these t step) (member_of_named alike t parts step))

  pub steps_type_same : (t : Ty) → HasPartsIn v t → (ss : List ℕ) → steps_type those (renumbered_type new t) ss ≡ renumbered_type new (steps_type these t ss)
  steps_type_same t parts [] = refl
  steps_type_same t parts (s ∷ ss) =
      ap (λ (u : Ty). steps_type those u ss) (step_type_same t parts s) ∙ steps_type_same (step_type these t s) (step_type_named t parts s) ss

  pub steps_type_named : (t : Ty) → HasPartsIn v t → (ss : List ℕ) → HasPartsIn v (steps_type these t ss)
  steps_type_named t parts [] = parts
  steps_type_named t parts (s ∷ ss) = steps_type_named (step_type these t s) (step_type_named t parts s) ss

  pub pointed_type_same : (t : Ty) → HasPartsIn v t → pointed_type those (renumbered_type new t) ≡ renumbered_type new (pointed_type these t)
  pointed_type_same ty.View parts = refl
  pointed_type_same t parts = ap (ty_if those) (target_of_renumbered new t) ∙ ty_if_same alike (target_of t) (target_of_named alike t parts)

  pub pointed_type_named : (t : Ty) → HasPartsIn v t → HasPartsIn v (pointed_type these t)
  pointed_type_named ty.View parts = tt
  pointed_type_named t parts = ty_if_named alike (target_of t) (target_of_named alike t parts)

  pub position_type_same : (i : Input) → IsNamed v i.ty → (place : AbsPlace) → position_type those (renumbered_input new i) place ≡ renumbered_type new (position_type these i place)
  position_type_same i named place =
      ap (λ (t : Ty). steps_type those t (path place))
      (ap (pointed_type those) (ty_if_same alike i.ty named) ∙ pointed_type_same (ty_if these i.ty) (ty_if_named alike i.ty named))
      ∙ steps_type_same (pointed_type these (ty_if these i.ty)) (pointed_type_named (ty_if these i.ty) (ty_if_named alike i.ty named)) (path place)

  pub position_type_named : (i : Input) → IsNamed v i.ty → (place : AbsPlace) → HasPartsIn v (position_type these i place)
  position_type_named i named place =
      steps_type_named (pointed_type these (ty_if these i.ty)) (pointed_type_named (ty_if these i.ty) (ty_if_named alike i.ty named)) (path place)

  -- ---- the places that a pointer of this type may point to

  pub fits_same : (t : Ty) → HasPartsIn v t → (i : Input) → IsNamed v i.ty → (place : AbsPlace)
      → fits those (renumbered_type new t) (renumbered_input new i) place ≡ fits these t i place
  fits_same t parts i named place =
      ap₂ (λ (a b : Bool). a && b)
      (ap (agrees (renumbered_type new t)) (ty_if_same alike i.ty named) ∙ agrees_renumbered new t (ty_if these i.ty))
      (ap₂ type.eq (position_type_same i named place) (pointed_type_same t parts)
      ∙ type_eq_same alike (position_type these i place) (pointed_type these t) (position_type_named i named place) (pointed_type_named t parts))

  pub fitting_same : (t : Ty) → HasPartsIn v t → (i : Input) → IsNamed v i.ty → fitting those (renumbered_type new t) (renumbered_input new i) ≡ fitting these t i
  fitting_same t parts i named =
      ap (flat_map (λ place. place_if (fits those (renumbered_type new t) (renumbered_input new i) place) place)) (input_places_same alike i named)
      ∙ flat_map_same (λ place. place_if (fits those (renumbered_type new t) (renumbered_input new i) place) place) (λ place. place_if (fits these t i place) place) (input_places these i)
      (λ place among. ap (λ (b : Bool). place_if b place) (fits_same t parts i named place))

  pub promised_behind_same : (sig : Signature) (t : Ty) → HasPartsIn v t → (i : Input) → IsNamed v i.ty
      → promised_behind those (renumbered_signature new sig) (renumbered_type new t) (renumbered_input new i) ≡ promised_behind these sig t i
  promised_behind_same sig t parts i named =
      ap₂ (λ (pointer : Bool) (places : List AbsPlace). cond (pointer && is_listed sig.promise (parameter_number i)) places [])
      (is_pointer_renumbered new t)
      (fitting_same t parts i named)

  -- ---- of a signature that names these types

  module _ {sig : Signature} (names : HeadNames v sig) where
    pub promised_places_same : (t : Ty) → HasPartsIn v t → promised_places those (renumbered_signature new sig) (renumbered_type new t) ≡ promised_places these sig t
    promised_places_same t parts =
        ap (flat_map (promised_behind those (renumbered_signature new sig) (renumbered_type new t))) (inputs_of_signature_same alike names)
        ∙ flat_map_mapped (renumbered_input new) (promised_behind those (renumbered_signature new sig) (renumbered_type new t)) (promised_behind these sig t) (inputs_of_signature these sig)
        (λ i among. promised_behind_same sig t parts i (inputs_of_signature_named alike names i among))

    pub promises_static_same : (t : Ty) → HasPartsIn v t → promises_static those (renumbered_signature new sig) (renumbered_type new t) ≡ promises_static these sig t
    promises_static_same t parts = ap (λ (places : List AbsPlace). lists_static sig.promise (is_empty places)) (promised_places_same t parts)

    pub admits_static_same : (t : Ty) → HasPartsIn v t → admits_static those (renumbered_signature new sig) (renumbered_type new t) ≡ admits_static these sig t
    admits_static_same t parts =
        ap (λ (places : List AbsPlace). lists_static sig.promise (is_empty places) || not (is_empty places)) (promised_places_same t parts)

    promises_null_same : (t : Ty) → promises_null (renumbered_signature new sig) (renumbered_type new t) ≡ promises_null sig t
    promises_null_same t = ap (λ (raw : Bool). raw && lists_null sig.promise) (is_raw_renumbered new t)

    pub pointer_elements_same : (t : Ty) → HasPartsIn v t → pointer_elements those (renumbered_signature new sig) (renumbered_type new t) ≡ pointer_elements these sig t
    pointer_elements_same t parts =
        ap₂ (λ (null static : Bool). element_if null element.Null ++ element_if static element.Static) (promises_null_same t) (promises_static_same t parts)

    pub fixed_elements_same : (t : Ty) → HasPartsIn v t → fixed_elements those (renumbered_signature new sig) (renumbered_type new t) ≡ fixed_elements these sig t
    fixed_elements_same t parts =
        ap₂ (λ (owned : List Element) (pointer : Bool). owned ++ cond pointer (pointer_elements those (renumbered_signature new sig) (renumbered_type new t)) [])
        (owner_elements_renumbered new t)
        (is_pointer_renumbered new t)
        ∙ ap (λ (elements : List Element). owner_elements t ++ cond (is_pointer t) elements []) (pointer_elements_same t parts)

    pub result_locations_same : result_locations those (renumbered_signature new sig) ≡ result_locations these sig
    result_locations_same =
        ap (λ (n : ℕ). locations_in those Object (new.type sig.result) (local_place n)) (length-map sig.parameters (renumbered_parameter new))
        ∙ locations_in_same alike Object sig.result names.result (local_place (length sig.parameters))

    pub result_type_same : (r : AbsPlace) → result_type those (renumbered_signature new sig) r ≡ renumbered_type new (result_type these sig r)
    result_type_same r =
        ap (ty_if those) (members_type_same alike (Some sig.result) names.result (path r))
        ∙ ty_if_same alike (members_type these (Some sig.result) (path r)) (members_type_named alike (Some sig.result) names.result (path r))

    pub result_type_named : (r : AbsPlace) → HasPartsIn v (result_type these sig r)
    result_type_named r =
        ty_if_named alike (members_type these (Some sig.result) (path r)) (members_type_named alike (Some sig.result) names.result (path r))
