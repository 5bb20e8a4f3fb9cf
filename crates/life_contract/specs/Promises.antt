-- What a result may be: the promise of a signature for each location of its result.
use Rattle.std.specs.Prelude.{ℕ, Bool, true, false, cond, not, nat_eq, ◌&&◌, ◌||◌, List, [], ◌∷◌, ◌++◌, Some, length, map}
use Rattle.std.specs.List.{flat_map, list_any}
use Rattle.life_types.specs.TypeTests.{is_constant, is_pointer, is_raw}
use Rattle.life_types.specs.Types.{Types}
use Rattle.life_types.specs.contracts.ty.TyPartialEq.TheImpl.{ghosts as type}
use Rattle.life_types.specs.declared.ty.Ty.{Ty}
use Rattle.life_types.specs.declared.ty.Ty.TheVariants as ty
use Rattle.life_core.specs.Function.{Promise, Default, Listed}
use Rattle.life_core.specs.declared.program.LocalKind.TheVariants.{Object}
use Rattle.life_pset.specs.Elements.{Input, input_places, local_place, locations_in}
use Rattle.life_pset.specs.Places.{path}
use Rattle.life_pset.specs.Shapes.{members_type, ty_if}
use Rattle.life_pset.specs.declared.element.AbsPlace.{AbsPlace}
use Rattle.life_pset.specs.declared.element.Element.{Element}
use Rattle.life_pset.specs.declared.element.Element.TheVariants as element
use Rattle.life_pset.specs.declared.element.Fact.{Fact}
use Rattle.life_contract.specs.Inputs.{inputs_of_signature, parameter_number}
use Rattle.life_contract.specs.Positions.{pointed_type, position_type}
use Rattle.life_contract.specs.Signatures.{Signature}

-- ---- the places of a pointer of this type

-- the promise speaks of the parameter with this number
abbrev pub is_listed : Promise → ℕ → Bool
is_listed Default q = true
is_listed (Listed inputs fixed null) q = list_any (λ p. nat_eq p q) inputs

-- a pointer without const needs an input without const
abbrev pub agrees : (result input : Ty) → Bool
agrees t input = is_constant t || not (is_constant input)

-- .. and it points to what has its target's type
abbrev pub fits : Types → Ty → Input → AbsPlace → Bool
fits types t i place = agrees t (ty_if types i.ty) && type.eq (position_type types i place) (pointed_type types t)

abbrev pub place_if : Bool → AbsPlace → List AbsPlace
place_if here place = cond here (place ∷ []) []

abbrev pub fitting : Types → Ty → Input → List AbsPlace
fitting types t i = flat_map (λ place. place_if (fits types t i place) place) (input_places types i)

-- those behind one input
abbrev pub promised_behind : Types → Signature → Ty → Input → List AbsPlace
promised_behind types sig t i = cond (is_pointer t && is_listed sig.promise (parameter_number i)) (fitting types t i) []

-- .. behind all
abbrev pub promised_places : Types → Signature → Ty → List AbsPlace
promised_places types sig t = flat_map (promised_behind types sig t) (inputs_of_signature types sig)

-- ---- null and static

abbrev pub is_empty : List AbsPlace → Bool
is_empty [] = true
is_empty (place ∷ places) = false

abbrev pub lists_static : Promise → (none : Bool) → Bool
lists_static Default none = none
lists_static (Listed inputs fixed null) none = fixed

-- by default where there is no place
abbrev pub promises_static : Types → Signature → Ty → Bool
promises_static types sig t = lists_static sig.promise (is_empty (promised_places types sig t))

-- a result may be static wherever it may be anything
abbrev pub admits_static : Types → Signature → Ty → Bool
admits_static types sig t = promises_static types sig t || not (is_empty (promised_places types sig t))

abbrev pub lists_null : Promise → Bool
lists_null Default = true
lists_null (Listed inputs fixed null) = null

-- .. of raw pointers alone
abbrev pub promises_null : Signature → Ty → Bool
promises_null sig t = is_raw t && lists_null sig.promise

-- ---- all elements

abbrev pub element_if : Bool → Element → List Element
element_if here e = cond here (e ∷ []) []

-- a unique_ptr owns something or is null, and a vector or a string has its buffer
abbrev pub owner_elements : Ty → List Element
owner_elements (ty.Unique target) = element.Own ∷ element.Null ∷ []
owner_elements ty.Text = element.Own ∷ []
owner_elements (ty.Vector item) = element.Own ∷ []
owner_elements _ = []

-- those that are no places
abbrev pub pointer_elements : Types → Signature → Ty → List Element
pointer_elements types sig t = element_if (promises_null sig t) element.Null ++ element_if (promises_static types sig t) element.Static

abbrev pub fixed_elements : Types → Signature → Ty → List Element
fixed_elements types sig t = owner_elements t ++ cond (is_pointer t) (pointer_elements types sig t) []

abbrev pub promised_elements : Types → Signature → Ty → List Element
promised_elements types sig t = fixed_elements types sig t ++ map element.At (promised_places types sig t)

-- ---- the locations of the result, as those of the local behind the parameters

abbrev pub result_locations : Types → Signature → List AbsPlace
result_locations types sig = locations_in types Object sig.result (local_place (length sig.parameters))

abbrev pub result_type : Types → Signature → AbsPlace → Ty
result_type types sig r = ty_if types (members_type types (Some sig.result) (path r))

abbrev pub promised_facts : Types → Signature → AbsPlace → List Fact
promised_facts types sig r = map (λ e. record { location = r; element = e }) (promised_elements types sig (result_type types sig r))

-- what the function promises of its result
abbrev pub post_of : Types → Signature → List Fact
post_of types sig = flat_map (promised_facts types sig) (result_locations types sig)
