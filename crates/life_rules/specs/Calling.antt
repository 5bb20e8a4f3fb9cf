-- What a call makes of facts: the result takes what the callee promises, and what a mutating argument points to may be invalid.
use Rattle.std.specs.Prelude.{ℕ, Bool, false, cond, not, ◌&&◌, List, [], Option, Some, None, map}
use Rattle.std.specs.List.{flat_map}
use Rattle.life_types.specs.Types.{Types}
use Rattle.life_types.specs.declared.place.Place.{Place}
use Rattle.life_core.specs.Operands.{Argument, Location}
use Rattle.life_pset.specs.Elements.{Input, called}
use Rattle.life_pset.specs.Places.{is_within, members_place, path}
use Rattle.life_pset.specs.declared.element.AbsPlace.{AbsPlace}
use Rattle.life_pset.specs.declared.element.Element.{Element}
use Rattle.life_pset.specs.declared.element.Element.TheVariants as element
use Rattle.life_pset.specs.declared.element.Fact.{Fact}
use Rattle.life_contract.specs.Arguments.{is_argument_of, is_mutating_argument}
use Rattle.life_contract.specs.Inputs.{inputs_of_signature}
use Rattle.life_contract.specs.Located.{located}
use Rattle.life_contract.specs.Positions.{steps_place}
use Rattle.life_contract.specs.Promises.{fixed_elements, promised_behind, result_locations, result_type}
use Rattle.life_contract.specs.Signatures.{Signature}
use Rattle.life_rules.specs.Matching.{fact_at, given_if, points_under}

-- ---- the target

-- its old set is replaced
abbrev pub is_in_target : Option Location → (location : AbsPlace) → Bool
is_in_target None location = false
is_in_target (Some l) location = is_within (located l) location

-- a location of the result, put at the target
abbrev pub result_at : (target r : AbsPlace) → AbsPlace
result_at target r = members_place target (path r)

-- ---- from no fact: what is promised that is no place

abbrev pub fixed_facts : Types → Signature → (target r : AbsPlace) → List Fact
fixed_facts types sig target r = map (fact_at (result_at target r)) (fixed_elements types sig (result_type types sig r))

abbrev pub fixed_into : Types → Signature → Option Location → List Fact
fixed_into types sig None = []
fixed_into types sig (Some l) = flat_map (fixed_facts types sig (located l)) (result_locations types sig)

abbrev pub called_none : Types → Option Signature → Option Location → List Fact
called_none types None target = []
called_none types (Some sig) target = fixed_into types sig target

-- ---- from one fact, of an argument: the places that are promised behind its input, from where it points

abbrev pub passed_fact : (target a r place : AbsPlace) → Fact
passed_fact target a r place = fact_at (result_at target r) (element.At (steps_place a (path place)))

abbrev pub passed_facts : Types → Signature → Input → (target a r : AbsPlace) → List Fact
passed_facts types sig i target a r = map (passed_fact target a r) (promised_behind types sig (result_type types sig r) i)

abbrev pub passed_element : Types → Signature → (target : AbsPlace) → Input → Element → List Fact
passed_element types sig target i (element.At a) = flat_map (passed_facts types sig i target a) (result_locations types sig)
passed_element types sig target i _ = []

abbrev pub passed_for : Types → Signature → List Argument → (target : AbsPlace) → Fact → Input → List Fact
passed_for types sig xs target fact i = cond (is_argument_of xs i fact.location) (passed_element types sig target i fact.element) []

abbrev pub passed_into : Types → Signature → List Argument → Option Location → Fact → List Fact
passed_into types sig xs None fact = []
passed_into types sig xs (Some l) fact = flat_map (passed_for types sig xs (located l) fact) (inputs_of_signature types sig)

abbrev pub called_one : Types → Option Signature → List Argument → Option Location → Fact → List Fact
called_one types None xs target fact = []
called_one types (Some sig) xs target fact = passed_into types sig xs target fact

-- ---- from two facts, of a mutating argument and of a pointer under what it points to, unless the call writes that

abbrev pub killed_by_call : Place → (callee : ℕ) → Option Location → (argument : Element) → (victim : Fact) → List Fact
killed_by_call place g target (element.At a) b = given_if (points_under a b.element && not (is_in_target target b.location)) (fact_at b.location (element.Invalid (called place g)))
killed_by_call place g target _ b = []

abbrev pub killed_at_call : Types → Place → (callee : ℕ) → Signature → List Argument → Option Location → (argument victim : Fact) → List Fact
killed_at_call types place g sig xs target a b = cond (is_mutating_argument types sig xs a.location) (killed_by_call place g target a.element b) []

abbrev pub called_two : Types → Place → (callee : ℕ) → Option Signature → List Argument → Option Location → (argument victim : Fact) → List Fact
called_two types place g None xs target a b = []
called_two types place g (Some sig) xs target a b = killed_at_call types place g sig xs target a b
