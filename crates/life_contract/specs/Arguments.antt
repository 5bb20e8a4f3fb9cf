-- The arguments of a call, and the inputs for which they are given.
use Rattle.std.specs.Prelude.{Bool, false, ◌&&◌, List, Option, Some, None, slice_get}
use Rattle.std.specs.List.{list_any}
use Rattle.life_types.specs.Types.{Types}
use Rattle.life_core.specs.Operands.{Argument, Value, GivenOver, PointerOf, Slot}
use Rattle.life_pset.specs.Elements.{Input, local_place}
use Rattle.life_pset.specs.Places.{members_place, path}
use Rattle.life_pset.specs.contracts.element.AbsPlacePartialEq.TheImpl.{ghosts as compared}
use Rattle.life_pset.specs.declared.element.AbsPlace.{AbsPlace}
use Rattle.life_contract.specs.Inputs.{inputs_of_signature, is_mutating, parameter_number}
use Rattle.life_contract.specs.Located.{is_location, is_rooted}
use Rattle.life_contract.specs.Signatures.{Signature}

-- the location is what the argument gives for the input: a pointer itself, or the same member of a struct
abbrev pub is_given : Option Argument → Input → (location : AbsPlace) → Bool
is_given None i location = false
is_given (Some (Value r)) i location = false
is_given (Some (GivenOver x)) i location = compared.eq location (members_place (local_place x) (path i.pointer))
is_given (Some (PointerOf l)) i location = is_location l location
is_given (Some (Slot l)) i location = is_location l location

abbrev pub is_argument_of : List Argument → Input → (location : AbsPlace) → Bool
is_argument_of xs i location = is_given (slice_get xs (parameter_number i)) i location

-- .. for some input that is mutating
abbrev pub is_mutating_argument : Types → Signature → List Argument → (location : AbsPlace) → Bool
is_mutating_argument types sig xs location = list_any (λ i. is_mutating types sig i && is_argument_of xs i location) (inputs_of_signature types sig)

-- ---- without a signature: the location lies in what an argument names

abbrev pub is_in_argument : Argument → (location : AbsPlace) → Bool
is_in_argument (Value r) location = false
is_in_argument (GivenOver x) location = is_rooted x location
is_in_argument (PointerOf l) location = is_location l location
is_in_argument (Slot l) location = is_location l location

abbrev pub is_in_arguments : List Argument → (location : AbsPlace) → Bool
is_in_arguments xs location = list_any (λ x. is_in_argument x location) xs
