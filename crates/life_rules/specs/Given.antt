-- What is given for the inputs of a called function, by all the facts before the call.
use Rattle.std.specs.Prelude.{◌≡◌, ◌⊎◌, ◌↔◌, ◌&&◌, ◌||◌, Bool, List, [], ◌∷◌, ◌++◌, Contains, cond, map}
use Rattle.std.specs.List.{flat_map, list_any}
use Rattle.life_core.specs.Function.{function_of}
use Rattle.life_core.specs.Operands.{argument_of}
use Rattle.life_pset.specs.Elements.{Input}
use Rattle.life_pset.specs.Inputs.{input_seen}
use Rattle.life_pset.specs.Places.{overlap}
use Rattle.life_pset.specs.Shapes.{is_variable_place}
use Rattle.life_pset.specs.contracts.element.AbsPlacePartialEq.TheImpl.{ghosts as compared}
use Rattle.life_pset.specs.declared.element.AbsPlace.{AbsPlace}
use Rattle.life_pset.specs.declared.element.Element.{Element}
use Rattle.life_pset.specs.declared.element.Element.TheVariants as element
use Rattle.life_pset.specs.declared.element.Fact.{Fact}
use Rattle.life_contract.specs.Arguments.{is_argument_of}
use Rattle.life_contract.specs.Breaking.{of_pairs}
use Rattle.life_contract.specs.Inputs.{input_parameter, inputs_of_signature, is_mutating}
use Rattle.life_rules.specs.Arguing.{known_name}
use Rattle.life_rules.specs.CallsAt.{moved_in, overlapping_in}
use Rattle.life_rules.specs.Telling.{told_of}
use Rattle.life_rules.specs.declared.arguing.CallAt.{CallAt}
use Rattle.life_rules.specs.declared.diag.Diag.{Diag}
use Rattle.life_rules.specs.declared.diag.DiagKind.TheVariants.{ArgDangling, ArgOverlap}
use Rattle.life_rules.specs.declared.diag.Why.TheVariants as why
use Rattle.life_rules.specs.declared.given.Given.{Given}

-- ---- the places where it may point

abbrev pub target_of : Element → List AbsPlace
target_of (element.At p) = p ∷ []
target_of _ = []

-- .. by one fact
abbrev pub target_in : CallAt → Input → Fact → List AbsPlace
target_in c i fact = cond (is_argument_of (map argument_of c.arguments.now) i fact.location) (target_of fact.element) []

abbrev pub targets_in : CallAt → Input → List Fact → List AbsPlace
targets_in c i facts = flat_map (target_in c i) facts

-- these places are added
abbrev pub AddsPlaces : (added before after : List AbsPlace) → Type 0
AddsPlaces added before after = (p : AbsPlace) → Contains after p ↔ (Contains before p ⊎ Contains added p)

-- ---- one input, and all

abbrev pub IsGiven : CallAt → List Fact → Given → Type 0
IsGiven c facts g = (g.is_mutating ≡ is_mutating c.callee.now.types.now c.callee.now.sig.now (input_seen g.input)) × AddsPlaces (targets_in c (input_seen g.input) facts) [] g.targets

abbrev pub given_input : Given → Input
given_input g = input_seen g.input

abbrev pub AreGiven : CallAt → List Fact → List Given → Type 0
AreGiven c facts all = (map given_input all ≡ inputs_of_signature c.callee.now.types.now c.callee.now.sig.now) × ((g : Given) → Contains all g → IsGiven c facts g)

-- ---- what is wrong with it

abbrev pub is_among : List AbsPlace → AbsPlace → Bool
is_among places p = list_any (compared.eq p) places

-- it may point to a vector or a string that is moved from
abbrev pub moved_by : CallAt → Given → AbsPlace → Element → List Diag
moved_by c g owner (element.Moved cause) =
    cond (is_among g.targets owner && is_variable_place c.callee.now.types.now (function_of c.at.now.f.now) owner)
    (told_of c.at.now.function c.at.now.spot.place c.number ArgDangling (given_input g).pointer (why.Cause cause))
    []
moved_by c g owner _ = []

abbrev pub moved_given : CallAt → Given → Fact → List Diag
moved_given c g owner = moved_by c g owner.location owner.element

-- .. or overlap what is given for another input
abbrev pub some_overlap : (these those : List AbsPlace) → Bool
some_overlap these those = list_any (λ a. list_any (overlap a) those) these

abbrev pub overlapping_given : CallAt → (first second : Given) → List Diag
overlapping_given c g h =
    cond ((g.is_mutating || h.is_mutating) && some_overlap g.targets h.targets)
    (told_of c.at.now.function c.at.now.spot.place c.number ArgOverlap (given_input g).pointer (why.Overlap (known_name c.callee.now.sig.now.name (input_parameter c.callee.now.sig.now (given_input h)))))
    []

-- ---- by two facts, for all inputs

abbrev pub inputs_in : CallAt → List Input
inputs_in c = inputs_of_signature c.callee.now.types.now c.callee.now.sig.now

abbrev pub broken_by_two_in : CallAt → (a b : Fact) → List Diag
broken_by_two_in c a b = flat_map (moved_in c a b) (inputs_in c) ++ of_pairs (overlapping_in c a b) (inputs_in c)
