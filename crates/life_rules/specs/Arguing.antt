-- What is wrong with the arguments of a call.
use Rattle.std.specs.Prelude.{ℕ, cond, ◌&&◌, List, [], ◌++◌, Option, Some, None, slice_get, unwrap_or}
use Rattle.std.specs.List.{flat_map}
use Rattle.life_types.specs.Types.{Types}
use Rattle.life_types.specs.declared.place.Place.{Place}
use Rattle.life_types.specs.declared.ty.NameId.{NameId}
use Rattle.life_core.specs.Function.{Function}
use Rattle.life_core.specs.Operands.{Argument}
use Rattle.life_core.specs.Step.{Step, Call}
use Rattle.life_pset.specs.Elements.{Input}
use Rattle.life_pset.specs.Shapes.{is_variable_place}
use Rattle.life_pset.specs.contracts.element.AbsPlacePartialEq.TheImpl.{ghosts as compared}
use Rattle.life_pset.specs.declared.element.Element.{Element}
use Rattle.life_pset.specs.declared.element.Element.TheVariants as element
use Rattle.life_pset.specs.declared.element.Fact.{Fact}
use Rattle.life_contract.specs.Arguments.{is_argument_of}
use Rattle.life_contract.specs.Breaking.{Break, NotAdmitted, Dangles, breaks_apart, breaks_at, of_pairs}
use Rattle.life_contract.specs.Inputs.{input_parameter, inputs_of_signature}
use Rattle.life_contract.specs.Signatures.{Signature}
use Rattle.life_contract.specs.declared.param.Param.{Param}
use Rattle.life_rules.specs.Telling.{told_of}
use Rattle.life_rules.specs.declared.diag.Diag.{Diag}
use Rattle.life_rules.specs.declared.diag.DiagKind.TheVariants.{ArgNull, ArgDangling, ArgOverlap}
use Rattle.life_rules.specs.declared.diag.Why.TheVariants as why

-- ---- one fact: null where it isn't admitted, and what is invalid

abbrev pub told_break : ℕ → Place → (callee : ℕ) → Input → Break → List Diag
told_break function place g i NotAdmitted = told_of function place g ArgNull i.pointer why.Null
told_break function place g i (Dangles c) = told_of function place g ArgDangling i.pointer (why.Cause c)

abbrev pub broken_at : Types → ℕ → Place → (callee : ℕ) → Signature → List Argument → Fact → Input → List Diag
broken_at types function place g sig xs fact i = cond (is_argument_of xs i fact.location) (flat_map (told_break function place g i) (breaks_at types sig i fact.element)) []

abbrev pub broken_by : Types → ℕ → Place → (callee : ℕ) → Option Signature → List Argument → Fact → List Diag
broken_by types function place g None xs fact = []
broken_by types function place g (Some sig) xs fact = flat_map (broken_at types function place g sig xs fact) (inputs_of_signature types sig)

abbrev pub argument_diags : List Signature → Types → ℕ → Place → Step → Fact → List Diag
argument_diags sigs types function place (Call target g xs) fact = broken_by types function place g.0 (slice_get sigs g.0) xs fact
argument_diags sigs types function place _ fact = []

-- ---- two facts: a whole vector or string of the function that is moved from

abbrev pub moved_argument : ℕ → Place → (callee : ℕ) → Input → Element → List Diag
moved_argument function place g i (element.Moved c) = told_of function place g ArgDangling i.pointer (why.Cause c)
moved_argument function place g i _ = []

abbrev pub moved_behind : Types → ℕ → Function → Place → (callee : ℕ) → Input → (argument : Element) → (owner : Fact) → List Diag
moved_behind types function f place g i (element.At a) b = cond (compared.eq b.location a && is_variable_place types f b.location) (moved_argument function place g i b.element) []
moved_behind types function f place g i _ b = []

abbrev pub moved_at : Types → ℕ → Function → Place → (callee : ℕ) → List Argument → (argument owner : Fact) → Input → List Diag
moved_at types function f place g xs a b i = cond (is_argument_of xs i a.location) (moved_behind types function f place g i a.element b) []

-- .. and two arguments that overlap, the first before the second, one of them mutating

-- the name of a parameter, which each has
abbrev pub known_name : NameId → Option Param → NameId
known_name other None = other
known_name other (Some p) = unwrap_or p.name other

abbrev pub overlapping_at : Types → ℕ → Place → (callee : ℕ) → Signature → List Argument → (first second : Fact) → (i j : Input) → List Diag
overlapping_at types function place g sig xs a b i j =
    cond ((is_argument_of xs i a.location && is_argument_of xs j b.location) && breaks_apart types sig i j a.element b.element)
    (told_of function place g ArgOverlap i.pointer (why.Overlap (known_name sig.name (input_parameter sig j))))
    []

abbrev pub broken_by_two : Types → ℕ → Function → Place → (callee : ℕ) → Option Signature → List Argument → (first second : Fact) → List Diag
broken_by_two types function f place g None xs a b = []
broken_by_two types function f place g (Some sig) xs a b =
    flat_map (moved_at types function f place g xs a b) (inputs_of_signature types sig)
    ++ of_pairs (overlapping_at types function place g sig xs a b) (inputs_of_signature types sig)

abbrev pub argument_diags_of_two : List Signature → Types → ℕ → Function → Place → Step → Fact → Fact → List Diag
argument_diags_of_two sigs types function f place (Call target g xs) a b = broken_by_two types function f place g.0 (slice_get sigs g.0) xs a b
argument_diags_of_two sigs types function f place _ a b = []
