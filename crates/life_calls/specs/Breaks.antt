-- All that the arguments of a call break.
use Rattle.std.specs.Prelude.{ℕ, ◌+◌, Bool, cond, ◌&&◌, nat_eq, List, [], ◌∷◌, ◌++◌, Option, None, Some, map}
use Rattle.std.specs.List.{flat_map, fold, list_any}
use Rattle.life_contract.specs.Breaking.{Break, NotAdmitted, Dangles, breaks_apart, breaks_at}
use Rattle.life_contract.specs.Inputs.{inputs_of_signature, parameter_number}
use Rattle.life_contract.specs.Signatures.{Signature}
use Rattle.life_pset.specs.Elements.{Input}
use Rattle.life_pset.specs.contracts.element.AbsPlacePartialEq.TheImpl.{ghosts as place}
use Rattle.life_pset.specs.declared.element.Cause.{Cause}
use Rattle.life_types.specs.Types.{Types}
use Rattle.life_calls.specs.contracts.given.CallBreakPartialEq.TheImpl.{ghosts as compared}
use Rattle.life_calls.specs.declared.given.ArgFact.{ArgFact}
use Rattle.life_calls.specs.declared.given.CallBreak.{CallBreak}
use Rattle.life_calls.specs.declared.given.CallBreak.TheVariants.{Null, Dangling, Overlap}

-- the fact says what is given for the input
abbrev pub is_fact_of : Input → ArgFact → Bool
is_fact_of i x = nat_eq (parameter_number i) x.parameter && place.eq i.pointer x.place

-- ---- one fact

abbrev pub dangling : ArgFact → Cause → CallBreak
dangling x c = Dangling x.parameter x.place c

-- null where it isn't admitted, and what is invalid
abbrev pub break_of : ArgFact → Break → CallBreak
break_of x NotAdmitted = Null x.parameter x.place
break_of x (Dangles c) = dangling x c

-- .. and what leads to what may be moved from
abbrev pub moved_breaks : ArgFact → Option Cause → List CallBreak
moved_breaks x None = []
moved_breaks x (Some c) = dangling x c ∷ []

abbrev pub breaks_of_fact : Types → Signature → Input → ArgFact → List CallBreak
breaks_of_fact types sig i x = cond (is_fact_of i x) (map (break_of x) (breaks_at types sig i x.element) ++ moved_breaks x x.moved) []

abbrev pub breaks_of_input : Types → Signature → List ArgFact → Input → List CallBreak
breaks_of_input types sig xs i = flat_map (breaks_of_fact types sig i) xs

-- ---- two inputs, of which one is mutating and which may overlap

abbrev pub overlaps_with : Types → Signature → List ArgFact → (i j : Input) → ArgFact → Bool
overlaps_with types sig xs i j a = list_any (λ b. is_fact_of j b && breaks_apart types sig i j a.element b.element) xs

abbrev pub may_overlap : Types → Signature → List ArgFact → (i j : Input) → Bool
may_overlap types sig xs i j = list_any (λ a. is_fact_of i a && overlaps_with types sig xs i j a) xs

-- input n with each of these, which are numbered from m on
abbrev pub overlaps_from : Types → Signature → List ArgFact → (n : ℕ) → Input → (m : ℕ) → List Input → List CallBreak
overlaps_from types sig xs n i m [] = []
overlaps_from types sig xs n i m (j ∷ js) = cond (may_overlap types sig xs i j) (Overlap n m ∷ []) [] ++ overlaps_from types sig xs n i (m + 1) js

-- each of these, which are numbered from n on, with those behind it
abbrev pub pair_breaks : Types → Signature → List ArgFact → (n : ℕ) → List Input → List CallBreak
pair_breaks types sig xs n [] = []
pair_breaks types sig xs n (i ∷ is) = overlaps_from types sig xs n i (n + 1) is ++ pair_breaks types sig xs (n + 1) is

-- ---- all

abbrev pub breaks : Types → Signature → List ArgFact → List CallBreak
breaks types sig xs = flat_map (breaks_of_input types sig xs) (inputs_of_signature types sig) ++ pair_breaks types sig xs 0 (inputs_of_signature types sig)

-- a break behind those that were found, unless it is one of them
abbrev pub with_break : List CallBreak → CallBreak → List CallBreak
with_break found b = cond (list_any (λ other. compared.eq other b) found) found (found ++ b ∷ [])

-- .. and each of these
abbrev pub with_breaks : List CallBreak → List CallBreak → List CallBreak
with_breaks found bs = fold with_break found bs
