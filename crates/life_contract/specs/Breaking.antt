-- What arguments break.
use Rattle.std.specs.Prelude.{Bool, false, cond, ◌&&◌, ◌||◌, List, [], ◌∷◌, ◌++◌}
use Rattle.std.specs.List.{flat_map}
use Rattle.life_types.specs.Types.{Types}
use Rattle.life_pset.specs.Elements.{Input}
use Rattle.life_pset.specs.Places.{overlap}
use Rattle.life_pset.specs.declared.element.Cause.{Cause}
use Rattle.life_pset.specs.declared.element.Element.{Element}
use Rattle.life_pset.specs.declared.element.Element.TheVariants as element
use Rattle.life_contract.specs.Inputs.{admits_null, is_mutating}
use Rattle.life_contract.specs.Signatures.{Signature}

-- ---- one argument

pub data Break : Type 0 where
  NotAdmitted : Break
  Dangles : Cause → Break

-- null where the input doesn't admit it, and what is invalid
abbrev pub breaks_at : Types → Signature → Input → Element → List Break
breaks_at types sig i element.Null = cond (admits_null types sig i) [] (NotAdmitted ∷ [])
breaks_at types sig i (element.Invalid c) = Dangles c ∷ []
breaks_at types sig i _ = []

-- ---- two arguments

abbrev pub overlapping : Element → Element → Bool
overlapping (element.At a) (element.At b) = overlap a b
overlapping _ _ = false

-- one of the inputs is mutating, and what is given for them overlaps
abbrev pub breaks_apart : Types → Signature → (i j : Input) → Element → Element → Bool
breaks_apart types sig i j a b = (is_mutating types sig i || is_mutating types sig j) && overlapping a b

-- something of each item and each one behind it
abbrev pub of_pairs : {A B : Type 0} → (A → A → List B) → List A → List B
of_pairs g [] = []
of_pairs g (x ∷ xs) = flat_map (g x) xs ++ of_pairs g xs
