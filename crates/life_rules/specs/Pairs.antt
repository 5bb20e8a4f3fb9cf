-- What each two of some facts make wrong.
use Rattle.std.specs.Prelude.{◌⊎◌, ◌↔◌, ℕ, List, Contains}
use Rattle.std.specs.List.{flat_map}
use Rattle.life_types.specs.Types.{Types}
use Rattle.life_types.specs.declared.place.Place.{Place}
use Rattle.life_core.specs.Function.{Function}
use Rattle.life_core.specs.Step.{Step}
use Rattle.life_pset.specs.declared.element.Fact.{Fact}
use Rattle.life_rules.specs.Diagnosing.{moved_through, owners}
use Rattle.life_rules.specs.declared.diag.Diag.{Diag}

-- two of the facts, which may be one and the same, make it wrong
abbrev pub IsOfPair : (Fact → Fact → List Diag) → List Fact → Diag → Type 0
IsOfPair g facts d = (a : Fact) × ((b : Fact) × (Contains facts a × (Contains facts b × Contains (g a b) d)))

-- what is wrong in this way is added, in any order
abbrev pub Adds : (Diag → Type 0) → (before after : List Diag) → Type 0
Adds wrong before after = (d : Diag) → Contains after d ↔ (Contains before d ⊎ wrong d)

-- an instruction uses an owner through the pointer of the first fact, and the second says that it is moved from
abbrev pub moved_uses : Types → ℕ → Function → Place → Step → (first second : Fact) → List Diag
moved_uses types function f place i a b = flat_map (moved_through types function f place a b) (owners i)
