-- The facts of a row that may make something wrong at a point.
use Rattle.std.specs.Prelude.{◌≡◌, ◌↔◌, ℕ, Bool, IsTrue, List, Some, Contains, slice_get}
use Rattle.life_types.specs.Types.{Types}
use Rattle.life_core.specs.Function.{Function}
use Rattle.life_core.specs.Tree.{Spot}
use Rattle.life_pset.specs.Table.{Table, Names}
use Rattle.life_pset.specs.declared.element.AbsPlace.{AbsPlace}
use Rattle.life_pset.specs.declared.element.Fact.{Fact}
use Rattle.life_rules.specs.FactSets.{Holds}
use Rattle.life_rules.specs.ToldAt.{spot_tells}

-- exactly those facts of the set whose location is told at the point
abbrev pub AreTold : Types → Function → Spot → Table → (ℕ → ℕ → Bool) → List Fact → Type 0
AreTold types f spot t has facts = (x : Fact) → Contains facts x ↔ (Holds t has x × IsTrue (spot_tells types f (Some spot) x.location))

-- the fact is one of the set's about the location with this number, which is told at the point
abbrev pub IsToldOf : Types → Function → Spot → Table → (ℕ → ℕ → Bool) → (l : ℕ) → Fact → Type 0
IsToldOf types f spot t has l x = ((e : ℕ) × (Names t l e x × IsTrue (has l e))) × IsTrue (spot_tells types f (Some spot) x.location)

-- the fact is one of the location and one of these elements
abbrev pub IsOfElements : Table → AbsPlace → (ℕ → Bool) → Fact → Type 0
IsOfElements t location elements x = (location ≡ x.location) × ((e : ℕ) × ((slice_get t.elements e ≡ Some x.element) × IsTrue (elements e)))
