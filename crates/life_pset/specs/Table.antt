-- The numbers of a function's locations and elements.
use Rattle.std.specs.Prelude.{◌≡◌, ℕ, List, [], Some, slice_get}
use Rattle.indexmap.specs.IndexSet.{insert_all}
use Rattle.life_types.specs.Types.{Types}
use Rattle.life_core.specs.Function.{Function}
use Rattle.life_pset.specs.contracts.element.AbsPlacePartialEq.TheImpl.{ghosts as place}
use Rattle.life_pset.specs.contracts.element.ElementPartialEq.TheImpl.{ghosts as element}
use Rattle.life_pset.specs.declared.element.AbsPlace.{AbsPlace}
use Rattle.life_pset.specs.declared.element.Element.{Element}
use Rattle.life_pset.specs.declared.element.Fact.{Fact}
use Rattle.life_pset.specs.Elements.{locations_of, elements_of}

-- what a table is seen as: what stands at place n has the number n
pub record Table : Type 0 where
  pub locations : List AbsPlace
  pub elements : List Element

-- each location and each element of the function once, in the order in which they first stand
abbrev pub table_of : Types → Function → Table
table_of types f = record {
  locations = insert_all place.eq [] (locations_of types f);
  elements = insert_all element.eq [] (elements_of types f);
}

-- the pair of numbers stands for the fact
abbrev pub Names : Table → ℕ → ℕ → Fact → Type 0
Names t l e fact = (slice_get t.locations l ≡ Some fact.location) × (slice_get t.elements e ≡ Some fact.element)

-- the fact is one of the function's
abbrev pub IsOf : Table → Fact → Type 0
IsOf t fact = (l : ℕ) × ((e : ℕ) × Names t l e fact)
