-- What each table keeps.
use Rattle.std.specs.Prelude.{◌≡◌, ℕ, ◌<◌, ◌^◌, length, List, Some, slice_get}
use Rattle.life_pset.specs.declared.element.AbsPlace.{AbsPlace}
use Rattle.life_pset.specs.declared.element.Element.{Element}

-- each item of a list has one number
abbrev pub HasOneNumber : {A : Type 0} → List A → Type 0
HasOneNumber {A} items = (m n : ℕ) (x : A) → slice_get items m ≡ Some x → slice_get items n ≡ Some x → m ≡ n

-- each location and each element has one number, and 32 bits hold the numbers
pub record IsNumbered (locations : List AbsPlace) (elements : List Element) : Type 0 where
  pub one_location : HasOneNumber locations
  pub one_element : HasOneNumber elements
  pub few_locations : length locations < 2 ^ 32
  pub few_elements : length elements < 2 ^ 32
