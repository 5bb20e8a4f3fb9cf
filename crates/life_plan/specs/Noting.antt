-- What becomes of elements, as far as it was noted.
use Rattle.std.specs.Prelude.{◌≡◌, ◌≢◌, ◌↔◌, ◌<◌, ◌≤◌, ℕ, false, List, Some, Contains, length, nat_eq, slice_get}
use Rattle.life_pset.specs.Table.{Table}
use Rattle.life_pset.specs.declared.element.Element.{Element}
use Rattle.life_sets.specs.NumberSets.{holds, Numbers}
use Rattle.life_rules.specs.Staying.{staying}
use Rattle.life_plan.specs.Crossing.{Crossing}
use Rattle.life_plan.specs.Numbered.{AreSized, Becomes}
use Rattle.life_plan.specs.declared.staying.Becoming.{Becoming}

-- the number is that of another element of the list
abbrev pub NamesOther : Table → Element → List Element → ℕ → Type 0
NamesOther t x stays m = (y : Element) × (Contains stays y × ((y ≢ x) × (slice_get t.elements m ≡ Some y)))

-- the element with this number becomes the other one
abbrev pub Changes : Crossing → (e m : ℕ) → Type 0
Changes c e m = (x : Element) × ((slice_get c.table.elements e ≡ Some x) × NamesOther c.table x (staying c.types c.f c.spot x) m)

-- of the elements with lower numbers, those that don't stay are gone, and what they become is noted
pub record AreNoted (c : Crossing) (below : ℕ) (gone : Numbers) (becoming : List Becoming) : Type 0 where
  pub sized : AreSized (length c.table.elements) becoming
  pub stays : (e : ℕ) (x : Element) → e < below → slice_get c.table.elements e ≡ Some x → (holds gone e ≡ false) ↔ Contains (staying c.types c.f c.spot x) x
  pub later : (e : ℕ) → below ≤ e → holds gone e ≡ false
  pub becomes : (e m : ℕ) → Becomes becoming e m ↔ ((e < below) × Changes c e m)

-- one element becomes the other, and no other does
pub record IsOnly (elements e m : ℕ) (b : Becoming) : Type 0 where
  pub element : b.element ≡ m
  pub limit : b.from.limit ≡ elements
  pub from : (d : ℕ) → holds b.from d ≡ nat_eq d e
