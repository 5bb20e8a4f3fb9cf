-- Which place a location names, and which places lie in a local.
use Rattle.std.specs.Prelude.{ℕ, Bool, false, nat_eq}
use Rattle.life_core.specs.Operands.{Location}
use Rattle.life_pset.specs.Elements.{local_place}
use Rattle.life_pset.specs.Places.{members_place}
use Rattle.life_pset.specs.contracts.element.AbsPlacePartialEq.TheImpl.{ghosts as compared}
use Rattle.life_pset.specs.declared.element.AbsPlace.{AbsPlace}
use Rattle.life_pset.specs.declared.element.Root.{Root}
use Rattle.life_pset.specs.declared.element.Root.TheVariants as root

-- the place that a location names
abbrev pub located : Location → AbsPlace
located l = members_place (local_place l.local) l.members

abbrev pub is_location : Location → AbsPlace → Bool
is_location p l = compared.eq l (located p)

-- the place is the local or lies in it
abbrev pub is_root : ℕ → Root → Bool
is_root x (root.Local y) = nat_eq x y
is_root x (root.Input parameter member) = false

abbrev pub is_rooted : ℕ → AbsPlace → Bool
is_rooted x place = is_root x place.root
