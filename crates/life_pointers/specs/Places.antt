-- What is behind a pointer.
use Rattle.std.specs.Prelude.{◌≡◌, ◌<◌, ◌≤◌, ℕ, Some, length}
use Rattle.life_store.specs.Cells.{at}
use Rattle.life_store.specs.Content.{Content, Object}
use Rattle.life_store.specs.Effects.{Effect, Traps, Faults, Strays}
use Rattle.life_store.specs.Places as found
use Rattle.life_store.specs.Places.{Found, on_place, reached_in}
use Rattle.life_store.specs.References.{Rows, object_of}
use Rattle.life_store.specs.State.{Characters}
use Rattle.life_seen.specs.Housed.{IsRef}
use Rattle.life_seen.specs.Kinds.{Kinds}
use Rattle.life_seen.specs.Named.{names_of}
use Rattle.life_seen.specs.Seen.{object_seen}
use Rattle.life_pointers.specs.Pointers.{characters_seen}
use Rattle.life_pointers.specs.declared.owned.Spot.{Spot}
use Rattle.life_pointers.specs.declared.places.Place.{Place}
use Rattle.life_pointers.specs.declared.places.Place.TheVariants as place
use Rattle.life_pointers.specs.declared.stop.Stop.{Stop}
use Rattle.life_pointers.specs.declared.stop.Stop.TheVariants as stop

-- a slot of an object that lives
pub record IsHere (kinds : Kinds) (c : Content) (rows : Rows) (what : Found) (s : Spot) : Type 0 where
  pub object : Object
  pub here : what ≡ found.Here s.object.birth s.index (object_seen kinds (names_of c rows) object)
  pub lives : object_of c rows s.object ≡ Some object
  pub slot : s.index < length object.slots
  pub wide : 1 ≤ object.width
  pub fits : IsRef c rows s.object

abbrev pub IsPlace : Kinds → Content → Rows → Found → Place → Type 0
IsPlace kinds c rows what (place.Here s) = IsHere kinds c rows what s
IsPlace kinds c rows what (place.Fixed characters) = what ≡ found.Fixed (characters_seen characters)

-- what comes of a step that has no place
abbrev pub ended_by : Stop → Effect
ended_by (stop.Trap kind) = Traps kind
ended_by (stop.Fault kind) = Faults kind
ended_by stop.Lost = Strays

abbrev pub TellsMiss : Found → Stop → Type 0
TellsMiss what e = (go : ℕ → ℕ → Object → Effect) (fixed : Characters → Effect) → on_place what go fixed ≡ ended_by e

-- the position, if it isn't the end
abbrev pub reached_at : Content → (object index : ℕ) → Found
reached_at c n i = reached_in (at c.objects n) n i

-- what is there begins at the word of its slot
abbrev pub BeginsAt : ℕ → Place → Type 0
BeginsAt w (place.Here s) = s.word ≡ w
BeginsAt w (place.Fixed characters) = Unit {0}
