-- An owner in a store.
use Rattle.std.specs.Prelude.{◌≡◌, ◌<◌, ◌^◌, ℕ, List, [], ◌∷◌, Option, Some, None}
use Rattle.life_types.specs.Types.{Types}
use Rattle.life_types.specs.declared.ty.TyId.{TyId}
use Rattle.life_core.specs.Function.{Function}
use Rattle.life_store.specs.Cells.{at}
use Rattle.life_store.specs.Content.{Object, Content}
use Rattle.life_store.specs.Edits.{owned_at}
use Rattle.life_store.specs.Parts.{Parts, Text, Vector}
use Rattle.life_store.specs.References.{Rows}
use Rattle.life_store.specs.declared.object.ObjRef.{ObjRef}
use Rattle.life_forest.specs.Typed.{IsStore}
use Rattle.life_forest.proofs.Operands.{IsPlace}
use Rattle.life_seen.specs.Housed.{IsHoused, IsRef}
use Rattle.life_seen.specs.Kinds.{kinds_of}
use Rattle.life_seen.specs.Rowed.{AreRowed}
use Rattle.life_values.specs.declared.layout.Holds.{Holds}
use Rattle.life_values.specs.declared.layout.Holds.TheVariants as holds
use Rattle.life_values.specs.declared.layout.Leaf.{Leaf}
use Rattle.life_values.specs.declared.spot.Spot.{Spot as Wide}
use Rattle.life_pointers.specs.Owned.{spot_seen}
use Rattle.life_pointers.specs.declared.owned.Spot.{Spot}
use Rattle.life_cells.specs.Fits.{meant}
use Rattle.life_cells.specs.declared.cell.Cell.{Cell}
use Rattle.life_changes.specs.Bounded.{CanGoOn, IsBounded}
use Rattle.life_changes.specs.Ready.{AreServed, IsReady}

-- a value of the type begins at the spot
pub record StandsAt (types : Types) (limit depth : ℕ) (hand : ℕ → ℕ) (ty : TyId) (spot : Spot) (c : Content) (rows : Rows) : Type 0 where
  pub served : AreServed types limit depth
  pub housed : IsHoused (kinds_of types) c rows
  pub rowed : AreRowed (kinds_of types) c rows
  pub bounded : IsBounded limit (meant types c rows)
  pub early : CanGoOn c
  pub store : IsStore types hand (meant types c rows)
  pub placed : at rows spot.object.birth ≡ Some spot.object.row
  pub small : spot.word < 2 ^ 32
  pub object : Object
  pub place : IsPlace types (meant types c rows) ty spot.object.birth spot.index spot.word object

-- .. that has the buffer
pub record HasBuffer (types : Types) (limit depth : ℕ) (hand : ℕ → ℕ) (ty : TyId) (spot : Spot) (b : ObjRef) (c : Content) (rows : Rows) : Type 0 where
  pub stands : StandsAt types limit depth hand ty spot c rows
  pub owned : owned_at (meant types c rows) (spot_seen spot) ≡ Some b.birth
  pub referred : IsRef c rows b

-- a vector or a string
abbrev pub IsContainer : Parts → Type 0
IsContainer (Text id) = Unit {0}
IsContainer (Vector id element) = Unit {0}
IsContainer _ = ⊥

-- an owner of the type begins at the spot, and a frame of the function changes what it owns
pub record OwnerAt (types : Types) (f : Function) (limit depth : ℕ) (ty : TyId) (spot : Spot) (c : Content) (rows : Rows) (cells : List Cell) : Type 0 where
  pub served : AreServed types limit depth
  pub ready : IsReady types f limit c rows cells
  pub placed : at rows spot.object.birth ≡ Some spot.object.row
  pub small : spot.word < 2 ^ 32
  pub object : Object
  pub place : IsPlace types (meant types c rows) ty spot.object.birth spot.index spot.word object

-- what the first part of a value is, if that isn't a number or an iterator
abbrev pub first_of : List Leaf → Option Holds
first_of [] = None
first_of (l ∷ ls) = Some l.holds

-- .. by what an owner owns
abbrev pub elements_in : Option Holds → Option TyId
elements_in (Some (holds.Elements id)) = Some id
elements_in _ = None

abbrev pub characters_in : Option Holds → Option TyId
characters_in (Some (holds.Characters id)) = Some id
characters_in _ = None

abbrev pub target_in : Option Holds → Option TyId
target_in (Some (holds.Target id)) = Some id
target_in _ = None

-- the spot by wider numbers
abbrev pub widened : Spot → Wide
widened s = record { object = s.object; slot = s.index; word = s.word }

-- .. and it has the buffer
pub record BufferAt (types : Types) (f : Function) (limit depth : ℕ) (ty : TyId) (spot : Spot) (b : ObjRef) (c : Content) (rows : Rows) (cells : List Cell) : Type 0 where
  pub owner : OwnerAt types f limit depth ty spot c rows cells
  pub owned : owned_at (meant types c rows) (spot_seen spot) ≡ Some b.birth
  pub referred : IsRef c rows b
