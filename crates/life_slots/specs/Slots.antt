-- What is known of slots: the objects of those that are unique_ptrs, their types, and the operands that are handed over.
use Rattle.std.specs.Prelude.{◌≡◌, ◌≢◌, ℕ, true, false, cond, List, [], ◌∷◌, Option, Some, None, slice_get}
use Rattle.life_types.specs.Types.{Types, is_slot_at}
use Rattle.life_types.specs.declared.ty.Ty.{Ty}
use Rattle.life_types.specs.declared.ty.Ty.TheVariants as variant
use Rattle.life_types.specs.declared.ty.TyId.{TyId}
use Rattle.life_core.specs.Function.{Function}
use Rattle.life_core.specs.Operands.{Location}
use Rattle.life_store.specs.Cells.{at}
use Rattle.life_store.specs.Content.{Slot, Object, Content}
use Rattle.life_store.specs.Kinds.{Owner}
use Rattle.life_store.specs.Parts.{Parts, Unique, location_parts, parts_at}
use Rattle.life_store.specs.References.{Rows}
use Rattle.life_store.specs.State as state
use Rattle.life_store.specs.State.{State}
use Rattle.life_store.specs.declared.object.ObjRef.{ObjRef}
use Rattle.life_seen.specs.Housed.{IsHoused, Later}
use Rattle.life_seen.specs.Kinds.{kinds_of}
use Rattle.life_seen.specs.Owned.{IsUnowned}
use Rattle.life_cells.specs.Asked.{is_unique}
use Rattle.life_cells.specs.Cells.{cell_seen, cells_seen, pointer_in, state_in}
use Rattle.life_cells.specs.Fits.{meant}
use Rattle.life_cells.specs.Typed.{HoldsOwner, HoldsPointer}
use Rattle.life_cells.specs.declared.cell.Cell.{Cell}
use Rattle.life_cells.specs.declared.cell.Cell.TheVariants as held

-- the type is that of a unique_ptr
pub record IsUnique (types : Types) (ty : TyId) : Type 0 where
  pub target : TyId
  pub parts : Parts
  pub is : parts_at types ty ≡ Unique target parts

-- an object of one slot with one word, which owns; nothing owns the object itself
pub record IsSlot (types : Types) (r : ObjRef) (c : Content) (rows : Rows) : Type 0 where
  pub housed : IsHoused (kinds_of types) c rows
  pub placed : at rows r.birth ≡ Some r.row
  pub object : Object
  pub there : at (meant types c rows).objects r.birth ≡ Some object
  pub width : object.width ≡ 1
  pub slot : Slot
  pub one : object.slots ≡ slot ∷ []
  pub word : ℕ
  pub words : slot.words ≡ word ∷ []
  pub owner : kinds_of types object.ty 0 ≡ Owner
  pub unowned : IsUnowned (kinds_of types) r.birth (meant types c rows)

-- ---- types

abbrev pub referred : Option Ty → Option TyId
referred (Some (variant.Reference target constant)) = Some target
referred _ = None

-- the type of what a parameter of the type is a slot of
abbrev pub slot_type : Types → TyId → Option TyId
slot_type types id = cond (is_slot_at types id) (referred (slice_get types.types id.0)) None

-- ---- operands

-- what is handed over as a slot: a unique_ptr, or a location of a pointer
pub record IsSlotPlace (types : Types) (f : Function) (l : Location) (st : State) : Type 0 where
  pub owner : is_unique (location_parts types f l) ≡ true → HoldsOwner types f l st
  pub pointer : is_unique (location_parts types f l) ≡ false → HoldsPointer types f l st

-- a value that comes back for a slot: a pointer to a location of one, or a slot's object to a unique_ptr that isn't a member of it
pub record CanGiveBack (types : Types) (f : Function) (l : Location) (v : Cell) (c : Content) (rows : Rows) (cells : List Cell) : Type 0 where
  pub pointer : (p : state.Pointer) → Some p ≡ pointer_in (Some (cell_seen v)) → HoldsPointer types f l (state_in (meant types c rows) cells)
  pub owner : (r : ObjRef) → v ≡ held.Object r → HoldsOwner types f l (state_in (meant types c rows) cells)
  pub slot : (r : ObjRef) → v ≡ held.Object r → IsSlot types r c rows
  pub apart : (r : ObjRef) → v ≡ held.Object r → (n : ℕ) → slice_get (cells_seen cells) l.local ≡ Some (state.Named n) → n ≢ r.birth

-- nothing was born or counted, and what was referred to still is
pub record IsBehind (c d : Content) (rows new : Rows) : Type 0 where
  pub births : d.births ≡ c.births
  pub clock : d.clock ≡ c.clock
  pub later : Later c d rows new
