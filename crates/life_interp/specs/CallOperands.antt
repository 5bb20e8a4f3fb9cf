-- The operands of calls: what arguments name, what a frame has that waits, and what comes back for slots.
use Rattle.std.specs.Prelude.{◌≡◌, ℕ, ◌+◌, true, List, [], ◌∷◌, Option, Some, slice_get}
use Rattle.life_types.specs.Types.{Types}
use Rattle.life_types.specs.declared.ty.TyId.{TyId}
use Rattle.life_core.specs.declared.program.Local.{Local}
use Rattle.life_core.specs.Function.{Function}
use Rattle.life_core.specs.Operands.{Argument, GivenOver, PointerOf, Slot, Value}
use Rattle.life_store.specs.Calls.{slot_cell}
use Rattle.life_store.specs.Cells.{at}
use Rattle.life_store.specs.Effects.{Effect, Got, Next, Setting, on_got, put_cell, put_content}
use Rattle.life_store.specs.Held.{owner_word}
use Rattle.life_store.specs.Owners.{object_with}
use Rattle.life_store.specs.Parts.{Single}
use Rattle.life_store.specs.References.{Rows}
use Rattle.life_store.specs.State as state
use Rattle.life_store.specs.State.{State}
use Rattle.life_store.specs.declared.object.ObjRef.{ObjRef}
use Rattle.life_cells.specs.Cells.{cell_seen}
use Rattle.life_cells.specs.Typed.{HoldsPointer}
use Rattle.life_cells.specs.declared.cell.Cell.{Cell}
use Rattle.life_cells.specs.declared.cell.Cell.TheVariants as held
use Rattle.life_slots.specs.Slots.{IsSlotPlace, IsUnique, slot_type}
use Rattle.life_interp.specs.Cells.{is_vacant}

-- ---- what is handed over

abbrev pub IsArgumentPlace : Types → Function → State → Argument → Type 0
IsArgumentPlace types f st (Value r) = Unit {0}
IsArgumentPlace types f st (GivenOver x) = Unit {0}
IsArgumentPlace types f st (PointerOf l) = HoldsPointer types f l st
IsArgumentPlace types f st (Slot l) = IsSlotPlace types f l st

abbrev pub AreArgumentPlaces : Types → Function → State → List Argument → Type 0
AreArgumentPlaces types f st [] = Unit {0}
AreArgumentPlaces types f st (x ∷ xs) = IsArgumentPlace types f st x × AreArgumentPlaces types f st xs

-- .. by a slot
abbrev pub IsLentPlace : Types → Function → State → Argument → Type 0
IsLentPlace types f st (Slot l) = IsSlotPlace types f l st
IsLentPlace types f st _ = Unit {0}

abbrev pub AreLentPlaces : Types → Function → State → List Argument → Type 0
AreLentPlaces types f st [] = Unit {0}
AreLentPlaces types f st (x ∷ xs) = IsLentPlace types f st x × AreLentPlaces types f st xs

-- ---- what slots are given

-- nothing, or an object, goes to the slot of a unique_ptr, and the object lives
pub record SuitsSlot (types : Types) (rows : Rows) (ty : TyId) (v : Cell) : Type 0 where
  pub nothing : is_vacant (cell_seen v) ≡ true → (target : TyId) → slot_type types ty ≡ Some target → IsUnique types target
  pub object : (r : ObjRef) → v ≡ held.Object r → (target : TyId) → slot_type types ty ≡ Some target → IsUnique types target × (at rows r.birth ≡ Some r.row)

-- .. of each local from one on
abbrev pub SuitSlots : Types → Rows → Function → ℕ → List Cell → Type 0
SuitSlots types rows f x [] = Unit {0}
SuitSlots types rows f x (v ∷ vs) = ((l : Local) → slice_get f.locals x ≡ Some l → SuitsSlot types rows l.ty v) × SuitSlots types rows f (x + 1) vs

-- what has a row keeps it
abbrev pub RowsStay : Rows → Rows → Type 0
RowsStay rows new = (n k : ℕ) → at rows n ≡ Some k → at new n ≡ Some k

-- a new object of a unique_ptr's type for the local owns this
abbrev pub born_owning : Setting → TyId → Option ℕ → ℕ → State → Effect
born_owning s target owned x st =
    on_got (object_with s target Single (λ c. Got (owner_word owned ∷ [], c)) st.world.content) (λ b. Next (put_cell x (state.Named b.0) (put_content b.1 st)))

-- ---- what comes back

-- what stands in the slots of a frame that was left: each argument is beside the cell of its parameter
abbrev pub slot_values : List state.Cell → ℕ → List Argument → List state.Cell
slot_values left i [] = []
slot_values left i (Slot l ∷ xs) = slot_cell (slice_get left i) ∷ slot_values left (i + 1) xs
slot_values left i (Value r ∷ xs) = slot_values left (i + 1) xs
slot_values left i (GivenOver x ∷ xs) = slot_values left (i + 1) xs
slot_values left i (PointerOf l ∷ xs) = slot_values left (i + 1) xs
