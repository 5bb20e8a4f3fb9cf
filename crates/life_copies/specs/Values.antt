-- A value that an operand names, in the store of a run, and what comes of it where it is copied or given.
use Rattle.std.specs.Prelude.{◌≡◌, ◌≤◌, ◌+◌, ◌^◌, ℕ, List, [], ◌∷◌, Some, Result, Ok, Err}
use Rattle.std.proofs.Common.{◌⊎◌}
use Rattle.life_types.specs.Types.{Types}
use Rattle.life_types.specs.declared.ty.TyId.{TyId}
use Rattle.life_core.specs.Function.{Function}
use Rattle.life_core.specs.Operands.{Operand}
use Rattle.life_store.specs.Content.{Content}
use Rattle.life_store.specs.Doing.{copied_to, on_character}
use Rattle.life_store.specs.Effects.{word_of_number, Setting, Effect}
use Rattle.life_store.specs.Held.{words_at}
use Rattle.life_store.specs.Parts.{Parts, local_parts, local_type, parts_at, width}
use Rattle.life_store.specs.Places.{Spot as Place, locate, on_place, operand_word}
use Rattle.life_store.specs.References.{Rows}
use Rattle.life_store.specs.State.{State}
use Rattle.life_store.specs.declared.object.ObjRef.{ObjRef}
use Rattle.life_store.specs.declared.run.FaultKind.TheVariants as fault
use Rattle.life_store.specs.declared.run.TrapKind.TheVariants as trap
use Rattle.life_forest.specs.FrameTypes.{IsVariable}
use Rattle.life_forest.proofs.StandingSteps.{IsOperandOf}
use Rattle.life_seen.specs.Housed.{IsRef}
use Rattle.life_seen.specs.Kinds.{kinds_of}
use Rattle.life_values.specs.declared.copying.CopyFault.{CopyFault}
use Rattle.life_values.specs.declared.copying.CopyFault.TheVariants as copy_fault
use Rattle.life_moves.specs.MovedTo.{IsOwning}
use Rattle.life_pointers.specs.Places.{IsHere}
use Rattle.life_pointers.specs.declared.owned.Spot.{Spot}
use Rattle.life_pointers.specs.declared.stop.Stop.{Stop}
use Rattle.life_pointers.specs.declared.stop.Stop.TheVariants as stop
use Rattle.life_cells.specs.Cells.{state_in}
use Rattle.life_cells.specs.Fits.{meant}
use Rattle.life_cells.specs.declared.cell.Cell.{Cell}
use Rattle.life_changes.specs.Owners.{OwnerAt}
use Rattle.life_changes.specs.declared.failure.Failure.{Failure}
use Rattle.life_changes.specs.declared.failure.Failure.TheVariants as failure

-- the operand names the place
pub record IsNamed (types : Types) (f : Function) (o : Operand) (spot : Spot) (c : Content) (rows : Rows) (cells : List Cell) : Type 0 where
  pub here : IsHere (kinds_of types) c rows (locate types f o (state_in (meant types c rows) cells)) spot
  pub word : spot.word ≡ operand_word types f o (state_in (meant types c rows) cells)

abbrev pub IsFoundAt : Types → Function → Operand → Content → Rows → List Cell → Result Spot Stop → Type 0
IsFoundAt types f o c rows cells (Ok spot) = IsNamed types f o spot c rows cells
IsFoundAt types f o c rows cells (Err e) = Unit {0}

-- a value of the type begins at the spot
pub record ValueAt (types : Types) (f : Function) (limit depth : ℕ) (ty : TyId) (spot : Spot) (c : Content) (rows : Rows) (cells : List Cell) : Type 0 where
  pub owner : OwnerAt types f limit depth ty spot c rows cells
  pub narrow : owner.object.width ≤ 2 ^ 32

-- one place of so many words is the other one, comes before it, or is behind it
abbrev pub AreApart : (from to : Spot) → (count : ℕ) → Type 0
AreApart from to n = from.object.birth ≡ to.object.birth → from.index ≡ to.index → (to.word ≤ from.word) ⊎ (from.word + n ≤ to.word)

-- ---- copies

-- what the operand names is like the type
abbrev pub IsCopiedTo : Types → Function → Operand → TyId → State → Type 0
IsCopiedTo types f o ty st = (whole : TyId) × IsOperandOf types f st o whole × (parts_at types whole ≡ parts_at types ty)

-- .. and is copied to the place
abbrev pub copied_from : Setting → Types → Function → Parts → Place → Operand → State → Effect
copied_from s types f p spot from st =
    on_place (locate types f from st)
    (λ n i object. copied_to s p spot (words_at st.world.content n i (operand_word types f from st) (width p)) st)
    (λ c. on_character s.texts c (λ z. copied_to s p spot (word_of_number z ∷ []) st))

-- why no copy came
abbrev pub failed : CopyFault → Failure
failed copy_fault.Moved = failure.Stopped (stop.Fault fault.Moved)
failed copy_fault.Cells = failure.Stopped (stop.Trap trap.Cells)
failed copy_fault.NoMemory = failure.NoMemory

abbrev pub as_failed : {A : Type 0} → Result A CopyFault → Result A Failure
as_failed (Ok a) = Ok a
as_failed (Err why) = Err (failed why)

-- ---- moves

-- the object is that of a local that owns by its first word, and the place is of its type
pub record IsGiver (types : Types) (f : Function) (limit depth : ℕ) (from : ℕ) (object : ObjRef) (to : Spot) (c : Content) (rows : Rows) (cells : List Cell) : Type 0 where
  pub type : TyId
  pub typed : local_type types f from ≡ Some type
  pub target : ValueAt types f limit depth type to c rows cells
  pub referred : IsRef c rows object
  pub variable : IsVariable (meant types c rows) (local_type types f from) object.birth
  pub owns : IsOwning (local_parts types f from)
