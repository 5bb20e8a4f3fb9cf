-- What is asked where an owner is changed. Each proper program has it at each point that is reached.
use Rattle.std.specs.Prelude.{◌≡◌, ◌<◌, ◌^◌, ℕ, List, Some, length}
use Rattle.life_types.specs.Trees.{IsOrdered}
use Rattle.life_types.specs.Types.{Types}
use Rattle.life_types.specs.declared.ty.TyId.{TyId}
use Rattle.life_core.specs.Function.{Function}
use Rattle.life_core.specs.Operands.{Characters, Location}
use Rattle.life_core.specs.Operands as characters
use Rattle.life_core.specs.Step.{Change, Erase, Set, Append}
use Rattle.life_store.specs.Content.{Content}
use Rattle.life_store.specs.Parts.{Vector, parts_at}
use Rattle.life_store.specs.References.{Rows}
use Rattle.life_store.specs.State.{State}
use Rattle.life_forest.specs.FrameTypes.{Stands, seen_type}
use Rattle.life_forest.proofs.Retargets.{Retargets}
use Rattle.life_forest.proofs.StandingSteps.{TakesPointer}
use Rattle.life_values.specs.Fresh.{AreWide}
use Rattle.life_cells.specs.Cells.{state_in}
use Rattle.life_cells.specs.Fits.{meant, IsFit}
use Rattle.life_cells.specs.Typed.{HoldsPointer, SeesCharacters}
use Rattle.life_cells.specs.declared.cell.Cell.{Cell}
use Rattle.life_changes.specs.Bounded.{IsBounded, IsEarly}

-- of the program: each value has a word, and no value owns so many steps deep; of the run: its limit is a number of 32 bits
pub record AreServed (types : Types) (limit depth : ℕ) : Type 0 where
  pub ordered : IsOrdered types
  pub wide : AreWide types
  pub deep : length types.types < depth
  pub few : limit < 2 ^ 32

-- of the frame: it stands in a store, beside others
pub record IsReady (types : Types) (f : Function) (limit : ℕ) (c : Content) (rows : Rows) (cells : List Cell) : Type 0 where
  pub fits : IsFit types c rows cells
  pub bounded : IsBounded limit (meant types c rows)
  pub early : IsEarly c
  pub rest : ℕ → ℕ
  pub stands : Stands types f rest (state_in (meant types c rows) cells)

-- of the locations that the change names: they hold pointers, and views see characters
abbrev pub AreGiven : Types → Function → Characters → State → Type 0
AreGiven types f (characters.View l) st = HoldsPointer types f l st × SeesCharacters types f l st
AreGiven types f (characters.Single r) st = Unit {0}

-- a location takes an iterator to elements of the type
abbrev pub TakesIterator : Types → Function → TyId → Location → State → Type 0
TakesIterator types f id into st = HoldsPointer types f into st × (part : TyId) × TakesPointer types f st into part × Retargets types (Some id) (seen_type types (Some part))

-- .. of a vector of a type. A string has no such elements
abbrev pub TakesIteratorOf : Types → Function → TyId → Location → State → Type 0
TakesIteratorOf types f ty into st = (id : TyId) → parts_at types ty ≡ Vector id (parts_at types id) → TakesIterator types f id into st

abbrev pub HasLocations : Types → Function → Change → State → Type 0
HasLocations types f (Erase from into) st = HoldsPointer types f from st × HoldsPointer types f into st
HasLocations types f (Set given) st = AreGiven types f given st
HasLocations types f (Append given) st = AreGiven types f given st
HasLocations types f _ st = Unit {0}
