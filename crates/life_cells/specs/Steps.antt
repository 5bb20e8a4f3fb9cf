-- What the machine's steps come to, in the words of the meaning.
use Rattle.std.specs.Prelude.{◌≡◌, ℕ, ℤ, pos, List, Result, Ok, Err}
use Rattle.life_types.specs.Types.{Types}
use Rattle.life_core.specs.Function.{Function}
use Rattle.life_core.specs.Operands.{Location}
use Rattle.life_store.specs.Content.{Content}
use Rattle.life_store.specs.Effects.{Effect, Next, on_got, on_pointer, put_cell}
use Rattle.life_store.specs.Places.{location_cell, pointed}
use Rattle.life_store.specs.State.{Number, State}
use Rattle.life_pointers.specs.Attempts.{itself, tried}
use Rattle.life_pointers.specs.Places.{ended_by}
use Rattle.life_pointers.specs.Pointers.{pointer_seen}
use Rattle.life_pointers.specs.declared.pointer.Pointer.{Pointer}
use Rattle.life_pointers.specs.declared.stop.Stop.{Stop}
use Rattle.life_cells.specs.Cells.{state_of}
use Rattle.life_cells.specs.declared.cell.Cell.{Cell}

-- the next state, or what stopped the step
abbrev pub came : {A : Type 0} → Result A Stop → State → Effect
came (Ok a) st = Next st
came (Err e) st = ended_by e

-- a step goes from one frame and store to the next, or stops, whatever was written and is to be read
abbrev pub Comes : {A : Type 0} → (State → Effect) → Content → List Cell → Content → List Cell → Result A Stop → Type 0
Comes effect c cells d new result = (output : List ℕ) (input : List ℤ) → effect (state_of c cells output input) ≡ came result (state_of d new output input)

-- a step by which a location is given the pointer that was made, or that stops as its making did
abbrev pub Makes : Types → Function → (Location → State → Effect) → Content → List Cell → Result Pointer Stop → Type 0
Makes types f effect c cells made =
    (p : Location) (output : List ℕ) (input : List ℤ)
    → effect p (state_of c cells output input) ≡ on_got (tried pointer_seen made) (λ v. pointed types f p v (state_of c cells output input))

-- .. and one by which a register is given the count
abbrev pub Counts : (ℕ → State → Effect) → Content → List Cell → Result ℕ Stop → Type 0
Counts effect c cells counted =
    (r : ℕ) (output : List ℕ) (input : List ℤ)
    → effect r (state_of c cells output input) ≡ on_got (tried itself counted) (λ n. Next (put_cell r (Number (pos n)) (state_of c cells output input)))

-- a location is given the pointer that another one holds
abbrev pub repointed : Types → Function → (to from : Location) → State → Effect
repointed types f p q st = on_pointer (location_cell types f q st) (λ v. pointed types f p v st)
