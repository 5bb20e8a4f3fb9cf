-- The characters that a string is given.
use Rattle.std.specs.Prelude.{◌≡◌, ℕ, ℤ, List, Result, Ok, Err}
use Rattle.std.specs.declared.alloc.Global.{Global}
use Rattle.std.specs.declared.vec.Vec.{Vec}
use Rattle.life_types.specs.Types.{Types}
use Rattle.life_core.specs.Function.{Function}
use Rattle.life_core.specs.Operands.{Characters}
use Rattle.life_store.specs.Content.{Content}
use Rattle.life_store.specs.Doing.{on_given}
use Rattle.life_store.specs.Effects.{Setting, Effect}
use Rattle.life_pointers.specs.Places.{ended_by}
use Rattle.life_cells.specs.Cells.{state_of}
use Rattle.life_cells.specs.declared.cell.Cell.{Cell}
use Rattle.life_changes.specs.declared.failure.Failure.{Failure}
use Rattle.life_changes.specs.declared.failure.Failure.TheVariants as failure

-- whatever is done with them: these are they, or the step stops as is told
abbrev pub GivesWords : Setting → Types → Function → Characters → Content → List Cell → Result (Vec ℕ Global) Failure → Type 0
GivesWords s types f given c cells (Ok words) = (output : List ℕ) (input : List ℤ) (go : List ℕ → Effect) → on_given s types f given (state_of c cells output input) go ≡ go words.items
GivesWords s types f given c cells (Err (failure.Stopped e)) = (output : List ℕ) (input : List ℤ) (go : List ℕ → Effect) → on_given s types f given (state_of c cells output input) go ≡ ended_by e
GivesWords s types f given c cells (Err failure.NoMemory) = Unit {0}
