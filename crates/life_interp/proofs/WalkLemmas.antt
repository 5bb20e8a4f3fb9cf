-- From instructions to points, and from points to whole walks.
use Rattle.std.proofs.Common.{◌≡◌, ℕ, List, [], ◌++◌, Option, Result, Ok, Err, OnOk, refl, sym, ap, ◌∙◌, append-nil}
use Rattle.std.proofs.KnownBytes.{Appends-nil}
use Rattle.std.specs.Prelude.{ℤ}
use Rattle.life_types.specs.Types.{Types}
use Rattle.life_core.specs.declared.instr.Instr.{Instr}
use Rattle.life_core.specs.declared.instr.Instr.TheVariants as instrs
use Rattle.life_core.specs.declared.instr.Port.{Port}
use Rattle.life_core.specs.Step.{step_of}
use Rattle.life_store.specs.Content.{Content}
use Rattle.life_store.specs.Doing.{Effect, Next}
use Rattle.life_store.specs.References.{Rows}
use Rattle.life_store.specs.State.{State}
use Rattle.life_cells.specs.Cells.{state_of}
use Rattle.life_cells.specs.Fits.{CellsFit, IsFit}
use Rattle.life_interp.specs.Steps.{LeavesBoth}
use Rattle.life_interp.specs.Walking.{IsQuiet, LeavesInput, Sunk, Takes, Performs, Writes}
use Rattle.life_interp.specs.declared.ending.Ending.{Ending}
use Rattle.life_interp.specs.declared.ending.Ending.TheVariants as ending
use Rattle.life_cells.specs.declared.cell.Cell.{Cell}
use Rattle.life_cells.proofs.FitLemmas.{other_cells}

pub fit_where_ok : {A E : Type 0} (types : Types) (c : Content) (rows : Rows) (old cells : List Cell) (result : Result A E) → IsFit types c rows old → OnOk result (CellsFit c rows cells) → OnOk result (IsFit types c rows cells)
fit_where_ok types c rows old cells (Ok a) h held = other_cells types c rows old cells h held
fit_where_ok types c rows old cells (Err e) h held = tt

-- a sink that was left alone
pub untouched : (known : Option (List ℕ)) (n : ℕ) → Takes (record { old = known; new = known; faults = n; later = n }) []
untouched known n = record { taken = Appends-nil known; quiet = refl }

-- a step that writes nothing out and takes nothing
pub performs_quiet : {A : Type 0} (effect : State → Effect) (c d : Content) (cells new : List Cell) (ins : List ℤ) (k : Sunk) (result : Result A Ending) → Takes k [] → LeavesBoth effect c cells d new result
    → Performs effect c cells ins d new ins k result
performs_quiet effect c d cells new ins k (Ok a) takes h = ([], takes, λ output. h output ins ∙ ap (λ o. Next (state_of d new o ins)) (sym (append-nil output)))
performs_quiet effect c d cells new ins k (Err (ending.Trap kind)) takes h = (takes, λ output. h output ins)
performs_quiet effect c d cells new ins k (Err (ending.Fault kind)) takes h = (takes, λ output. h output ins)
performs_quiet effect c d cells new ins k (Err ending.Stray) takes h = (takes, λ output. h output ins)
performs_quiet effect c d cells new ins k (Err ending.NoMemory) takes h = takes
performs_quiet effect c d cells new ins k (Err ending.WriteFault) takes h = absurd (h [] [])

-- one that takes a number
pub performs_taking : {A : Type 0} (effect : State → Effect) (c : Content) (cells new : List Cell) (ins rest : List ℤ) (k : Sunk) (result : Result A Ending) → Takes k [] → LeavesInput effect c cells ins new rest result
    → Performs effect c cells ins c new rest k result
performs_taking effect c cells new ins rest k (Ok a) takes h = ([], takes, λ output. h output ∙ ap (λ o. Next (state_of c new o rest)) (sym (append-nil output)))
performs_taking effect c cells new ins rest k (Err (ending.Trap kind)) takes h = (takes, h)
performs_taking effect c cells new ins rest k (Err (ending.Fault kind)) takes h = (takes, h)
performs_taking effect c cells new ins rest k (Err ending.Stray) takes h = (takes, h)
performs_taking effect c cells new ins rest k (Err ending.NoMemory) takes h = takes
performs_taking effect c cells new ins rest k (Err ending.WriteFault) takes h = absurd (h [])

-- one that writes a text
pub performs_writing : {A : Type 0} (effect : State → Effect) (c : Content) (cells : List Cell) (ins : List ℤ) (text : List ℕ) (k : Sunk) (result : Result A Ending)
    → ((output : List ℕ) → effect (state_of c cells output ins) ≡ Next (state_of c cells (output ++ text) ins)) → Writes text k result → Performs effect c cells ins c cells ins k result
performs_writing effect c cells ins text k (Ok a) h w = (text, w, h)
performs_writing effect c cells ins text k (Err (ending.Trap kind)) h w = absurd w
performs_writing effect c cells ins text k (Err (ending.Fault kind)) h w = absurd w
performs_writing effect c cells ins text k (Err ending.Stray) h w = absurd w
performs_writing effect c cells ins text k (Err ending.NoMemory) h w = w
performs_writing effect c cells ins text k (Err ending.WriteFault) h w = (text, w, h)

-- what isn't the one kind by which something goes in or out
pub quiet_else : (i : Instr) → ((port : Port) → i ≡ instrs.Port port → ⊥) → IsQuiet (step_of i)
quiet_else (instrs.Live x form) h = tt
quiet_else (instrs.End xs) h = tt
quiet_else (instrs.Eval r operation) h = tt
quiet_else (instrs.Load r o) h = tt
quiet_else (instrs.Save o r) h = tt
quiet_else (instrs.Copy to from) h = tt
quiet_else (instrs.Move to y) h = tt
quiet_else (instrs.Aim p s) h = tt
quiet_else (instrs.Repoint p q) h = tt
quiet_else (instrs.Element p b which) h = tt
quiet_else (instrs.Cursor p b end) h = tt
quiet_else (instrs.Advance p q r direction) h = tt
quiet_else (instrs.Cut p q r count) h = tt
quiet_else (instrs.Size r b) h = tt
quiet_else (instrs.Same r a b equal) h = tt
quiet_else (instrs.Change o c) h = tt
quiet_else (instrs.Make u made) h = tt
quiet_else (instrs.Call target f xs) h = tt
quiet_else (instrs.Port port) h = h port refl
