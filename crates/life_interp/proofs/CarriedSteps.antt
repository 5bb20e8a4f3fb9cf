-- A step by which a value goes to another place is one of the machine.
use Rattle.std.proofs.Common.{List, Result, Ok, Err, OnOk}
use Rattle.life_store.specs.Content.{Content}
use Rattle.life_store.specs.Doing.{Effect}
use Rattle.life_store.specs.State.{State}
use Rattle.life_pointers.specs.declared.stop.Stop.TheVariants as stop
use Rattle.life_cells.specs.declared.cell.Cell.{Cell}
use Rattle.life_changes.specs.Bounded as changes
use Rattle.life_changes.specs.Steps.{Goes}
use Rattle.life_changes.specs.declared.failure.Failure.{Failure}
use Rattle.life_changes.specs.declared.failure.Failure.TheVariants as failure
use Rattle.life_interp.specs.Carried.{carried_as}
use Rattle.life_interp.specs.Fits.{most_births, Grows}
use Rattle.life_interp.specs.Steps.{LeavesBoth}

pub goes_leaves : {A : Type 0} (effect : State → Effect) (c d : Content) (cells new : List Cell) (r : Result A Failure) → Goes effect c cells d new r → LeavesBoth effect c cells d new (carried_as r)
goes_leaves effect c d cells new (Ok a) h = h
goes_leaves effect c d cells new (Err (failure.Stopped (stop.Trap kind))) h = h
goes_leaves effect c d cells new (Err (failure.Stopped (stop.Fault kind))) h = h
goes_leaves effect c d cells new (Err (failure.Stopped stop.Lost)) h = h
goes_leaves effect c d cells new (Err failure.NoMemory) h = λ output input. tt

pub ok_carried : {A : Type 0} (r : Result A Failure) (P : Type 0) → OnOk r P → OnOk (carried_as r) P
ok_carried (Ok a) P h = h
ok_carried (Err (failure.Stopped e)) P h = tt
ok_carried (Err failure.NoMemory) P h = tt

pub grows_carried : {A : Type 0} (r : Result A Failure) (c d : Content) → OnOk r (changes.Grows c d) → OnOk (carried_as r) (Grows most_births c d)
grows_carried (Ok a) c d h = record { births = h.births; clock = h.clock }
grows_carried (Err (failure.Stopped e)) c d h = tt
grows_carried (Err failure.NoMemory) c d h = tt
