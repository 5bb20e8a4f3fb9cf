-- Why a value didn't come to its place.
use Rattle.std.specs.Prelude.{Result, Ok, Err}
use Rattle.life_changes.specs.declared.failure.Failure.{Failure}
use Rattle.life_changes.specs.declared.failure.Failure.TheVariants as failure
use Rattle.life_interp.specs.Steps.{ended_as}
use Rattle.life_interp.specs.declared.ending.Ending.{Ending}
use Rattle.life_interp.specs.declared.ending.Ending.TheVariants as ending

abbrev pub carried_as : {A : Type 0} → Result A Failure → Result A Ending
carried_as (Ok a) = Ok a
carried_as (Err (failure.Stopped e)) = Err (ended_as e)
carried_as (Err failure.NoMemory) = Err ending.NoMemory
