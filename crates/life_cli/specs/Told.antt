-- How a run's end is told.
use Rattle.std.specs.Prelude.{◌≡◌, ℕ, List, Result, Err}
use Rattle.life_cli.specs.Ends.{Tells}
use Rattle.life_cli.specs.Runs.{fault_end, steps_end, trap_end, value_end}
use Rattle.life_cli.specs.declared.status.Status.{Status}
use Rattle.life_cli.specs.declared.stop.Ending.{Ending}
use Rattle.life_cli.specs.declared.stop.Stop.{Stop}
use Rattle.life_cli.specs.declared.stop.Stop.TheVariants as stop
use Rattle.life_interp.specs.declared.outcome.Outcome.{Outcome}
use Rattle.life_interp.specs.declared.outcome.Outcome.TheVariants as outcome

abbrev TellsEnd : Status × List ℕ → Result Ending Stop → Type 0
TellsEnd end result = Tells end.0 end.1 result

-- what the machine's outcome comes to: the line that tells it, or why there is none
abbrev pub TellsRun : ℕ → Outcome → Result Ending Stop → Type 0
TellsRun steps (outcome.Value value) result = TellsEnd (value_end value) result
TellsRun steps (outcome.Trap kind place) result = TellsEnd (trap_end kind place) result
TellsRun steps (outcome.Fault kind place) result = TellsEnd (fault_end kind place) result
TellsRun steps outcome.OutOfSteps result = TellsEnd (steps_end steps) result
TellsRun steps outcome.WriteFault result = result ≡ Err stop.WriteFault
TellsRun steps outcome.NoMemory result = result ≡ Err stop.NoMemory
