-- How the code tells why a text has no program that is checked.
use Rattle.std.specs.Prelude.{◌≡◌, ℕ, List, Option, None, Some, Result, Err}
use Rattle.life_check.specs.declared.fault.CheckFault.{CheckFault}
use Rattle.life_cli.specs.CheckedFile.{fault_line}
use Rattle.life_cli.specs.Ends.{Tells}
use Rattle.life_cli.specs.declared.status.Status.{Status}
use Rattle.life_cli.specs.declared.stop.Ending.{Ending}
use Rattle.life_cli.specs.declared.stop.Stop.{Stop}
use Rattle.life_cli.specs.declared.stop.Stop.TheVariants as stop

-- by this line, or not at all for want of memory
abbrev pub TellsLine : Option (Status × List ℕ) → Result Ending Stop → Type 0
TellsLine None result = result ≡ Err stop.NoMemory
TellsLine (Some told) result = Tells told.0 told.1 result

abbrev pub TellsFault : CheckFault → Result Ending Stop → Type 0
TellsFault fault result = TellsLine (fault_line fault) result
