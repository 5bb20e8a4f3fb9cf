-- When a command accepts its file.
use Rattle.std.specs.Prelude.{◌≡◌, false}
use Rattle.life_cli.specs.Words.{Check, Command, Made, Psets, Run}
use Rattle.life_cli.specs.declared.status.Status.{Status}
use Rattle.life_cli.specs.declared.status.Status.TheVariants.{Done, Input, Steps, Trap}

-- a run comes to this only behind the place where a program with diagnostics is stopped
abbrev pub IsPast : Status → Type 0
IsPast Done = Unit {0}
IsPast Trap = Unit {0}
IsPast Steps = Unit {0}
IsPast Input = Unit {0}
IsPast _ = ⊥

-- the command, which came to this status, accepted its file: it was checked and is done, or it was to be run unless something was
-- diagnosed, and the run was come to; a table of sets says nothing of it
abbrev pub Accepts : Command → Status → Type 0
Accepts (Check json) status = status ≡ Done
Accepts (Run run) status = (run.options.unchecked ≡ false) × IsPast status
Accepts Psets status = ⊥
Accepts (Made bytes) status = IsPast status
