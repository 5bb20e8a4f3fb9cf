-- What a translation answers, against what the definitions give.
use Rattle.std.specs.Prelude.{◌≡◌, None, Some, Result, Ok, Err}
use Rattle.life_typed.specs.Programs.{ProgramForm}
use Rattle.life_core.specs.Function.{program_of}
use Rattle.life_core.specs.declared.program.CoreProgram.{CoreProgram}
use Rattle.life_elab.specs.Over.{over}
use Rattle.life_elab.specs.ProgramForms.{translated}
use Rattle.life_elab.specs.declared.fault.ElabFault.{ElabFault}
use Rattle.life_elab.specs.declared.fault.ElabFault.TheVariants as fault

-- the core program of a typed one, or the first limit that it passes, unless memory ran out
abbrev pub Elaborates : ProgramForm → Result CoreProgram ElabFault → Type 0
Elaborates p (Ok core) = (program_of core ≡ translated p) × (over p (translated p) ≡ None)
Elaborates p (Err (fault.Limit l)) = over p (translated p) ≡ Some l
Elaborates p (Err fault.NoMemory) = Unit {0}
