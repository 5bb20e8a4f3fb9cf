-- What the check of a text found.
use Rattle.std.specs.Prelude.{◌≢◌, List, [], map, Result, Ok, Err}
use Rattle.life_core.specs.Function.{Program, program_of}
use Rattle.life_core_served.specs.ProperPrograms.{IsProperProgram}
use Rattle.life_rules.specs.Listing.{AreProgramDiagnostics, HaveLines, listed_diag, program_line}
use Rattle.life_rules.specs.declared.diag.Diag.{Diag}
use Rattle.life_store.specs.NoFault.{NoFault}
use Rattle.life_check.specs.CheckedText.{Faulty, Finding, Listed}
use Rattle.life_check.specs.declared.checked.Checked.{Checked}
use Rattle.life_check.specs.declared.checked.Checked.TheVariants.{Accepted, Refused}
use Rattle.life_check.specs.declared.fault.CheckFault.{CheckFault}
use Rattle.life_check.specs.declared.fault.CheckFault.TheVariants.{NoMemory}

-- an accepted program has nothing to list
abbrev pub finding_of : Checked → Finding
finding_of (Accepted program) = Listed (program_of program) []
finding_of (Refused program diagnostics) = Listed (program_of program) (map listed_diag diagnostics.items)

-- the program is proper, and this is its list of diagnostics
pub record IsListedProper (p : Program) (ds : List Diag) : Type 0 where
  pub proper : IsProperProgram p
  pub listed : AreProgramDiagnostics p ds

-- .. and no run of it, on whatever input, with whatever limits, growth and number of steps, uses a null, dangling or moved-from place; or
-- the list isn't empty, and each of it has its line
abbrev pub IsSound : Checked → Type 0
IsSound (Accepted program) = IsListedProper (program_of program) [] × NoFault (program_of program)
IsSound (Refused program diagnostics) = IsListedProper (program_of program) (map listed_diag diagnostics.items) × (diagnostics.items ≢ []) × HaveLines (program_line (program_of program)) diagnostics.items

-- what was found is such, or memory was wanted
abbrev pub Finds : (Finding → Type 0) → Result Checked CheckFault → Type 0
Finds IsSuch (Ok checked) = IsSuch (finding_of checked) × IsSound checked
Finds IsSuch (Err NoMemory) = Unit {0}
Finds IsSuch (Err fault) = IsSuch (Faulty fault)
