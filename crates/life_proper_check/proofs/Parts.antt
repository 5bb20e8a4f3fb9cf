-- The parts of a proper program, as they are tested.
use Rattle.std.proofs.Common.{◌≡◌, subst, sym, true}
use Rattle.life_types.specs.Trees.{IsOrdered}
use Rattle.life_types.specs.Types.{HasEachOnce}
use Rattle.life_core.specs.Function.{Program}
use Rattle.life_core_served.specs.Served.{has_no_slots}
use Rattle.life_pset.specs.Limits.{IsProgramWithinLimits}
use Rattle.life_proper.specs.Checking.{checked}
use Rattle.life_proper.specs.GivenOver.{keeps_all_given}
use Rattle.life_core_served.specs.ProperPrograms.{IsProperProgram, IsServedProgram, have_own_breaks}
use Rattle.life_proper.specs.ResultsWritten.{WritesResults}
use Rattle.life_proper.proofs.ProperFunctions.{ready_program}
use Rattle.life_proper_check.specs.Deciding.{is_formed_program}
use Rattle.life_proper_check.proofs.Formed.{program_formed}

pub parts_proper : (p : Program) → IsOrdered p.types → HasEachOnce p.types → is_formed_program p ≡ true → keeps_all_given p ≡ true → have_own_breaks p ≡ true
    → IsProgramWithinLimits p → checked p ≡ true → WritesResults p → IsProperProgram p
parts_proper p ordered once formed given breaks within ready results = record {
  well_formed = program_formed p ordered once formed;
  ready = ready_program p ready;
  results = results;
  breaks = breaks;
  given = given;
  limits = within;
}

-- .. and of one whose verdict is proved
pub parts_served : (p : Program) → has_no_slots p ≡ true → IsServedProgram p
parts_served p slotless = record { serves = slotless }

-- a proper program stays as it was
pub kept_proper : (p q : Program) → q ≡ p → (WritesResults p → IsProperProgram p) → WritesResults q → IsProperProgram q
kept_proper p q same proper written = subst IsProperProgram (sym same) (proper (subst WritesResults same written))
