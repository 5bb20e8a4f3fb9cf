-- Proper programs: what each translation is, and what is asked of a program that is run. Of one whose diagnostics are trusted it is asked that it is served too.
use Rattle.std.specs.Prelude.{◌≡◌, Bool, true, false}
use Rattle.std.specs.List.{list_all}
use Rattle.life_core.specs.Function.{Function, Program}
use Rattle.life_core.specs.Proper.{IsReadyProgram}
use Rattle.life_core_served.specs.Served.{has_no_slots}
use Rattle.life_core.specs.Shape.{breaks_inside}
use Rattle.life_pset.specs.Limits.{IsProgramWithinLimits}
use Rattle.life_proper.specs.GivenOver.{keeps_all_given}
use Rattle.life_proper.specs.ResultsWritten.{WritesResults}
use Rattle.life_proper.specs.WellFormedPrograms.{IsWellFormedProgram}

-- a body stands in no loop
abbrev pub has_own_breaks : Function → Bool
has_own_breaks f = breaks_inside false f.body

abbrev pub have_own_breaks : Program → Bool
have_own_breaks p = list_all has_own_breaks p.functions

pub record IsProperProgram (p : Program) : Type 0 where
  -- each number names something that is there, each operand has a type that its instruction takes, and const stays const
  pub well_formed : IsWellFormedProgram p
  -- on every way through a function each object is used between its birth and its end, each register is read once it was written, and no way
  -- runs past the end
  pub ready : IsReadyProgram p
  -- on every way to a return the result was written
  pub results : WritesResults p
  -- break and continue stand in the body of a loop, also where no way comes to
  pub breaks : have_own_breaks p ≡ true
  -- nothing else takes what is given over, and nothing points into it
  pub given : keeps_all_given p ≡ true
  -- no limit is passed
  pub limits : IsProgramWithinLimits p

-- of which programs it is proved so far that no run of theirs faults where nothing is diagnosed: of those none of whose locals is a slot
pub record IsServedProgram (p : Program) : Type 0 where
  pub serves : has_no_slots p ≡ true
