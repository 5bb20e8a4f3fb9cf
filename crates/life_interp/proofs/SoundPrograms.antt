-- What a proper program says of each of its functions, as the forest of owners asks it.
use Rattle.std.proofs.Common.{◌≡◌, ℕ, List, length, Some}
use Rattle.std.specs.Prelude.{ℤ, slice_get}
use Rattle.life_core.specs.Function.{Function, Program}
use Rattle.life_core.specs.Step.{Step, Call}
use Rattle.life_core_served.specs.ProperFunctions.{AreProperFunctions}
use Rattle.life_core_served.specs.ProperPrograms.{IsProperProgram}
use Rattle.life_proper.specs.WellFormedPrograms.{is_well_formed_function}
use Rattle.life_core_served.proofs.PointsAsked.{proper_functions}
use Rattle.life_proper.proofs.SpotTests.{all_at}
use Rattle.life_store.specs.Doing.{Given}
use Rattle.life_store.specs.Meaning.{IsAdmitted, IsFound, run_of}
use Rattle.life_forest.proofs.CallsGo.{GoesWell}
use Rattle.life_forest.proofs.NeverStrays.{have_members, never_strays, points_formed}
use Rattle.life_forest.proofs.SettledSteps.{IsOneFrame}
use Rattle.life_forest.proofs.SettlingLives.{HaveMembers}
use Rattle.life_interp.specs.Walking.{IsOwn}

-- ---- what is no call

pub own_one : (i : Step) → IsOwn i → IsOneFrame i
own_one (Call target g xs) own = absurd own
own_one _ own = tt

-- ---- what is asked of each function

module _ (p : Program) (proper : IsProperProgram p) where
  pub functions : AreProperFunctions p.types (length p.texts) p.functions
  functions = proper_functions p proper

  pub members : HaveMembers p.types
  members = have_members p.types (length p.names) p.members proper.well_formed.members

  pub goes_well : (k : ℕ) (g : Function) → slice_get p.functions k ≡ Some g → GoesWell p.types (length p.names) (length p.texts) p.functions g
  goes_well k g there =
      let one = functions k g there in
      let well = all_at (is_well_formed_function p.types (length p.names) (length p.texts) p.functions) p.functions k g proper.well_formed.functions there in
      record {
        formed = well;
        points = points_formed p.types (length p.names) (length p.texts) p.functions g well;
        ready = one.ready;
        given = one.given;
      }

-- no run of it strays
pub never_lost : (p : Program) (given : Given) (entry : ℕ) (f : Function) (input : List ℤ) (n : ℕ) → IsProperProgram p → slice_get p.functions entry ≡ Some f → IsAdmitted p f input
    → IsFound (run_of given p entry f input n).outcome
never_lost p given entry f input n proper is admitted = never_strays p given entry f input n proper.well_formed proper.ready proper.given is admitted
