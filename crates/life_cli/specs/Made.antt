-- The answer to a file that is to be made.
use Rattle.std.specs.Prelude.{◌≡◌, ◌++◌, ℕ, false, [], Ok, length, codes, decimal}
use Rattle.life_core.specs.Function.{Program}
use Rattle.life_job.specs.declared.job.Growth.TheVariants.{Always}
use Rattle.life_job.specs.declared.job.RunOptions.{RunOptions}
use Rattle.life_cli.specs.Answer.{Answer, line}
use Rattle.life_cli.specs.Runs.{RanWith}
use Rattle.life_cli.specs.declared.stop.Ending.{Ending}

-- how a program is run where nothing else is asked for
abbrev pub default_options : RunOptions
default_options = record { unchecked = false; growth = Always; steps = 1000000; cells = 1000000; depth = 1000 }

-- three lines on out: of how many bytes and functions it is, and how its run ended
abbrev pub summary : ℕ → Program → Answer → Answer
summary bytes p ran = record {
  status = ran.status;
  out = line (codes "bytes " ++ decimal bytes) ++ (line (codes "functions " ++ decimal (length p.functions)) ++ ran.err);
  err = [];
}

-- the answer sums up a run of the program from `main`, without input
pub record SumsUp (bytes : ℕ) (p : Program) (answer : Answer) : Type 0 where
  pub ran : Answer
  pub is_run : RanWith default_options (codes "main") p (Ok []) ran
  pub is : answer ≡ summary bytes p ran

-- ---- what the code hands on

-- how such a run ended
pub record IsHeard (p : Program) (ending : Ending) : Type 0 where
  pub ran : Answer
  pub is_run : RanWith default_options (codes "main") p (Ok []) ran
  pub status_is : ending.status ≡ ran.status
  pub err_is : ending.err.items ≡ ran.err
