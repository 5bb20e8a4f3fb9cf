-- Which words are a task.
use Rattle.std.specs.Prelude.{◌≡◌, ◌≤◌, ℕ, List, Bool, true, Option, Some, None, Result, Ok, Err}
use Rattle.life_job.specs.Job as asked
use Rattle.life_job.specs.Job.{RunJob, run_seen}
use Rattle.life_job.specs.Matched.{most_steps}
use Rattle.life_job.specs.Words.{Fault, asked_of}
use Rattle.life_cli.specs.declared.job.Command.{Command as CommandWords}
use Rattle.life_cli.specs.declared.job.Command.TheVariants as words
use Rattle.life_cli.specs.declared.job.Job.{Job as JobWords}
use Rattle.life_cli.specs.declared.job.Task.{Task as TaskWords}
use Rattle.life_cli.specs.declared.job.Task.TheVariants as tasks

-- the file is checked, and the report may be JSON; or it is checked and run; or its sets are told; or it was made, with so many bytes,
-- and is checked and run, and it is told how it went
pub data Command : Type 0 where
  Check : Bool → Command
  Run : RunJob → Command
  Psets : Command
  Made : ℕ → Command

-- what is to be done with a file, and with which
pub record Job : Type 0 where
  pub command : Command
  pub file : List ℕ

-- a job on a file, or a file of a number is to be made, with so many functions
pub data Task : Type 0 where
  OnFile : Job → Task
  Make : ℕ → ℕ → Task

-- ---- the same as the code has them

abbrev pub command_seen : CommandWords → Command
command_seen (words.Check json) = Check json
command_seen (words.Run run) = Run (run_seen run)
command_seen words.Psets = Psets
command_seen (words.Made bytes) = Made bytes

abbrev pub job_seen : JobWords → Job
job_seen job = record { command = command_seen job.command; file = job.file.now }

abbrev pub task_seen : TaskWords → Task
task_seen (tasks.OnFile job) = OnFile (job_seen job)
task_seen (tasks.Make number size) = Make number size

-- ---- what the words ask for

abbrev pub task : asked.Job → Task
task (asked.Check file json) = OnFile (record { command = Check json; file = file })
task (asked.Run file run) = OnFile (record { command = Run run; file = file })
task (asked.Psets file) = OnFile (record { command = Psets; file = file })
task (asked.Gen number size) = Make number size

-- .. as clap reads them
abbrev pub Asked : Type 0
Asked = Result asked.Job Fault

abbrev pub task_among : Asked → Option Task
task_among (Ok job) = Some (task job)
task_among (Err fault) = None

-- the task of the words, if they have one
abbrev pub task_of : List (List ℕ) → Option Task
task_of words = task_among (asked_of words)

-- ---- of a task

-- it takes no more steps than may be asked for
abbrev pub HasFewSteps : Command → Type 0
HasFewSteps (Run run) = run.options.steps ≤ most_steps
HasFewSteps _ = Unit {0}

abbrev pub TakesFewSteps : Task → Type 0
TakesFewSteps (OnFile job) = HasFewSteps job.command
TakesFewSteps (Make number size) = Unit {0}

-- the command runs what is diagnosed too
abbrev pub IsUnchecked : Command → Type 0
IsUnchecked (Run run) = run.options.unchecked ≡ true
IsUnchecked _ = ⊥

abbrev pub AsksUnchecked : Option Task → Type 0
AsksUnchecked None = ⊥
AsksUnchecked (Some (OnFile job)) = IsUnchecked job.command
AsksUnchecked (Some (Make number size)) = ⊥
