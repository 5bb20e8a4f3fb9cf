-- What is asked for, as the specification sees it.
use Rattle.std.specs.Prelude.{ℕ, Bool, Option, option_map}
use Rattle.clap.specs.Words.{Text}
use Rattle.life_job.specs.declared.job.Job.{Job as JobWords}
use Rattle.life_job.specs.declared.job.Job.TheVariants as words
use Rattle.life_job.specs.declared.job.RunJob.{RunJob as RunWords}
use Rattle.life_job.specs.declared.job.RunOptions.{RunOptions}

-- how a program is run, the name of the function with which it begins, and that of the file of its input
pub record RunJob : Type 0 where
  pub options : RunOptions
  pub function : Text
  pub input : Option Text

-- a file is checked, and its report may be JSON; a file is checked and run; its sets are told; a file is made and run
pub data Job : Type 0 where
  Check : Text → Bool → Job
  Run : Text → RunJob → Job
  Psets : Text → Job
  Gen : ℕ → ℕ → Job

abbrev pub run_seen : RunWords → RunJob
run_seen run = record { options = run.options; function = run.function.now; input = option_map (λ s. s.now) run.input }

abbrev pub job_seen : JobWords → Job
job_seen (words.Check file json) = Check file.now json
job_seen (words.Run file run) = Run file.now (run_seen run)
job_seen (words.Psets file) = Psets file.now
job_seen (words.Gen number size) = Gen number size
