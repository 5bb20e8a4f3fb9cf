-- The job of what clap's matches say, or what is wrong with it.
use Rattle.std.specs.Prelude.{◌≤◌, ℕ, List, Bool, false, Option, Some, None, Result, Ok, Err, codes, ok_or, option_and_then, if◌then◌else◌}
use Rattle.std.specs.Option.{option_map_or}
use Rattle.std.specs.Str.{bytes_eq}
use Rattle.clap.specs.Words.{Row, Text, first_of}
use Rattle.life_job.specs.Job.{Job, RunJob}
use Rattle.life_job.specs.Job as job
use Rattle.life_job.specs.Numbers.{digits_number, number_between}
use Rattle.life_job.specs.declared.fault.Wrong.{Wrong}
use Rattle.life_job.specs.declared.fault.Wrong.TheVariants as wrong
use Rattle.life_job.specs.declared.job.CommandName.{CommandName}
use Rattle.life_job.specs.declared.job.CommandName.TheVariants.{Check, Run, Psets, Gen}
use Rattle.life_job.specs.declared.job.Growth.{Growth}
use Rattle.life_job.specs.declared.job.Growth.TheVariants.{Always, Double}
use Rattle.life_job.specs.declared.job.RunOptions.{RunOptions}

abbrev pub Checked : Type 0 → Type 0
Checked X = Result X Wrong

-- the first thing that is wrong, or what comes of what is right
abbrev pub and_then : {X Y : Type 0} → (X → Checked Y) → Checked X → Checked Y
and_then f (Ok x) = f x
and_then f (Err w) = Err w

abbrev pub map_ok : {X Y : Type 0} → (X → Y) → Checked X → Checked Y
map_ok f (Ok x) = Ok (f x)
map_ok f (Err w) = Err w

-- ---- values

-- the word of this name
abbrev pub required : Text → List Row → Checked Text
required id rows = ok_or (first_of id rows) wrong.Missing

abbrev pub is_set : Text → List Row → Bool
is_set id rows = option_map_or (λ word. bytes_eq word (codes "true")) (first_of id rows) false

abbrev pub command_named : Text → Option CommandName
command_named word =
    if bytes_eq word (codes "check") then Some Check
    else (if bytes_eq word (codes "run") then Some Run
    else (if bytes_eq word (codes "psets") then Some Psets
    else (if bytes_eq word (codes "gen") then Some Gen else None)))

abbrev pub command_in : List Row → Checked CommandName
command_in rows = ok_or (option_and_then command_named (first_of (codes "command") rows)) wrong.Command

abbrev pub growth_named : Text → Option Growth
growth_named word =
    if bytes_eq word (codes "always") then Some Always
    else (if bytes_eq word (codes "double") then Some Double else None)

abbrev pub growth_in : List Row → Checked Growth
growth_in rows = ok_or (option_and_then growth_named (first_of (codes "growth") rows)) wrong.Growth

abbrev pub number_in : Text → ℕ → ℕ → Wrong → List Row → Checked ℕ
number_in id least most otherwise rows = ok_or (option_and_then (number_between least most) (first_of id rows)) otherwise

-- ---- how a program is run

abbrev pub most_steps : ℕ
most_steps = 1000000000

abbrev pub most_cells : ℕ
most_cells = 10000000

abbrev pub most_depth : ℕ
most_depth = 10000

abbrev pub options_in : List Row → Checked RunOptions
options_in rows =
    and_then (λ growth. and_then (λ steps. and_then (λ cells. and_then (λ depth. Ok (record {
      unchecked = is_set (codes "unchecked") rows;
      growth = growth;
      steps = steps;
      cells = cells;
      depth = depth;
    }))
    (number_in (codes "depth") 1 most_depth wrong.Depth rows))
    (number_in (codes "cells") 0 most_cells wrong.Cells rows))
    (number_in (codes "steps") 0 most_steps wrong.Steps rows))
    (growth_in rows)

abbrev pub run_in : List Row → Checked RunJob
run_in rows =
    and_then (λ options. and_then (λ function. Ok (record {
      options = options;
      function = function;
      input = first_of (codes "input") rows;
    }))
    (required (codes "entry") rows))
    (options_in rows)

-- ---- the job

-- both words are numbers
abbrev pub gen_of : Text → Text → Checked Job
gen_of first second =
    and_then (λ number. and_then (λ size. Ok (job.Gen number size))
    (ok_or (digits_number second) wrong.Size))
    (ok_or (digits_number first) wrong.Number)

-- the command with its words: what is made has two, and the others have a file
abbrev pub job_by : CommandName → Text → Option Text → RunJob → Bool → Checked Job
job_by Gen first None run json = Err wrong.Missing
job_by Gen first (Some second) run json = gen_of first second
job_by Check first None run json = Ok (job.Check first json)
job_by Run first None run json = Ok (job.Run first run)
job_by Psets first None run json = Ok (job.Psets first)
job_by Check first (Some second) run json = Err wrong.Second
job_by Run first (Some second) run json = Err wrong.Second
job_by Psets first (Some second) run json = Err wrong.Second

abbrev pub job_in : List Row → Checked Job
job_in rows =
    and_then (λ command. and_then (λ first. and_then (λ run.
    job_by command first (first_of (codes "second") rows) run (is_set (codes "json") rows))
    (run_in rows))
    (required (codes "first") rows))
    (command_in rows)

-- it asks for no more steps than may be asked for
abbrev pub HasFewSteps : Job → Type 0
HasFewSteps (job.Run file run) = run.options.steps ≤ most_steps
HasFewSteps _ = Unit {0}
