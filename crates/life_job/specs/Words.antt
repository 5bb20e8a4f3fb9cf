-- Which words are a job.
use Rattle.std.specs.Prelude.{◌≡◌, List, [], ◌∷◌, Option, Some, None, IfSome, Result, Ok, Err}
use Rattle.clap.specs.Words.{IsAmong, Kinds, Row, Text, fault_of, matches_of}
use Rattle.clap.specs.declared.error.kind.ErrorKind.{ErrorKind}
use Rattle.life_job.specs.Command.{lifecheck}
use Rattle.life_job.specs.Job.{Job, job_seen}
use Rattle.life_job.specs.Matched.{Checked, job_in}
use Rattle.life_job.specs.Refusals.{IsToldOf, Told, told_by, told_wrong}
use Rattle.life_job.specs.declared.fault.Refusal.{Refusal}
use Rattle.life_job.specs.declared.fault.Wrong.{Wrong}
use Rattle.life_job.specs.declared.job.Job.{Job as JobWords}

-- why words ask for no job: clap finds a fault of one of these kinds, or what it found is wrong
pub data Fault : Type 0 where
  OfClap : Kinds → Fault
  OfValue : Wrong → List Row → Fault

abbrev pub matched : List Row → Checked Job → Result Job Fault
matched rows (Ok job) = Ok job
matched rows (Err wrong) = Err (OfValue wrong rows)

-- what the matches say, where clap finds no fault
abbrev pub asked_where : Kinds → List Row → Result Job Fault
asked_where [] rows = matched rows (job_in rows)
asked_where (kind ∷ kinds) rows = Err (OfClap (kind ∷ kinds))

-- what the words ask for: what clap finds in them for the program's command
unfoldable pub asked_of : List Text → Result Job Fault
asked_of words = asked_where (fault_of lifecheck words) (matches_of lifecheck words)

abbrev pub job_among : Result Job Fault → Option Job
job_among (Ok job) = Some job
job_among (Err fault) = None

-- the job of the words, if they have one
abbrev pub job_of : List Text → Option Job
job_of words = job_among (asked_of words)

-- ---- what is told of words that have none

pub record IsToldOfKinds (kinds : Kinds) (told : Told) : Type 0 where
  pub kind : ErrorKind
  pub among : IsAmong kind kinds
  pub is : IsToldOf kind told

abbrev pub IsToldOfFault : Fault → Told → Type 0
IsToldOfFault (OfClap kinds) told = IsToldOfKinds kinds told
IsToldOfFault (OfValue wrong rows) told = told ≡ told_wrong wrong rows

abbrev pub IsToldOfAsked : Result Job Fault → Told → Type 0
IsToldOfAsked (Ok job) told = ⊥
IsToldOfAsked (Err fault) told = IsToldOfFault fault told

-- ---- what the code reads

-- it is the job, or a refusal that tells of the words
abbrev pub IsRead : Result Job Fault → Result JobWords Refusal → Type 0
IsRead asked (Ok job) = asked ≡ Ok (job_seen job)
IsRead asked (Err refused) = IfSome (told_by refused) (λ told. IsToldOfAsked asked told)
