-- What the words and the files ask, and the answers to it.
use Rattle.std.specs.Prelude.{◌≡◌, ◌++◌, ℕ, Bool, true, false, nat_lt, List, [], Option, Some, None, IfSome, codes, length, option_map}
use Rattle.life_base.specs.Edges.{Directory}
use Rattle.life_core.specs.Function.{Program}
use Rattle.life_job.specs.Refusals.{Told}
use Rattle.life_job.specs.Words.{IsToldOfAsked}
use Rattle.life_job.specs.declared.job.RunOptions.{RunOptions}
use Rattle.life_rules.specs.declared.diag.Diag.{Diag}
use Rattle.life_vectors.specs.Generated.{generated, most_functions}
use Rattle.life_cli.specs.Answer.{Answer, refusal}
use Rattle.life_cli.specs.Concluding.{AnswersFile, AnswersProgram}
use Rattle.life_cli.specs.FileText.{FileText, Absent, TooLong, Holds, bytes_text, file_text}
use Rattle.life_cli.specs.InputFile.{Numbers, input_of}
use Rattle.life_cli.specs.Runs.{RanWith}
use Rattle.life_cli.specs.Usage.{no_job}
use Rattle.life_cli.specs.Words.{Asked, Command, Job, Made, Make, OnFile, Task, task_among}
use Rattle.life_cli.specs.declared.status.Status.TheVariants.{Limit, NoFile}

-- the words ask for nothing, of which this is told; or a job is to be done with a file, or a command with a program and its diagnostics, where the files are these;
-- or a program is to be run from the entry of a name, with an input; or a file of a number is to be made, with so many functions
pub data Question : Type 0 where
  NoJob : Told → Question
  OfFile : Job → Directory → FileText → Question
  OfProgram : Command → Directory → Program → List Diag → Question
  OfRun : RunOptions → List ℕ → Program → Numbers → Question
  OfMade : ℕ → ℕ → Question

-- the answer is the job's to its file
abbrev pub AnswersText : Job → Directory → FileText → Answer → Type 0
AnswersText job directory Absent answer = answer ≡ refusal NoFile (codes "no file " ++ job.file)
AnswersText job directory TooLong answer = answer ≡ refusal Limit (codes "limit: file")
AnswersText job directory (Holds bytes) answer = AnswersFile job.command directory bytes answer

-- no file has any name
abbrev pub no_files : Directory
no_files name = None

-- these bytes were made, and are a file's
abbrev pub made_job : List ℕ → Job
made_job bytes = record { command = Made (length bytes); file = [] }

-- the answer is the one to these bytes, or to a size that is too large
abbrev pub AnswersSized : Bool → List ℕ → Answer → Type 0
AnswersSized true bytes answer = answer ≡ refusal Limit (codes "limit: size")
AnswersSized false bytes answer = AnswersText (made_job bytes) no_files (bytes_text bytes) answer

abbrev pub AnswersMade : ℕ → ℕ → Answer → Type 0
AnswersMade number size answer = AnswersSized (nat_lt most_functions size) (generated number size) answer

-- the answer is one to the question
abbrev pub IsAnswer : Question → Answer → Type 0
IsAnswer (NoJob told) answer = answer ≡ no_job told
IsAnswer (OfFile job directory text) answer = AnswersText job directory text answer
IsAnswer (OfProgram command directory p ds) answer = AnswersProgram command directory p ds answer
IsAnswer (OfRun options entry p input) answer = RanWith options entry p input answer
IsAnswer (OfMade number size) answer = AnswersMade number size answer

-- .. of the file that was made
abbrev pub made_asked : List ℕ → Question
made_asked bytes = OfFile (made_job bytes) no_files (bytes_text bytes)

-- ---- what is asked of files

-- .. of a job whose file is this
unfoldable pub text_asked : Job → FileText → Option Directory → Option Question
text_asked job text held = option_map (λ directory. OfFile job directory text) held

unfoldable pub program_asked : Command → Program → List Diag → Option Directory → Option Question
program_asked command p ds held = option_map (λ directory. OfProgram command directory p ds) held

-- .. of a run with the input of the file of a name, or without one
unfoldable pub run_asked : RunOptions → List ℕ → Program → Option (List ℕ) → Option Directory → Option Question
run_asked options entry p name held = option_map (λ directory. OfRun options entry p (input_of name directory)) held

-- ---- files that don't tell what they hold: then something was read of them, and it is as if they held this

-- it holds of the files that are told, or of some, where nothing is told
pub record OfFiles (told : Option Directory) (P : Option Directory → Type 0) : Type 0 where
  pub directory : Directory
  pub agrees : IfSome told (λ held. directory ≡ held)
  pub is : P (Some directory)

-- .. of what is asked by a job of its file, whose text is that of the name, or some, where nothing is told
pub record OfJob (job : Job) (told : Option Directory) (P : Option Question → Type 0) : Type 0 where
  pub directory : Directory
  pub text : FileText
  pub agrees : IfSome told (λ held. directory ≡ held)
  pub read : IfSome told (λ held. text ≡ file_text (held job.file))
  pub is : P (Some (OfFile job directory text))

-- .. of words that ask for nothing
pub record OfNoJob (asked : Asked) (P : Option Question → Type 0) : Type 0 where
  pub reason : Told
  pub is_told : IsToldOfAsked asked reason
  pub is : P (Some (NoJob reason))

abbrev pub AsksFor : Option Task → Asked → Option Directory → (Option Question → Type 0) → Type 0
AsksFor None asked told P = OfNoJob asked P
AsksFor (Some (OnFile job)) asked told P = OfJob job told P
AsksFor (Some (Make number size)) asked told P = P (Some (OfMade number size))

-- .. of what the words ask, which have a task or none
abbrev pub Asks : Asked → Option Directory → (Option Question → Type 0) → Type 0
Asks asked told P = AsksFor (task_among asked) asked told P

-- ---- answers

-- where the question is known, every answer to it is such
abbrev pub EachAnswer : Option Question → (Answer → Type 0) → Type 0
EachAnswer question IsSuch = IfSome question (λ q. (answer : Answer) → IsAnswer q answer → IsSuch answer)

-- where the question is known, there is an answer to it, and it is such, and so is every answer
pub record TheAnswer (question : Option Question) (IsSuch : Answer → Type 0) : Type 0 where
  pub some : IfSome question (λ q. (answer : Answer) × IsAnswer q answer × IsSuch answer)
  pub each : EachAnswer question IsSuch
