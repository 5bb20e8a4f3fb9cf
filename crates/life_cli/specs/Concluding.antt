-- The answer of a command to a program and what is diagnosed in it.
use Rattle.std.specs.Prelude.{◌≡◌, ℕ, Bool, true, false, List, [], ◌∷◌}
use Rattle.life_base.specs.Edges.{Directory}
use Rattle.life_check.specs.CheckedText.{ComesTo, Faulty, Finding, Listed}
use Rattle.life_core.specs.Function.{Program}
use Rattle.life_json.specs.JsonReports.{json_report}
use Rattle.life_psets.specs.SetTexts.{table_text}
use Rattle.life_psets.specs.Sets.{AreSets, SetAt}
use Rattle.life_report.specs.Reports.{report_text}
use Rattle.life_rules.specs.declared.diag.Diag.{Diag}
use Rattle.life_store.specs.NoFault.{NoFault}
use Rattle.life_cli.specs.Answer.{Answer}
use Rattle.life_cli.specs.CheckedFile.{IsLine, fault_line}
use Rattle.life_cli.specs.InputFile.{input_of}
use Rattle.life_cli.specs.Made.{SumsUp}
use Rattle.life_cli.specs.Runs.{RanWith}
use Rattle.life_job.specs.Job.{RunJob}
use Rattle.life_cli.specs.Words.{Check, Command, Made, Psets, Run}
use Rattle.life_cli.specs.declared.status.Status.{Status}
use Rattle.life_cli.specs.declared.status.Status.TheVariants.{Done, Diagnosed}

-- a program is accepted where there is nothing to list
abbrev pub verdict : List Diag → Status
verdict [] = Done
verdict (d ∷ ds) = Diagnosed

-- the report, as JSON or as text
abbrev pub report_by : Bool → Program → List Diag → List ℕ
report_by true p ds = json_report p ds
report_by false p ds = report_text p ds

-- .. on out
abbrev pub reported : Bool → Program → List Diag → Answer
reported json p ds = record { status = verdict ds; out = report_by json p ds; err = [] }

-- its text on err, where the program isn't run for its diagnostics
abbrev pub not_run : Program → List Diag → Answer
not_run p ds = record { status = Diagnosed; out = []; err = report_text p ds }

-- the answer is the run's, with the input that the files hold
abbrev pub RanJob : RunJob → Directory → Program → Answer → Type 0
RanJob run directory p answer = RanWith run.options run.function p (input_of run.input directory) answer

-- a program with diagnostics is run where it is to be run unchecked
abbrev pub RanDiagnosed : Bool → RunJob → Directory → Program → List Diag → Answer → Type 0
RanDiagnosed true run directory p ds answer = RanJob run directory p answer
RanDiagnosed false run directory p ds answer = answer ≡ not_run p ds

-- the table of these sets on out
abbrev pub tabled : Program → List SetAt → Answer
tabled p sets = record { status = Done; out = table_text p sets; err = [] }

-- the answer is the table of the program's sets
pub record IsTabled (p : Program) (answer : Answer) : Type 0 where
  pub sets : List SetAt
  pub are : AreSets p sets
  pub is : answer ≡ tabled p sets

abbrev pub Concludes : Command → Directory → Program → List Diag → Answer → Type 0
Concludes (Check json) directory p ds answer = answer ≡ reported json p ds
Concludes (Run run) directory p [] answer = RanJob run directory p answer
Concludes (Run run) directory p (d ∷ ds) answer = RanDiagnosed run.options.unchecked run directory p (d ∷ ds) answer
Concludes Psets directory p ds answer = IsTabled p answer
Concludes (Made bytes) directory p [] answer = SumsUp bytes p answer
Concludes (Made bytes) directory p (d ∷ ds) answer = answer ≡ not_run p (d ∷ ds)

-- the answer is the command's to the program and its list of diagnostics; where that is empty, no run of the program, on whatever
-- input, with whatever limits, growth and number of steps, uses a null, dangling or moved-from place
pub record AnswersProgram (command : Command) (directory : Directory) (p : Program) (ds : List Diag) (answer : Answer) : Type 0 where
  pub safe : ds ≡ [] → NoFault p
  pub concluded : Concludes command directory p ds answer

-- .. and to what the check of a text finds
abbrev pub AnswersFinding : Command → Directory → Finding → Answer → Type 0
AnswersFinding command directory (Faulty fault) answer = IsLine (fault_line fault) answer
AnswersFinding command directory (Listed p ds) answer = AnswersProgram command directory p ds answer

-- the answer is the command's to a file of these bytes
pub record AnswersFile (command : Command) (directory : Directory) (bytes : List ℕ) (answer : Answer) : Type 0 where
  pub finding : Finding
  pub file : ComesTo bytes finding
  pub answered : AnswersFinding command directory finding answer
