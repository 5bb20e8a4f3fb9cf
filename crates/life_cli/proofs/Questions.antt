-- Answers to a question: there is at most one.
use Rattle.std.proofs.Common.{◌≡◌, ℕ, ℤ, Bool, true, false, List, [], ◌∷◌, Option, None, Some, Ok, Err, IfSome, ap, sym, ◌∙◌, subst}
use Rattle.std.specs.Prelude.{codes, nat_lt, length}
use Rattle.std.proofs.lemmas.Option.{IfSome_then}
use Rattle.life_base.specs.Edges.{Directory}
use Rattle.life_check.proofs.OneFinding.{one_finding}
use Rattle.life_check.specs.CheckedText.{ComesTo, Faulty, Finding, Listed}
use Rattle.life_core.specs.Function.{Function, Program}
use Rattle.life_psets.proofs.OneTable.{one_table}
use Rattle.life_rules.specs.declared.diag.Diag.{Diag}
use Rattle.life_vectors.specs.Generated.{generated, most_functions}
use Rattle.life_cli.specs.Answer.{Answer}
use Rattle.life_cli.specs.CheckedFile.{IsLine, fault_line}
use Rattle.life_cli.specs.Concluding.{AnswersFile, AnswersFinding, Concludes, IsTabled, RanDiagnosed, RanJob, tabled}
use Rattle.life_cli.specs.Entry.{Absent as NoEntry, Begins, Entry, NotValue, entry_of}
use Rattle.life_cli.specs.FileText.{Absent, FileText, Holds, TooLong, bytes_text}
use Rattle.life_cli.specs.InputFile.{Numbers, input_of}
use Rattle.life_cli.specs.Question.{AnswersSized, AnswersText, IsAnswer, NoJob, OfFile, OfMade, OfProgram, OfRun, Question, TheAnswer, made_job, no_files}
use Rattle.life_cli.specs.Made.{SumsUp, default_options, summary}
use Rattle.life_cli.specs.Runs.{IsEnd, RanFrom, RanUnless, RanWith, ended_as, run_with}
use Rattle.life_job.specs.Job.{RunJob}
use Rattle.life_cli.specs.Words.{Check, Command, Job, Made, Psets, Run}
use Rattle.life_job.specs.declared.job.RunOptions.{RunOptions}
use Rattle.life_cli.specs.declared.status.Status.{Status}

-- ---- runs

same_end : (output : List ℕ) (ended : Option (Status × List ℕ)) (a b : Answer) → IsEnd output ended a → IsEnd output ended b → a ≡ b
same_end output None a b p q = absurd p
same_end output (Some ended) a b p q = p ∙ sym q

same_unless : (few : Bool) (options : RunOptions) (p : Program) (n : ℕ) (f : Function) (input : List ℤ) (a b : Answer) → RanUnless few options p n f input a → RanUnless few options p n f input b → a ≡ b
same_unless true options p n f input a b x y = x ∙ sym y
same_unless false options p n f input a b x y =
    same_end (run_with options p n f input).output (ended_as options.steps (run_with options p n f input).outcome) a b x y

same_from : (options : RunOptions) (name : List ℕ) (p : Program) (input : List ℤ) (e : Entry) (a b : Answer) → RanFrom options name p input e a → RanFrom options name p input e b → a ≡ b
same_from options name p input NoEntry a b x y = x ∙ sym y
same_from options name p input NotValue a b x y = x ∙ sym y
same_from options name p input (Begins n f) a b x y = same_unless (nat_lt (length input) f.parameters) options p n f input a b x y

same_run : (options : RunOptions) (name : List ℕ) (p : Program) (numbers : Numbers) (a b : Answer) → RanWith options name p numbers a → RanWith options name p numbers b → a ≡ b
same_run options name p (Err refused) a b x y = x ∙ sym y
same_run options name p (Ok input) a b x y = same_from options name p input (entry_of p name) a b x y

-- ---- programs and files

-- a program has one table
pub same_table : (p : Program) (a b : Answer) → IsTabled p a → IsTabled p b → a ≡ b
same_table p a b x y = x.is ∙ ap (tabled p) (one_table p x.sets y.sets x.are y.are) ∙ sym y.is

-- a run has one end, so a program is summed up in one way
pub same_summary : (bytes : ℕ) (p : Program) (a b : Answer) → SumsUp bytes p a → SumsUp bytes p b → a ≡ b
same_summary bytes p a b x y =
    x.is ∙ ap (summary bytes p) (same_run default_options (codes "main") p (Ok []) x.ran y.ran x.is_run y.is_run) ∙ sym y.is

same_line : (line : Option (Status × List ℕ)) (a b : Answer) → IsLine line a → IsLine line b → a ≡ b
same_line None a b x y = absurd x
same_line (Some told) a b x y = x ∙ sym y

module _ (directory : Directory) where
  same_job : (run : RunJob) (p : Program) (a b : Answer) → RanJob run directory p a → RanJob run directory p b → a ≡ b
  same_job run p a b x y = same_run run.options run.function p (input_of run.input directory) a b x y

  same_diagnosed : (unchecked : Bool) (run : RunJob) (p : Program) (ds : List Diag) (a b : Answer) → RanDiagnosed unchecked run directory p ds a → RanDiagnosed unchecked run directory p ds b → a ≡ b
  same_diagnosed true run p ds a b x y = same_job run p a b x y
  same_diagnosed false run p ds a b x y = x ∙ sym y

  same_conclusion : (command : Command) (p : Program) (ds : List Diag) (a b : Answer) → Concludes command directory p ds a → Concludes command directory p ds b → a ≡ b
  same_conclusion (Check json) p ds a b x y = x ∙ sym y
  same_conclusion (Run run) p [] a b x y = same_job run p a b x y
  same_conclusion (Run run) p (d ∷ ds) a b x y = same_diagnosed run.options.unchecked run p (d ∷ ds) a b x y
  same_conclusion Psets p ds a b x y = same_table p a b x y
  same_conclusion (Made bytes) p [] a b x y = same_summary bytes p a b x y
  same_conclusion (Made bytes) p (d ∷ ds) a b x y = x ∙ sym y

  same_finding : (command : Command) (f : Finding) (a b : Answer) → AnswersFinding command directory f a → AnswersFinding command directory f b → a ≡ b
  same_finding command (Faulty fault) a b x y = same_line (fault_line fault) a b x y
  same_finding command (Listed p ds) a b x y = same_conclusion command p ds a b x.concluded y.concluded

  -- an answer to a file is one to what its text comes to
  pub to_finding : (command : Command) (bytes : List ℕ) (f : Finding) (a : Answer) → ComesTo bytes f → AnswersFile command directory bytes a → AnswersFinding command directory f a
  to_finding command bytes f a file is = subst (λ x. AnswersFinding command directory x a) (one_finding bytes is.finding f is.file file) is.answered

  same_file : (command : Command) (bytes : List ℕ) (a b : Answer) → AnswersFile command directory bytes a → AnswersFile command directory bytes b → a ≡ b
  same_file command bytes a b x y = same_finding command x.finding a b x.answered (to_finding command bytes x.finding b x.file y)

  same_text : (job : Job) (text : FileText) (a b : Answer) → AnswersText job directory text a → AnswersText job directory text b → a ≡ b
  same_text job Absent a b x y = x ∙ sym y
  same_text job TooLong a b x y = x ∙ sym y
  same_text job (Holds bytes) a b x y = same_file job.command bytes a b x y

same_sized : (large : Bool) (bytes : List ℕ) (a b : Answer) → AnswersSized large bytes a → AnswersSized large bytes b → a ≡ b
same_sized true bytes a b x y = x ∙ sym y
same_sized false bytes a b x y = same_text no_files (made_job bytes) (bytes_text bytes) a b x y

-- ---- questions

-- a question has at most one answer
pub same_answer : (question : Question) (a b : Answer) → IsAnswer question a → IsAnswer question b → a ≡ b
same_answer (NoJob told) a b x y = x ∙ sym y
same_answer (OfFile job directory text) a b x y = same_text directory job text a b x y
same_answer (OfProgram command directory p ds) a b x y = same_conclusion directory command p ds a b x.concluded y.concluded
same_answer (OfRun options name p numbers) a b x y = same_run options name p numbers a b x y
same_answer (OfMade number size) a b x y = same_sized (nat_lt most_functions size) (generated number size) a b x y

-- what is known of one answer is known of the only one
pub the_answer : (question : Question) (answer : Answer) (P : Answer → Type 0) → IsAnswer question answer → P answer → TheAnswer (Some question) P
the_answer question answer P is such = record {
  some = (answer, is, such);
  each = λ other is-other. subst P (same_answer question answer other is is-other) such;
}

-- .. as far as the question is known
pub answered : (asked : Option Question) (answer : Answer) (P : Answer → Type 0) → IfSome asked (λ q. IsAnswer q answer) → P answer → TheAnswer asked P
answered None answer P is such = record { some = tt; each = tt }
answered (Some question) answer P is such = the_answer question answer P is such

-- what follows from what is known of an answer is known of it
pub answer_then : (asked : Option Question) (P Q : Answer → Type 0) → TheAnswer asked P → ((answer : Answer) → P answer → Q answer) → TheAnswer asked Q
answer_then asked P Q h step = record {
  some = IfSome_then asked h.some (λ q found. (found.0, found.1, step found.0 found.2));
  each = IfSome_then asked h.each (λ q each answer is. step answer (each answer is));
}
