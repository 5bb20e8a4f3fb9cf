-- The work on a job where it ends: by the file, or by what its bytes come to.
use Rattle.std.proofs.Common.{◌≡◌, ◌++◌, ℕ, List, Option, Some, IfSome, IfOk, Result, Ok, Err, refl, sym, subst}
use Rattle.std.specs.Prelude.{codes, option_map}
use Rattle.std.proofs.lemmas.Result.{IfOk-weaker}
use Rattle.life_base.specs.Edges.{Directory}
use Rattle.life_check.specs.CheckedText.{ComesOnlyTo, ComesTo, Faulty, Listed}
use Rattle.life_check.specs.Findings.{Finds}
use Rattle.life_check.specs.declared.fault.CheckFault.{CheckFault}
use Rattle.life_check.specs.declared.fault.CheckFault.TheVariants as check
use Rattle.life_core.specs.Function.{Program}
use Rattle.life_job.specs.Job as words
use Rattle.life_rules.specs.declared.diag.Diag.{Diag}
use Rattle.life_types.specs.Places.{position_text}
use Rattle.life_cli.proofs.Files.{files_then, for_any, for_job, for_text, text_read}
use Rattle.life_cli.proofs.Fronts.{gains_nothing}
use Rattle.life_cli.proofs.Questions.{to_finding}
use Rattle.life_cli.proofs.Working.{on_as, refusal_on, stopped_on}
use Rattle.life_cli.specs.CheckedFile.{IsLine, fault_line, lex_fault_text, limit_text}
use Rattle.life_cli.specs.Ends.{Port, Tells, Works, WorksOn}
use Rattle.life_cli.specs.FileText.{Absent, Fetches, FileText, Holds, TooLong, file_text}
use Rattle.life_cli.specs.IllFormed.{ill_text}
use Rattle.life_cli.specs.Question.{Asks, AsksFor, OfFile, OfFiles, OfJob, OfMade, OfProgram, Question, program_asked, text_asked}
use Rattle.life_cli.specs.Refusals.{TellsFault}
use Rattle.life_cli.specs.Status.{IsFaultless, IsOfJob}
use Rattle.life_cli.specs.Words.{AsksUnchecked, IsUnchecked, Job, Make, OnFile, task}
use Rattle.life_cli.specs.declared.fetch.Fetched.TheVariants as fetched
use Rattle.life_cli.specs.declared.status.Status.{Status}
use Rattle.life_cli.specs.declared.status.Status.TheVariants.{Fault, Ill, Limit, NoFile, Syntax, Usage}
use Rattle.life_cli.specs.declared.stop.Ending.{Ending}
use Rattle.life_cli.specs.declared.stop.Stop.{Stop}

-- ---- tasks

-- the work on a task that doesn't ask for more
pub not_usage : (asked : Option Question) (MayFault : Type 0) (reads reads' : ℕ) (out out' : Port) (result : Result Ending Stop) → WorksOn asked MayFault reads reads' out out' result
    → IfOk result (λ (ending : Ending). ending.status ≡ Usage → ⊥)
not_usage asked MayFault reads reads' out out' result on = IfOk-weaker result (λ (e : Ending). IsOfJob e.status) (λ (e : Ending). e.status ≡ Usage → ⊥) (λ e of_job same. subst IsOfJob same of_job) on.status

-- a job on a file
module _ (told : Option Directory) (reads reads' : ℕ) (out out' : Port) (result : Result Ending Stop) (job : Job) (asked : words.Job) (is : OnFile job ≡ task asked)
    (on : OfJob job told (λ question. WorksOn question (IsUnchecked job.command) reads reads' out out' result)) where
  pub job_works : Asks (Ok asked) told (λ question. Works question reads reads' out out' result)
  job_works =
      subst (λ t. AsksFor (Some t) (Ok asked) told (λ question. Works question reads reads' out out' result)) is
      (record { directory = on.directory; text = on.text; agrees = on.agrees; read = on.read; is = on.is.works })

  pub job_is_there : IfOk result (λ (ending : Ending). ending.status ≡ Usage → ⊥)
  job_is_there = not_usage (Some (OfFile job on.directory on.text)) (IsUnchecked job.command) reads reads' out out' result on.is

  pub job_is_unchecked : IfOk result (λ (ending : Ending). ending.status ≡ Fault → AsksUnchecked (Some (task asked)))
  job_is_unchecked = subst (λ t. IfOk result (λ (ending : Ending). ending.status ≡ Fault → AsksUnchecked (Some t))) is on.is.fault

-- a file that is made
module _ (reads reads' : ℕ) (out out' : Port) (result : Result Ending Stop) (number size : ℕ) (asked : words.Job) (is : Make number size ≡ task asked)
    (on : WorksOn (Some (OfMade number size)) ⊥ reads reads' out out' result) where
  pub made_works : (told : Option Directory) → Asks (Ok asked) told (λ question. Works question reads reads' out out' result)
  made_works told = subst (λ t. AsksFor (Some t) (Ok asked) told (λ question. Works question reads reads' out out' result)) is on.works

  pub made_is_there : IfOk result (λ (ending : Ending). ending.status ≡ Usage → ⊥)
  made_is_there = not_usage (Some (OfMade number size)) ⊥ reads reads' out out' result on

  pub made_is_unchecked : IfOk result (λ (ending : Ending). ending.status ≡ Fault → AsksUnchecked (Some (task asked)))
  made_is_unchecked = subst (λ t. IfOk result (λ (ending : Ending). ending.status ≡ Fault → AsksUnchecked (Some t))) is on.fault

-- ---- the file of a job

module _ (job : Job) (told : Option Directory) (MayFault : Type 0) (reads reads' : ℕ) (out : Port) where
  -- the work on what is asked
  abbrev OnAsked : Port → Result Ending Stop → Option Question → Type 0
  OnAsked out' result asked = WorksOn asked MayFault reads reads' out out' result

  pub absent_file : (result : Result Ending Stop) → Fetches (option_map (λ directory. file_text (directory job.file)) told) reads reads' (Ok fetched.Absent) → Tells NoFile (codes "no file " ++ job.file) result
      → OfJob job told (OnAsked out result)
  absent_file result got tells =
      for_text job told Absent (OnAsked out result) got.1.0
      (λ d. refusal_on (Some d) (λ e. OfFile job e Absent) MayFault NoFile (codes "no file " ++ job.file) (λ e a is. is) (λ e a is. is) tt reads reads' got.0 out result tells)

  pub long_file : (result : Result Ending Stop) → Fetches (option_map (λ directory. file_text (directory job.file)) told) reads reads' (Ok fetched.TooLong) → Tells Limit (codes "limit: file") result
      → OfJob job told (OnAsked out result)
  long_file result got tells =
      for_text job told TooLong (OnAsked out result) got.1.0
      (λ d. refusal_on (Some d) (λ e. OfFile job e TooLong) MayFault Limit (codes "limit: file") (λ e a is. is) (λ e a is. is) tt reads reads' got.0 out result tells)

  -- the files are the same after a read, and no count rose
  pub bytes_file : (bytes : List ℕ) (told' : Option Directory) (mid : ℕ) → told' ≡ told → mid ≡ reads → IfSome (option_map (λ directory. file_text (directory job.file)) told) (λ t. t ≡ Holds bytes)
      → (out' : Port) (result : Result Ending Stop) → OfFiles told' (λ held. WorksOn (text_asked job (Holds bytes) held) MayFault mid reads' out out' result) → OfJob job told (OnAsked out' result)
  unfolding text_asked
  bytes_file bytes told' mid same quiet is out' result on = record {
    directory = on.directory;
    text = Holds bytes;
    agrees = subst (λ (o : Option Directory). IfSome o (λ held. on.directory ≡ held)) same on.agrees;
    read = text_read told job.file (Holds bytes) is;
    is = subst (λ (n : ℕ). WorksOn (Some (OfFile job on.directory (Holds bytes))) MayFault n reads' out out' result) quiet on.is;
  }

  -- memory was wanted, or the files' count rose
  pub stopped_file : (text : Option FileText) (reason : Stop) → Fetches text reads reads' (Err reason) → OfJob job told (OnAsked out (Err reason))
  stopped_file text reason h = for_job job told (OnAsked out (Err reason)) (λ d t. stopped_on (Some (OfFile job d t)) MayFault text reads reads' out reason h)

-- ---- what the bytes come to

module _ (job : Job) (bytes : List ℕ) (held : Option Directory) (MayFault : Type 0) (reads reads' : ℕ) (out : Port) where
  told_file : (fault : CheckFault) (status : Status) (text : List ℕ) → fault_line fault ≡ Some (status, text) → IsFaultless status → ComesTo bytes (Faulty fault) → reads' ≡ reads
      → (result : Result Ending Stop) → Tells status text result → WorksOn (text_asked job (Holds bytes) held) MayFault reads reads' out out result
  unfolding text_asked
  told_file fault status text line faultless is quiet result tells =
      refusal_on held (λ d. OfFile job d (Holds bytes)) MayFault status text
      (λ d a same. record { finding = Faulty fault; file = is; answered = subst (λ l. IsLine l a) (sym line) same })
      (λ d a answers. subst (λ l. IsLine l a) line (to_finding d job.command bytes (Faulty fault) a is answers))
      faultless reads reads' quiet out result tells

  -- a fault of the text, or memory was wanted before it was known what the text comes to
  faulty_in : (fault : CheckFault) (result : Result Ending Stop) → Finds (ComesOnlyTo bytes) (Err fault) → reads' ≡ reads → TellsFault fault result
      → WorksOn (text_asked job (Holds bytes) held) MayFault reads reads' out out result
  faulty_in (check.Lex lexical) result found quiet tells = told_file (check.Lex lexical) Syntax (lex_fault_text lexical) refl tt found.is quiet result tells
  faulty_in (check.Syntax at place) result found quiet tells = told_file (check.Syntax at place) Syntax (position_text place ++ codes ": syntax") refl tt found.is quiet result tells
  faulty_in (check.Ill kind place) result found quiet tells = told_file (check.Ill kind place) Ill (ill_text kind place) refl tt found.is quiet result tells
  faulty_in (check.Limit passed) result found quiet tells = told_file (check.Limit passed) Limit (limit_text passed.name passed.place) refl tt found.is quiet result tells
  faulty_in check.NoMemory result found quiet tells =
      subst (λ r. WorksOn (text_asked job (Holds bytes) held) MayFault reads reads' out out r) (sym tells)
      (record { works = record { read_faults = quiet; out_faults = refl; front = gains_nothing (text_asked job (Holds bytes) held) out.taken }; status = tt; fault = tt })

  checked_in : (p : Program) (ds : List Diag) → ComesTo bytes (Listed p ds) → (out' : Port) (result : Result Ending Stop)
      → WorksOn (program_asked job.command p ds held) MayFault reads reads' out out' result → WorksOn (text_asked job (Holds bytes) held) MayFault reads reads' out out' result
  unfolding text_asked program_asked
  checked_in p ds is out' result on =
      on_as held (λ d. OfProgram job.command d p ds) (λ d. OfFile job d (Holds bytes))
      (λ d a answers. record { finding = Listed p ds; file = is; answered = answers })
      (λ d a answers. to_finding d job.command bytes (Listed p ds) a is answers)
      MayFault MayFault (λ may. may) reads reads' out out' result on

-- ---- .. of the files that are told, or some

module _ (job : Job) (bytes : List ℕ) (told : Option Directory) (MayFault : Type 0) (reads reads' : ℕ) (out : Port) where
  abbrev OnText : Port → Result Ending Stop → Option Directory → Type 0
  OnText out' result held = WorksOn (text_asked job (Holds bytes) held) MayFault reads reads' out out' result

  pub faulty_file : (fault : CheckFault) (result : Result Ending Stop) → Finds (ComesOnlyTo bytes) (Err fault) → reads' ≡ reads → TellsFault fault result → OfFiles told (OnText out result)
  faulty_file fault result found quiet tells = for_any told (OnText out result) (λ d. faulty_in job bytes (Some d) MayFault reads reads' out fault result found quiet tells)

  pub checked_file : (p : Program) (ds : List Diag) → ComesTo bytes (Listed p ds) → (out' : Port) (result : Result Ending Stop)
      → OfFiles told (λ held. WorksOn (program_asked job.command p ds held) MayFault reads reads' out out' result) → OfFiles told (OnText out' result)
  checked_file p ds is out' result on =
      files_then told (λ held. WorksOn (program_asked job.command p ds held) MayFault reads reads' out out' result) (OnText out' result)
      (λ d on_program. checked_in job bytes (Some d) MayFault reads reads' out p ds is out' result on_program) on
