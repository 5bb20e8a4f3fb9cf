-- What is accepted has a program, of which no run faults.
use Rattle.std.proofs.Common.{◌≡◌, ℕ, Bool, true, false, cond, List, [], ◌∷◌, Option, None, Some, IfSome, refl, sym, subst, ◌∙◌}
use Rattle.std.specs.Prelude.{nat_lt, length}
use Rattle.life_base.specs.Edges.{Directory}
use Rattle.life_check.proofs.ListedPrograms.{listed_program}
use Rattle.life_check.specs.CheckedText.{ComesTo, Faulty, IsProgramOf, Listed}
use Rattle.life_check.specs.declared.fault.CheckFault.{CheckFault}
use Rattle.life_check.specs.declared.fault.CheckFault.TheVariants as check
use Rattle.life_core.specs.Function.{Program}
use Rattle.life_rules.specs.declared.diag.Diag.{Diag}
use Rattle.life_store.specs.NoFault.{NoFault}
use Rattle.life_vectors.specs.Generated.{generated, most_functions}
use Rattle.life_cli.specs.Accepting.{Accepts, IsPast}
use Rattle.life_cli.specs.Answer.{Answer}
use Rattle.life_cli.specs.CheckedFile.{IsLine, fault_line}
use Rattle.life_cli.specs.Concluding.{AnswersFile, AnswersFinding, AnswersProgram, RanDiagnosed, not_run, verdict}
use Rattle.life_cli.specs.Ends.{Ends, EndsWell, Port}
use Rattle.life_cli.specs.FileText.{Absent, FileText, Holds, TooLong, bytes_text, file_text, most_bytes}
use Rattle.life_cli.specs.Question.{AnswersSized, AnswersText, AsksFor, OfFile, OfJob, OfMade, Question, made_job, no_files}
use Rattle.life_cli.specs.Words.{Asked, Check, Command, Job, Made, Make, OnFile, Psets, Run, Task}
use Rattle.life_cli.specs.declared.status.Status.{Status}
use Rattle.life_cli.specs.declared.status.Status.TheVariants.{Done, Input, Steps, Trap}

is_past : (command : Command) (status : Status) → Accepts command status → IsPast status
is_past (Check json) status is = subst IsPast (sym is) tt
is_past (Run run) status is = is.1
is_past Psets status is = absurd is
is_past (Made bytes) status is = is

-- an answer with another status is no acceptance
not_past : {P : Type 0} (command : Command) (a b : Answer) → a ≡ b → (IsPast b.status → ⊥) → Accepts command a.status → P
not_past command a b same never accepts = absurd (never (subst (λ (x : Answer). IsPast x.status) same (is_past command a.status accepts)))

-- ---- a program that is accepted

clean : (d : Diag) (ds : List Diag) → verdict (d ∷ ds) ≡ Done → ⊥
clean d ds h = cc

safe_program : (command : Command) (directory : Directory) (p : Program) (ds : List Diag) (a : Answer) → AnswersProgram command directory p ds a → Accepts command a.status → NoFault p
safe_program command directory p [] a answers accepts = answers.safe refl
safe_program (Check json) directory p (d ∷ ds) a answers accepts = absurd (clean d ds (subst (λ (x : Answer). x.status ≡ Done) answers.concluded accepts))
safe_program (Run run) directory p (d ∷ ds) a answers accepts =
    not_past (Run run) a (not_run p (d ∷ ds)) (subst (λ b. RanDiagnosed b run directory p (d ∷ ds) a) accepts.0 answers.concluded) (λ h. h) accepts
safe_program Psets directory p (d ∷ ds) a answers accepts = absurd accepts
safe_program (Made bytes) directory p (d ∷ ds) a answers accepts = not_past (Made bytes) a (not_run p (d ∷ ds)) answers.concluded (λ h. h) accepts

no_line : {P : Type 0} (command : Command) (fault : CheckFault) (a : Answer) → IsLine (fault_line fault) a → Accepts command a.status → P
no_line command (check.Lex lexical) a is accepts = not_past command a _ is (λ h. h) accepts
no_line command (check.Syntax at place) a is accepts = not_past command a _ is (λ h. h) accepts
no_line command (check.Ill kind place) a is accepts = not_past command a _ is (λ h. h) accepts
no_line command (check.Limit passed) a is accepts = not_past command a _ is (λ h. h) accepts
no_line command check.NoMemory a is accepts = absurd is

-- ---- a file that is accepted

-- bytes have a program, of which no run faults
pub record IsSafeText (bytes : List ℕ) : Type 0 where
  pub program : Program
  pub of_bytes : IsProgramOf bytes program
  pub safe : NoFault program

safe_finding : (command : Command) (directory : Directory) (bytes : List ℕ) (a : Answer) (answers : AnswersFile command directory bytes a) → Accepts command a.status → IsSafeText bytes
safe_finding command directory bytes a answers accepts = elim answers.finding as (λ f. ComesTo bytes f → AnswersFinding command directory f a → IsSafeText bytes) [
  | Faulty fault ↦ λ file answered. no_line command fault a answered accepts
  | Listed p ds ↦ λ file answered. record { program = p; of_bytes = listed_program bytes p ds file; safe = safe_program command directory p ds a answered accepts }
] answers.file answers.answered

safe_text : (job : Job) (directory : Directory) (text : FileText) (a : Answer) → AnswersText job directory text a → Accepts job.command a.status → (bytes : List ℕ) × ((text ≡ Holds bytes) × IsSafeText bytes)
safe_text job directory Absent a is accepts = not_past job.command a _ is (λ h. h) accepts
safe_text job directory TooLong a is accepts = not_past job.command a _ is (λ h. h) accepts
safe_text job directory (Holds bytes) a is accepts = (bytes, (refl, safe_finding job.command directory bytes a is accepts))

-- ---- the bytes of the file

text_is : (long : Bool) (held bytes : List ℕ) → cond long TooLong (Holds held) ≡ Holds bytes → Some held ≡ Some bytes
text_is true held bytes h = absurd (cc)
text_is false held bytes h = cc

file_is : (o : Option (List ℕ)) (bytes : List ℕ) → file_text o ≡ Holds bytes → o ≡ Some bytes
file_is None bytes h = absurd (cc)
file_is (Some held) bytes h = text_is (nat_lt most_bytes (length held)) held bytes h

of_told : (told : Option Directory) (name : List ℕ) (text : FileText) (bytes : List ℕ) → IfSome told (λ held. text ≡ file_text (held name)) → text ≡ Holds bytes → IfSome told (λ held. held name ≡ Some bytes)
of_told None name text bytes read is = tt
of_told (Some d) name text bytes read is = file_is (d name) bytes (sym read ∙ is)

-- a file that was made has its own bytes
same_bytes : (a b : List ℕ) → Some a ≡ Some b → a ≡ b
same_bytes a b same = cc

safe_sized : (large : Bool) (bytes : List ℕ) (a : Answer) → AnswersSized large bytes a → IsPast a.status → IsSafeText bytes
safe_sized true bytes a is past = not_past (Made (length bytes)) a _ is (λ h. h) past
safe_sized false bytes a is past =
    let found = safe_text (made_job bytes) no_files (bytes_text bytes) a is past in
    subst IsSafeText (sym (same_bytes bytes found.0 (text_is (nat_lt most_bytes (length bytes)) bytes found.0 found.1.0))) found.1.1

-- ---- the command

-- the file of the name has bytes, those that are told, which have a program, of which no run faults
abbrev HasSafeProgram : Option Directory → List ℕ → Type 0
HasSafeProgram told name = (bytes : List ℕ) × (IfSome told (λ held. held name ≡ Some bytes) × ((p : Program) × (IsProgramOf bytes p × NoFault p)))

module _ (told : Option Directory) (reads reads' : ℕ) (out out' err err' : Port) where
  ends_well : (question : Question) (status : Status) → IsPast status → Ends (Some question) reads reads' out out' err err' status → EndsWell (Some question) reads reads' out out' err err' status
  ends_well question Done past end = end
  ends_well question Trap past end = end
  ends_well question Steps past end = end
  ends_well question Input past end = end
  ends_well question _ past end = absurd past

  job_accepted : (status : Status) (job : Job) → OfJob job told (λ asked. Ends asked reads reads' out out' err err' status) → Accepts job.command status → HasSafeProgram told job.file
  job_accepted status job asks accepts =
      let end = ends_well (OfFile job asks.directory asks.text) status (is_past job.command status accepts) asks.is in
      let found = end.answer.some in
      let is = safe_text job asks.directory asks.text found.0 found.1 (subst (Accepts job.command) found.2.status_is accepts) in
      (is.0, (of_told told job.file asks.text is.0 asks.read is.1.0, (is.1.1.program, (is.1.1.of_bytes, is.1.1.safe))))

  pub accepted : (status : Status) (words : Option Task) (asked : Asked) → AsksFor words asked told (λ question. Ends question reads reads' out out' err err' status) → (job : Job) → words ≡ Some (OnFile job) → Accepts job.command status → HasSafeProgram told job.file
  accepted status words asked asks job is accepts = job_accepted status job (subst (λ w. AsksFor w asked told (λ question. Ends question reads reads' out out' err err' status)) is asks) accepts

  -- .. and one that makes its file
  pub made_accepted : (status : Status) (words : Option Task) (asked : Asked) → AsksFor words asked told (λ question. Ends question reads reads' out out' err err' status) → (number size : ℕ) → words ≡ Some (Make number size) → IsPast status
      → (p : Program) × (IsProgramOf (generated number size) p × NoFault p)
  made_accepted status words asked asks number size is past =
      let end = ends_well (OfMade number size) status past (subst (λ w. AsksFor w asked told (λ question. Ends question reads reads' out out' err err' status)) is asks) in
      let found = end.answer.some in
      let safe = safe_sized (nat_lt most_functions size) (generated number size) found.0 found.1 (subst IsPast found.2.status_is past) in
      (safe.program, (safe.of_bytes, safe.safe))
