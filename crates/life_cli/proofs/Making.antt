-- The work on a file that is made.
use Rattle.std.proofs.Common.{◌≡◌, ◌≤◌, ◌<◌, ◌++◌, ℕ, Bool, true, false, List, [], ◌∷◌, Option, None, Some, Result, Ok, Err, append_assoc, refl, sym, subst, ◌∙◌, arith}
use Rattle.std.specs.Prelude.{codes, decimal, length, nat_lt}
use Rattle.std.proofs.lemmas.Bool.Decides.{nat_tests}
use Rattle.life_base.specs.Edges.{Directory}
use Rattle.life_check.specs.CheckedText.{Faulty, Finding, Listed}
use Rattle.life_core.specs.Function.{Program}
use Rattle.life_vectors.specs.Generated.{generated, most_functions}
use Rattle.life_cli.proofs.Fetching.{is_long}
use Rattle.life_cli.proofs.Files.{is_short}
use Rattle.life_cli.proofs.Working.{on_as, refusal_on, stopped_on}
use Rattle.life_cli.specs.Answer.{Answer, answer_in, line}
use Rattle.life_cli.specs.Concluding.{AnswersFile, AnswersFinding}
use Rattle.life_cli.specs.Ends.{Port, Serves, Tells, WorksOn}
use Rattle.life_cli.specs.Entry.{entry_of}
use Rattle.life_cli.specs.FileText.{FileText, Holds, TooLong, most_bytes}
use Rattle.life_cli.specs.Made.{IsHeard, SumsUp, default_options}
use Rattle.life_cli.specs.Question.{AnswersSized, OfFile, OfFiles, OfMade, made_asked, made_job, no_files, text_asked}
use Rattle.life_cli.specs.Runs.{RanFrom}
use Rattle.life_cli.specs.Words.{Job, Made}
use Rattle.life_cli.specs.declared.reply.Reply.{Reply}
use Rattle.life_cli.specs.declared.status.Status.TheVariants.{Limit}
use Rattle.life_cli.specs.declared.stop.Ending.{Ending}
use Rattle.life_cli.specs.declared.stop.Stop.{Stop}
use Rattle.life_cli.specs.declared.stop.Stop.TheVariants as stop

-- ---- its answers, which look at no other file

made_finding : (bytes : ℕ) (d e : Directory) (f : Finding) (a : Answer) → AnswersFinding (Made bytes) d f a → AnswersFinding (Made bytes) e f a
made_finding bytes d e (Faulty fault) a is = is
made_finding bytes d e (Listed p []) a is = record { safe = is.safe; concluded = is.concluded }
made_finding bytes d e (Listed p (x ∷ xs)) a is = record { safe = is.safe; concluded = is.concluded }

made_file : (count : ℕ) (bytes : List ℕ) (d e : Directory) (a : Answer) → AnswersFile (Made count) d bytes a → AnswersFile (Made count) e bytes a
made_file count bytes d e a is = record { finding = is.finding; file = is.file; answered = made_finding count d e is.finding a is.answered }

-- ---- its text

module _ (bytes : List ℕ) (reads : ℕ) (out : Port) where
  pub long_made : most_bytes < length bytes → (result : Result Ending Stop) → Tells Limit (codes "limit: file") result → WorksOn (Some (made_asked bytes)) ⊥ reads reads out out result
  long_made long result tells =
      subst (λ (t : FileText). WorksOn (Some (OfFile (made_job bytes) no_files t)) ⊥ reads reads out out result) (sym (is_long bytes long))
      (refusal_on (Some no_files) (λ d. OfFile (made_job bytes) no_files TooLong) ⊥ Limit (codes "limit: file") (λ d a is. is) (λ d a is. is) tt reads reads refl out result tells)

  -- the job names how many bytes there are
  abbrev counted : ℕ → Job
  counted count = record { command = Made count; file = [] }

  pub short_made : length bytes ≤ most_bytes → (count : ℕ) → count ≡ length bytes → (told : Option Directory) (reads' : ℕ) (out' : Port) (result : Result Ending Stop)
      → OfFiles told (λ held. WorksOn (text_asked (counted count) (Holds bytes) held) ⊥ reads reads' out out' result) → WorksOn (Some (made_asked bytes)) ⊥ reads reads' out out' result
  unfolding text_asked
  short_made short count same told reads' out' result on =
      subst (λ (t : FileText). WorksOn (Some (OfFile (made_job bytes) no_files t)) ⊥ reads reads' out out' result) (sym (is_short bytes short))
      (on_as (Some on.directory) (λ d. OfFile (counted (length bytes)) d (Holds bytes)) (λ d. OfFile (made_job bytes) no_files (Holds bytes))
      (λ d a is. made_file (length bytes) bytes d no_files a is) (λ d a is. made_file (length bytes) bytes no_files d a is) ⊥ ⊥ (λ h. h) reads reads' out out' result
      (subst (λ (n : ℕ). WorksOn (Some (OfFile (counted n) on.directory (Holds bytes))) ⊥ reads reads' out out' result) same on.is))

-- ---- its size

is_large : (size : ℕ) → most_functions < size → nat_lt most_functions size ≡ true
is_large size large = grind (arith, nat_tests)

is_small : (size : ℕ) → size ≤ most_functions → nat_lt most_functions size ≡ false
is_small size small = grind (arith, nat_tests)

module _ (number size : ℕ) (reads : ℕ) (out : Port) where
  abbrev Sized : Answer → Bool → Type 0
  Sized a large = AnswersSized large (generated number size) a

  pub size_too_large : most_functions < size → (result : Result Ending Stop) → Tells Limit (codes "limit: size") result → WorksOn (Some (OfMade number size)) ⊥ reads reads out out result
  size_too_large large result tells =
      refusal_on (Some no_files) (λ d. OfMade number size) ⊥ Limit (codes "limit: size")
      (λ d a is. subst (Sized a) (sym (is_large size large)) is) (λ d a is. subst (Sized a) (is_large size large) is)
      tt reads reads refl out result tells

  pub size_serves : size ≤ most_functions → (bytes : List ℕ) → bytes ≡ generated number size → (reads' : ℕ) (out' : Port) (result : Result Ending Stop)
      → WorksOn (Some (made_asked bytes)) ⊥ reads reads' out out' result → WorksOn (Some (OfMade number size)) ⊥ reads reads' out out' result
  size_serves small bytes made reads' out' result on =
      on_as (Some no_files) (λ d. made_asked (generated number size)) (λ d. OfMade number size)
      (λ d a is. subst (Sized a) (sym (is_small size small)) is) (λ d a is. subst (Sized a) (is_small size small) is)
      ⊥ ⊥ (λ h. h) reads reads' out out' result
      (subst (λ (t : List ℕ). WorksOn (Some (made_asked t)) ⊥ reads reads' out out' result) made on)

  pub size_stopped : WorksOn (Some (OfMade number size)) ⊥ reads reads out out (Err stop.NoMemory)
  size_stopped = stopped_on (Some (OfMade number size)) ⊥ None reads reads out stop.NoMemory refl

-- ---- its run

-- the run was served to a sink that nobody reads
pub run_heard : (p : Program) (out out' : Port) (ending : Ending) → Serves (RanFrom default_options (codes "main") p [] (entry_of p (codes "main"))) out out' (Ok ending) → IsHeard p ending
run_heard p out out' ending serves = record { ran = serves.answer; is_run = serves.is_such; status_is = serves.ready.status_is; err_is = serves.ready.on_err }

-- the first two lines, in one piece
abbrev counts : ℕ → ℕ → List ℕ
counts bytes functions = codes "bytes " ++ decimal bytes ++ codes "\nfunctions " ++ decimal functions ++ codes "\n"

counts_are : (bytes functions : ℕ) → counts bytes functions ≡ line (codes "bytes " ++ decimal bytes) ++ line (codes "functions " ++ decimal functions)
counts_are bytes functions =
    let first = codes "bytes " ++ decimal bytes in
    append_assoc (first ++ codes "\nfunctions ") (decimal functions) (line [])
    ∙ append_assoc first (codes "\nfunctions ") (decimal functions ++ line [])
    ∙ sym (append_assoc first (line []) (line (codes "functions " ++ decimal functions)))

pub sums_up : (bytes : ℕ) (p : Program) (ending : Ending) (reply : Reply) (heard : IsHeard p ending) → reply.status ≡ ending.status → reply.out.items ≡ counts bytes (length p.functions) ++ ending.err.items → reply.err.items ≡ [] → SumsUp bytes p (answer_in reply)
sums_up bytes p ending reply heard status out err =
    let same = status ∙ heard.status_is in
    let n = length p.functions in
    let lines = out ∙ (λ i. counts_are bytes n i ++ heard.err_is i) ∙ append_assoc (line (codes "bytes " ++ decimal bytes)) (line (codes "functions " ++ decimal n)) heard.ran.err in
    record { ran = heard.ran; is_run = heard.is_run; is = rw (same, lines, err) refl }
