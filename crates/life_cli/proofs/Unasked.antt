-- The work on words that ask for nothing.
use Rattle.std.proofs.Common.{◌≡◌, ◌++◌, ℕ, List, Option, None, Some, IfSome, IfOk, Result, Ok, Err, refl, sym, subst}
use Rattle.life_base.specs.Edges.{Directory}
use Rattle.life_job.proofs.Parsed.{SomeTold}
use Rattle.life_job.specs.Refusals.{Help, Lacking, Named, Told, Version}
use Rattle.life_job.specs.Texts.{help_text, version_text}
use Rattle.life_job.specs.Words.{IsToldOfAsked}
use Rattle.life_cli.proofs.Files.{for_job}
use Rattle.life_cli.proofs.Fronts.{gains_nothing}
use Rattle.life_cli.proofs.Questions.{the_answer}
use Rattle.life_cli.proofs.Served.{text_serves}
use Rattle.life_cli.specs.Answer.{Answer, line}
use Rattle.life_cli.specs.Ends.{IsReady, Port, RefusesWords, Reports, Serves, Tells, Works}
use Rattle.life_cli.specs.Question.{Asks, AsksFor, NoJob, OfFile, OfMade, Question}
use Rattle.life_cli.specs.Status.{IsSettled}
use Rattle.life_cli.specs.Usage.{no_job, usage}
use Rattle.life_cli.specs.Words.{Asked, AsksUnchecked, Make, OnFile, Task, task, task_among}
use Rattle.life_cli.specs.declared.status.Status.{Status}
use Rattle.life_cli.specs.declared.status.Status.TheVariants.{Fault, Usage}
use Rattle.life_cli.specs.declared.stop.Ending.{Ending}
use Rattle.life_cli.specs.declared.stop.Stop.{Stop}
use Rattle.life_cli.specs.declared.stop.Stop.TheVariants as stop

module _ (reads : ℕ) (out out' : Port) where
  -- what is told of them was served
  told_works : (told : Told) (result : Result Ending Stop) → Serves (λ a. a ≡ no_job told) out out' result → Works (Some (NoJob told)) reads reads out out' result
  told_works told (Ok ending) serves =
      let status = subst (λ (a : Answer). ending.status ≡ a.status) serves.is_such serves.ready.status_is in
      record {
        settled = subst IsSettled (sym status) tt;
        read_faults = refl;
        out_faults = serves.out_faults;
        answer = the_answer (NoJob told) serves.answer (IsReady out out' ending) serves.is_such serves.ready;
      }
  told_works told (Err stop.NoMemory) serves = record { read_faults = refl; out_faults = serves.out_faults; front = record { gained = serves.front } }
  told_works told (Err stop.ReadFault) serves = absurd serves
  told_works told (Err stop.WriteFault) serves = record { read_faults = refl; out_faults = serves.out_faults; front = record { gained = serves.front } }

  abbrev WorksFor : Result Ending Stop → Option Question → Type 0
  WorksFor result question = Works question reads reads out out' result

  none_asked : (words : Option Task) (asked : Asked) (held : Option Directory) (told : Told) (result : Result Ending Stop) → words ≡ None → IsToldOfAsked asked told
      → Serves (λ a. a ≡ no_job told) out out' result → AsksFor words asked held (WorksFor result)
  none_asked None asked held told result none is serves = record { reason = told; is_told = is; is = told_works told result serves }
  none_asked (Some t) asked held told result none is serves = cc

-- memory was wanted before anything was written
module _ (reads : ℕ) (out : Port) (held : Option Directory) where
  wants : (question : Option Question) → Works question reads reads out out (Err stop.NoMemory)
  wants question = record { read_faults = refl; out_faults = refl; front = gains_nothing question out.taken }

  wants_for : (asked : Asked) → SomeTold asked → AsksFor (task_among asked) asked held (λ question. Works question reads reads out out (Err stop.NoMemory))
  wants_for (Err fault) told = record { reason = told.0; is_told = told.1; is = wants (Some (NoJob told.0)) }
  wants_for (Ok job) told = go (task job)
    where
      go : (t : Task) → AsksFor (Some t) (Ok job) held (λ question. Works question reads reads out out (Err stop.NoMemory))
      go (OnFile j) = for_job j held (λ question. Works question reads reads out out (Err stop.NoMemory)) (λ d text. wants (Some (OfFile j d text)))
      go (Make number size) = wants (Some (OfMade number size))

-- a refusal of the words
refusal_for : (reads : ℕ) (out out' : Port) (held : Option Directory) (asked : Asked) (told : Told) (result : Result Ending Stop) → IsToldOfAsked asked told → Serves (λ a. a ≡ no_job told) out out' result
    → Asks asked held (λ question. Works question reads reads out out' result)
refusal_for reads out out' held (Ok job) told result is serves = absurd is
refusal_for reads out out' held (Err fault) told result is serves = none_asked reads out out' None (Err fault) held told result refl is serves

pub refused_works : (reads : ℕ) (out out' : Port) (held : Option Directory) (asked : Asked) (told : Option Told) (result : Result Ending Stop) → SomeTold asked → IfSome told (IsToldOfAsked asked)
    → RefusesWords told out out' result → Asks asked held (λ question. Works question reads reads out out' result)
refused_works reads out out' held asked (Some told) result some is refuses = refusal_for reads out out' held asked told result is refuses
refused_works reads out out' held asked None result some is refuses =
    subst (λ (o : Port). Asks asked held (λ question. Works question reads reads out o result)) (sym refuses.0)
    (subst (λ (r : Result Ending Stop). Asks asked held (λ question. Works question reads reads out out r)) (sym refuses.1) (wants_for reads out held asked some))

not_both : (result : Result Ending Stop) (ending : Ending) → result ≡ Ok ending → result ≡ Err stop.NoMemory → ⊥
not_both result ending ended wanted = cc

-- there is no job where the work came to an end
pub refused_no_job : (asked : Asked) (told : Option Told) (out out' : Port) (result : Result Ending Stop) → IfSome told (IsToldOfAsked asked) → RefusesWords told out out' result
    → IfOk result (λ ending. ending.status ≡ Usage → task_among asked ≡ None)
refused_no_job asked told out out' (Err reason) is refuses = tt
refused_no_job (Err fault) told out out' (Ok ending) is refuses = λ usage. refl
refused_no_job (Ok job) (Some told) out out' (Ok ending) is refuses = absurd is
refused_no_job (Ok job) None out out' (Ok ending) is refuses = absurd (not_both (Ok ending) ending refl refuses.1)

not_fault : {P : Type 0} (status : Status) → status ≡ Usage → status ≡ Fault → P
not_fault status usage fault = absurd (cc)

-- .. and nothing was run
pub refused_unrun : (P : Type 0) (told : Option Told) (out out' : Port) (result : Result Ending Stop) → RefusesWords told out out' result → IfOk result (λ ending. ending.status ≡ Fault → P)
refused_unrun P told out out' (Err reason) refuses = tt
refused_unrun P (Some told) out out' (Ok ending) refuses =
    λ fault. not_fault ending.status (subst (λ (a : Answer). ending.status ≡ a.status) refuses.is_such refuses.ready.status_is) fault
refused_unrun P None out out' (Ok ending) refuses = absurd (not_both (Ok ending) ending refl refuses.1)

-- ---- what is told of each

module _ (out out' : Port) (result : Result Ending Stop) (text : List ℕ) (serves : Serves (λ a. a ≡ record { status = Usage; out = text; err = line usage }) out out' result) where
  pub help_refuses : text ≡ help_text → RefusesWords (Some Help) out out' result
  help_refuses same = subst (λ (t : List ℕ). Serves (λ a. a ≡ record { status = Usage; out = t; err = line usage }) out out' result) same serves

  pub version_refuses : text ≡ version_text → RefusesWords (Some Version) out out' result
  version_refuses same = subst (λ (t : List ℕ). Serves (λ a. a ≡ record { status = Usage; out = t; err = line usage }) out out' result) same serves

pub missing_refuses : (out : Port) (result : Result Ending Stop) → Tells Usage usage result → RefusesWords (Some Lacking) out out result
missing_refuses out result tells = text_serves (λ a. a ≡ no_job Lacking) Usage (line usage) out result refl tells

pub wrong_refuses : (out : Port) (result : Result Ending Stop) (word : List ℕ) → Reports Usage (line usage ++ line word) result → RefusesWords (Some (Named word)) out out result
wrong_refuses out result word reports = text_serves (λ a. a ≡ no_job (Named word)) Usage (line usage ++ line word) out result refl reports

pub stopped_refuses : (out : Port) → RefusesWords None out out (Err stop.NoMemory)
stopped_refuses out = (refl, refl)

-- what the words ask for, read
module _ (asked asked' : Asked) (same : asked ≡ asked') (result : Result Ending Stop) where
  pub asked_works : (held : Option Directory) (reads reads' : ℕ) (out out' : Port) → Asks asked' held (λ question. Works question reads reads' out out' result) → Asks asked held (λ question. Works question reads reads' out out' result)
  asked_works held reads reads' out out' works = subst (λ a. Asks a held (λ question. Works question reads reads' out out' result)) (sym same) works

  pub asked_unchecked : IfOk result (λ ending. ending.status ≡ Fault → AsksUnchecked (task_among asked')) → IfOk result (λ ending. ending.status ≡ Fault → AsksUnchecked (task_among asked))
  asked_unchecked told = subst (λ (a : Asked). IfOk result (λ ending. ending.status ≡ Fault → AsksUnchecked (task_among a))) (sym same) told

-- a task is never answered by how the program is called
pub never_usage : (P : Type 0) (result : Result Ending Stop) → IfOk result (λ ending. ending.status ≡ Usage → ⊥) → IfOk result (λ ending. ending.status ≡ Usage → P)
never_usage P (Ok ending) never = λ same. absurd (never same)
never_usage P (Err reason) never = tt
