-- From what serves some answers to the work on a job.
use Rattle.std.proofs.Common.{◌≡◌, ℕ, List, Option, None, Some, IfSome, IfOk, Result, Ok, Err, refl, sym, subst, ◌∙◌}
use Rattle.std.specs.Prelude.{option_map}
use Rattle.std.proofs.KnownBytes.{Appends-nil}
use Rattle.std.proofs.lemmas.Option.{IfSome_then}
use Rattle.std.proofs.lemmas.Result.{IfOk-weaker}
use Rattle.life_base.specs.Edges.{Directory}
use Rattle.life_cli.proofs.Fronts.{gains_nothing}
use Rattle.life_cli.proofs.Questions.{answered}
use Rattle.life_cli.proofs.Served.{text_serves}
use Rattle.life_cli.proofs.Statuses.{Fits, faultless_fits, fits_as, settled_of_job}
use Rattle.life_cli.specs.Answer.{Answer, line, refusal}
use Rattle.life_cli.specs.Ends.{GainsFront, IsReady, Port, Serves, ServesFront, Tells, Works, WorksOn}
use Rattle.life_cli.specs.FileText.{FileText, Fetches}
use Rattle.life_cli.specs.Question.{IsAnswer, Question}
use Rattle.life_cli.specs.Status.{IsFaultless, IsOfJob, IsSettled}
use Rattle.life_cli.specs.declared.status.Status.{Status}
use Rattle.life_cli.specs.declared.status.Status.TheVariants.{Fault}
use Rattle.life_cli.specs.declared.stop.Ending.{Ending}
use Rattle.life_cli.specs.declared.stop.Stop.{Stop}
use Rattle.life_cli.specs.declared.stop.Stop.TheVariants as stop

-- these answers are those that are asked for, as far as it is known what is asked
pub record AreAsked (asked : Option Question) (P : Answer → Type 0) : Type 0 where
  pub to : IfSome asked (λ q. (a : Answer) → P a → IsAnswer q a)
  pub back : IfSome asked (λ q. (a : Answer) → IsAnswer q a → P a)

-- .. where they are those to each question that there may be
pub are_asked : (held : Option Directory) (G : Directory → Question) (P : Answer → Type 0) → ((d : Directory) (a : Answer) → P a → IsAnswer (G d) a) → ((d : Directory) (a : Answer) → IsAnswer (G d) a → P a)
    → AreAsked (option_map G held) P
are_asked None G P to back = record { to = tt; back = tt }
are_asked (Some d) G P to back = record { to = to d; back = back d }

module _ (asked : Option Question) (MayFault : Type 0) (P : Answer → Type 0) (are : AreAsked asked P) (fits : (a : Answer) → P a → Fits MayFault a.status) (reads reads' : ℕ) (quiet : reads' ≡ reads) (out out' : Port) where
  gains : ServesFront P out out' → GainsFront asked out.taken out'.taken
  gains front = record { gained = IfSome_then asked are.back (λ q back a is. front a (back a is)) }

  works : (result : Result Ending Stop) → Serves P out out' result → Works asked reads reads' out out' result
  works (Ok ending) serves = record {
    settled = subst IsSettled (sym serves.ready.status_is) (settled_of_job serves.answer.status (fits serves.answer serves.is_such).0);
    read_faults = quiet;
    out_faults = serves.out_faults;
    answer = answered asked serves.answer (IsReady out out' ending) (IfSome_then asked are.to (λ q to. to serves.answer serves.is_such)) serves.ready;
  }
  works (Err stop.NoMemory) serves = record { read_faults = quiet; out_faults = serves.out_faults; front = gains serves.front }
  works (Err stop.ReadFault) serves = absurd serves
  works (Err stop.WriteFault) serves = record { read_faults = quiet; out_faults = serves.out_faults; front = gains serves.front }

  of_job : (result : Result Ending Stop) → Serves P out out' result → IfOk result (λ (ending : Ending). IsOfJob ending.status)
  of_job (Ok ending) serves = subst IsOfJob (sym serves.ready.status_is) (fits serves.answer serves.is_such).0
  of_job (Err _) serves = tt

  may_fault : (result : Result Ending Stop) → Serves P out out' result → IfOk result (λ (ending : Ending). ending.status ≡ Fault → MayFault)
  may_fault (Ok ending) serves = λ e. (fits serves.answer serves.is_such).1 (sym serves.ready.status_is ∙ e)
  may_fault (Err _) serves = tt

  -- what serves the answers that are asked for works on the question
  pub serves_on : (result : Result Ending Stop) → Serves P out out' result → WorksOn asked MayFault reads reads' out out' result
  serves_on result serves = record { works = works result serves; status = of_job result serves; fault = may_fault result serves }

-- a refusal that is asked for
pub refusal_on : (held : Option Directory) (G : Directory → Question) (MayFault : Type 0) (s : Status) (text : List ℕ)
    → ((d : Directory) (a : Answer) → a ≡ refusal s text → IsAnswer (G d) a) → ((d : Directory) (a : Answer) → IsAnswer (G d) a → a ≡ refusal s text)
    → IsFaultless s → (reads reads' : ℕ) → reads' ≡ reads → (out : Port) (told : Result Ending Stop) → Tells s text told → WorksOn (option_map G held) MayFault reads reads' out out told
refusal_on held G MayFault s text to back faultless reads reads' quiet out told tells =
    serves_on (option_map G held) MayFault (λ a. a ≡ refusal s text) (are_asked held G (λ a. a ≡ refusal s text) to back)
    (λ a is. fits_as MayFault a (refusal s text) is (faultless_fits MayFault s faultless)) reads reads' quiet out out told
    (text_serves (λ a. a ≡ refusal s text) s (line text) out told refl tells)

-- ---- other questions with the same answers

works_as : (held : Option Directory) (G H : Directory → Question) → ((d : Directory) (a : Answer) → IsAnswer (G d) a → IsAnswer (H d) a) → ((d : Directory) (a : Answer) → IsAnswer (H d) a → IsAnswer (G d) a)
    → (reads reads' : ℕ) (out out' : Port) (result : Result Ending Stop) → Works (option_map G held) reads reads' out out' result → Works (option_map H held) reads reads' out out' result
works_as None G H to back reads reads' out out' result h = h
works_as (Some d) G H to back reads reads' out out' (Ok ending) h = record {
  settled = h.settled;
  read_faults = h.read_faults;
  out_faults = h.out_faults;
  answer = record { some = (h.answer.some.0, to d h.answer.some.0 h.answer.some.1, h.answer.some.2); each = λ a is. h.answer.each a (back d a is) };
}
works_as (Some d) G H to back reads reads' out out' (Err stop.NoMemory) h =
    record { read_faults = h.read_faults; out_faults = h.out_faults; front = record { gained = λ a is. h.front.gained a (back d a is) } }
works_as (Some d) G H to back reads reads' out out' (Err stop.ReadFault) h = h
works_as (Some d) G H to back reads reads' out out' (Err stop.WriteFault) h =
    record { read_faults = h.read_faults; out_faults = h.out_faults; front = record { gained = λ a is. h.front.gained a (back d a is) } }

pub on_as : (held : Option Directory) (G H : Directory → Question) → ((d : Directory) (a : Answer) → IsAnswer (G d) a → IsAnswer (H d) a) → ((d : Directory) (a : Answer) → IsAnswer (H d) a → IsAnswer (G d) a)
    → (May May' : Type 0) → (May → May') → (reads reads' : ℕ) (out out' : Port) (result : Result Ending Stop) → WorksOn (option_map G held) May reads reads' out out' result → WorksOn (option_map H held) May' reads reads' out out' result
on_as held G H to back May May' may reads reads' out out' result h = record {
  works = works_as held G H to back reads reads' out out' result h.works;
  status = h.status;
  fault = IfOk-weaker result (λ (e : Ending). e.status ≡ Fault → May) (λ (e : Ending). e.status ≡ Fault → May') (λ e f same. may (f same)) h.fault;
}

-- ---- what was not read

-- memory was wanted, or the files' count rose, before anything was written
pub stopped_on : (asked : Option Question) (MayFault : Type 0) (text : Option FileText) (reads reads' : ℕ) (out : Port) (reason : Stop) → Fetches text reads reads' (Err reason) → WorksOn asked MayFault reads reads' out out (Err reason)
stopped_on asked MayFault text reads reads' out stop.NoMemory h =
    record { works = record { read_faults = h; out_faults = refl; front = gains_nothing asked out.taken }; status = tt; fault = tt }
stopped_on asked MayFault text reads reads' out stop.ReadFault h =
    record { works = record { read_faults = h; out_faults = refl; nothing = Appends-nil out.taken }; status = tt; fault = tt }
stopped_on asked MayFault text reads reads' out stop.WriteFault h = absurd h
