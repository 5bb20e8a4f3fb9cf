-- How the work and the text on err come to an ending.
use Rattle.std.proofs.Common.{◌≡◌, ℕ, Option, None, Some, IfOk, Result, Ok, Err, sym, ◌∙◌, subst, inl, inr}
use Rattle.std.proofs.lemmas.Option.{IfSome_then}
use Rattle.std.specs.Io.KnownBytes.{Appends}
use Rattle.life_base.specs.Causes.{Rose}
use Rattle.life_base.specs.Edges.{AppendsFront, Directory}
use Rattle.life_cli.proofs.Fronts.{known_of, whole_front}
use Rattle.life_cli.proofs.Questions.{answer_then}
use Rattle.life_cli.specs.Ends.{Closes, Ends, EndsWell, GainsFront, GainsSomeText, Gives, IsReady, Port, Works, status_of, text_of}
use Rattle.life_cli.specs.Question.{AsksFor, NoJob, OfFile, OfMade, Question}
use Rattle.life_cli.specs.Status.{IsSettled}
use Rattle.life_cli.specs.Words.{Asked, Make, OnFile, Task}
use Rattle.life_cli.specs.declared.status.Status.{Status}
use Rattle.life_cli.specs.declared.status.Status.TheVariants.{NoMemory, ReadFault, WriteFault}
use Rattle.life_cli.specs.declared.stop.Stop.{Stop}
use Rattle.life_cli.specs.declared.stop.Stop.TheVariants as stop
use Rattle.life_cli.specs.declared.stop.Ending.{Ending}

module _ (asked : Option Question) (reads reads' : ℕ) (out out' err err' : Port) where
  settled_ends : (status : Status) → IsSettled status → EndsWell asked reads reads' out out' err err' status → Ends asked reads reads' out out' err err' status
  settled_ends NoMemory settled end = absurd settled
  settled_ends ReadFault settled end = absurd settled
  settled_ends WriteFault settled end = absurd settled
  settled_ends _ settled end = end

  ends_as : (status want : Status) → status ≡ want → Ends asked reads reads' out out' err err' want → Ends asked reads reads' out out' err err' status
  ends_as status want same h = subst (Ends asked reads reads' out out' err err') (sym same) h

  -- err's count rose
  cut_off : Rose err.faults err'.faults → GainsFront asked out.taken out'.taken → GainsSomeText asked reads reads' out out' err err' → Ends asked reads reads' out out' err err' WriteFault
  cut_off rose front text = record { front = front; text = inr (rose, text) }

  -- how the work went and how err was closed say how the command ended
  ends : (ended : Result Ending Stop) (status : Status) → Works asked reads reads' out out' ended
      → Closes err err' (text_of ended) (status_of ended) status → Ends asked reads reads' out out' err err' status
  ends (Ok ending) status work close = elim close.ends [
    | inl e ↦ ends_as status ending.status e.0 (settled_ends ending.status work.settled (record {
      read_faults = work.read_faults;
      out_faults = work.out_faults;
      err_faults = e.1;
      answer = answer_then asked (IsReady out out' ending) (Gives out out' err err' ending.status) work.answer (λ answer ready. record { status_is = ready.status_is; on_out = ready.on_out; on_err = subst (Appends err.taken err'.taken) ready.on_err e.2 });
    }))
    | inr e ↦ ends_as status WriteFault e.0 (cut_off e.1
        (record { gained = IfSome_then asked work.answer.each (λ q each answer is. whole_front _ _ _ (each answer is).on_out) })
        (record { gained = inl (IfSome_then asked work.answer.each (λ q each answer is. subst (AppendsFront err.taken err'.taken) (each answer is).on_err e.2), work.read_faults, work.out_faults) }))
  ]
  ends (Err stop.NoMemory) status work close = elim close.ends [
    | inl e ↦ ends_as status NoMemory e.0 (record { read_faults = work.read_faults; out_faults = work.out_faults; err_faults = e.1; front = work.front; text = e.2 })
    | inr e ↦ ends_as status WriteFault e.0 (cut_off e.1 work.front (record { gained = inr (inl (e.2, work.read_faults, work.out_faults)) }))
  ]
  ends (Err stop.ReadFault) status work close = elim close.ends [
    | inl e ↦ ends_as status ReadFault e.0 (record { read_faults = work.read_faults; out_faults = work.out_faults; err_faults = e.1; nothing = work.nothing; text = e.2 })
    | inr e ↦ ends_as status WriteFault e.0 (cut_off e.1 (record { gained = known_of asked (λ q answer is. (0, work.nothing)) }) (record { gained = inr (inr (inl (e.2, work.read_faults, work.out_faults))) }))
  ]
  ends (Err stop.WriteFault) status work close = elim close.ends [
    | inl e ↦ ends_as status WriteFault e.0 (record { front = work.front; text = inl (work.read_faults, work.out_faults, e.1, e.2) })
    | inr e ↦ ends_as status WriteFault e.0 (cut_off e.1 work.front (record { gained = inr (inr (inr (e.2, work.read_faults, work.out_faults))) }))
  ]

-- .. on whatever is asked
pub all_ends : (words : Option Task) (asked : Asked) (told : Option Directory) (reads reads' : ℕ) (out out' err err' : Port) (ended : Result Ending Stop) (status : Status) → AsksFor words asked told (λ question. Works question reads reads' out out' ended)
    → Closes err err' (text_of ended) (status_of ended) status → AsksFor words asked told (λ question. Ends question reads reads' out out' err err' status)
all_ends None asked told reads reads' out out' err err' ended status work close = record {
  reason = work.reason;
  is_told = work.is_told;
  is = ends (Some (NoJob work.reason)) reads reads' out out' err err' ended status work.is close;
}
all_ends (Some (OnFile job)) asked told reads reads' out out' err err' ended status work close = record {
  directory = work.directory;
  text = work.text;
  agrees = work.agrees;
  read = work.read;
  is = ends (Some (OfFile job work.directory work.text)) reads reads' out out' err err' ended status work.is close;
}
all_ends (Some (Make number size)) asked told reads reads' out out' err err' ended status work close =
    ends (Some (OfMade number size)) reads reads' out out' err err' ended status work close

-- what a settled status of the work tells, that of the command tells too
pub ends_settled : (err err' : Port) (settled : Status) {P : Type 0} (ended : Result Ending Stop) (status : Status) → IsSettled settled
    → IfOk ended (λ ending. ending.status ≡ settled → P) → Closes err err' (text_of ended) (status_of ended) status → status ≡ settled → P
ends_settled err err' settled ended status is told close same = elim close.ends [
  | inl e ↦ by_work ended told (sym e.0 ∙ same)
  | inr e ↦ absurd (subst IsSettled (sym (sym e.0 ∙ same)) is)
]
  where
    by_work : {P : Type 0} (ended : Result Ending Stop) → IfOk ended (λ ending. ending.status ≡ settled → P) → status_of ended ≡ settled → P
    by_work (Ok ending) told same = told same
    by_work (Err stop.NoMemory) told same = absurd (subst IsSettled (sym same) is)
    by_work (Err stop.ReadFault) told same = absurd (subst IsSettled (sym same) is)
    by_work (Err stop.WriteFault) told same = absurd (subst IsSettled (sym same) is)
