-- The machine's runs, told.
use Rattle.std.proofs.Common.{◌≡◌, ◌≤◌, ◌<◌, ℕ, ℤ, Bool, true, false, List, Option, None, Some, Result, Ok, Err, IfSome, length, slice_get, refl, sym, ap, subst, ◌∙◌, arith}
use Rattle.std.specs.Prelude.{codes, nat_lt}
use Rattle.std.proofs.lemmas.Bool.Decides.{nat_tests}
use Rattle.std.proofs.lemmas.Option.{IfSome_then, slice_get_within}
use Rattle.life_base.specs.Edges.{AppendsFront}
use Rattle.life_core.specs.Function.{Function, Program}
use Rattle.life_core.specs.declared.program.FnId.{FnId}
use Rattle.life_interp.specs.Runs.{RunEnds}
use Rattle.life_interp.specs.Walking.{Sunk, Takes}
use Rattle.life_interp.specs.declared.outcome.Outcome.{Outcome}
use Rattle.life_interp.specs.declared.outcome.Outcome.TheVariants as outcome
use Rattle.life_store.specs.Meaning as meaning
use Rattle.life_store.specs.Meaning.{IsAdmitted}
use Rattle.life_cli.proofs.Admitted.{admitted}
use Rattle.life_cli.proofs.Fronts.{whole_front}
use Rattle.life_cli.proofs.Served.{text_serves}
use Rattle.life_cli.specs.Answer.{Answer, line}
use Rattle.life_cli.specs.Ends.{Port, Serves, ServesFront, Tells}
use Rattle.life_cli.specs.Entry.{Absent, Entry, IsEntry, NotValue}
use Rattle.life_cli.specs.Runs.{IsEnd, Ran, RanFrom, RanUnless, ended_as, entry_text, fault_end, run_with, steps_end, trap_end, value_end, with_output}
use Rattle.life_cli.specs.Told.{TellsRun}
use Rattle.life_cli.specs.declared.entry.Entry.TheVariants as found
use Rattle.life_job.specs.declared.job.RunOptions.{RunOptions}
use Rattle.life_cli.specs.declared.status.Status.{Status}
use Rattle.life_cli.specs.declared.status.Status.TheVariants as status
use Rattle.life_cli.specs.declared.stop.Ending.{Ending}
use Rattle.life_cli.specs.declared.stop.Stop.{Stop}
use Rattle.life_cli.specs.declared.stop.Stop.TheVariants as stop

is_less : (a b : ℕ) → a < b → nat_lt a b ≡ true
is_less a b h = grind (arith, nat_tests)

is_not_less : (a b : ℕ) → b ≤ a → nat_lt a b ≡ false
is_not_less a b h = grind (arith, nat_tests)

-- ---- how a run ends

abbrev sunk : Port → Port → Sunk
sunk out out' = record { old = out.taken; new = out'.taken; faults = out.faults; later = out'.faults }

output_of : (output : List ℕ) (end : Option (Status × List ℕ)) (a : Answer) → IsEnd output end a → output ≡ a.out
output_of output None a is = absurd is
output_of output (Some ended) a is = subst (λ (b : Answer). output ≡ b.out) (sym is) refl

module _ (options : RunOptions) (p : Program) (n : ℕ) (f : Function) (input : List ℤ) (out out' : Port) where
  run : meaning.Run
  run = run_with options p n f input

  such : (a : Answer) → Ran options p n f input a → run.output ≡ a.out
  unfolding run
  such a is = output_of (run_with options p n f input).output (ended_as options.steps (run_with options p n f input).outcome) a is

  fronts : AppendsFront out.taken out'.taken run.output → ServesFront (Ran options p n f input) out out'
  fronts front a is = subst (AppendsFront out.taken out'.taken) (such a is) front

  ended : (end : Status × List ℕ) (result : Result Ending Stop) → ended_as options.steps run.outcome ≡ Some end → Takes (sunk out out') run.output → Tells end.0 end.1 result → Serves (Ran options p n f input) out out' result
  unfolding run
  ended end (Ok ending) is takes tells = record {
    out_faults = takes.quiet;
    answer = with_output run.output end;
    is_such = subst (λ o. IsEnd run.output o (with_output run.output end)) (sym is) refl;
    ready = record { status_is = tells.0; on_out = takes.taken; on_err = tells.1 };
  }
  ended end (Err stop.NoMemory) is takes tells = record { out_faults = takes.quiet; front = fronts (whole_front out.taken out'.taken run.output takes.taken) }
  ended end (Err stop.ReadFault) is takes tells = absurd tells
  ended end (Err stop.WriteFault) is takes tells = absurd tells

  pub run_told : (o : Outcome) (result : Result Ending Stop) → RunEnds (run_with options p n f input) (sunk out out') o → TellsRun options.steps o result → Serves (Ran options p n f input) out out' result
  unfolding run
  run_told (outcome.Value z) result ends tells = ended (value_end z) result (ap (ended_as options.steps) ends.1.1) ends.0 tells
  run_told (outcome.Trap kind place) result ends tells = ended (trap_end kind place) result (ap (ended_as options.steps) ends.1) ends.0 tells
  run_told (outcome.Fault kind place) result ends tells = ended (fault_end kind place) result (ap (ended_as options.steps) ends.1) ends.0 tells
  run_told outcome.OutOfSteps result ends tells = ended (steps_end options.steps) result (ap (ended_as options.steps) ends.1.1) ends.0 tells
  run_told outcome.WriteFault result ends tells = rw tells (record { out_faults = ends.rose; front = fronts ends.taken })
  run_told outcome.NoMemory result ends tells = rw tells (record { out_faults = ends.quiet; front = fronts ends.taken })

-- .. of the function with a number
pub runs_told : (options : RunOptions) (p : Program) (n : ℕ) (input : List ℤ) (out out' : Port) (o : Outcome) (result : Result Ending Stop)
    → IfSome (slice_get p.functions n) (λ f. RunEnds (run_with options p n f input) (sunk out out') o) → TellsRun options.steps o result
    → IfSome (slice_get p.functions n) (λ f. Serves (Ran options p n f input) out out' result)
runs_told options p n input out out' o result ends tells = IfSome_then (slice_get p.functions n) ends (λ f here. run_told options p n f input out out' o result here tells)

-- ---- from an entry

module _ (options : RunOptions) (name : List ℕ) (p : Program) (input : List ℤ) (entry : Entry) (out : Port) where
  -- which is none
  pub absent_serves : (told : Result Ending Stop) → entry ≡ Absent → Tells status.Ill (entry_text name (codes "absent")) told → Serves (RanFrom options name p input entry) out out told
  absent_serves told is tells = subst (λ e. Serves (RanFrom options name p input e) out out told) (sym is)
      (text_serves (RanFrom options name p input Absent) status.Ill (line (entry_text name (codes "absent"))) out told refl tells)

  pub no_value_serves : (told : Result Ending Stop) → entry ≡ NotValue → Tells status.Ill (entry_text name (codes "not a value")) told → Serves (RanFrom options name p input entry) out out told
  no_value_serves told is tells = subst (λ e. Serves (RanFrom options name p input e) out out told) (sym is)
      (text_serves (RanFrom options name p input NotValue) status.Ill (line (entry_text name (codes "not a value"))) out told refl tells)

  -- a function, with its number of parameters
  module _ (number : FnId) (parameters : ℕ) (begins : IsEntry p entry (found.Begins number parameters)) where
    unless : (few : Bool) → nat_lt (length input) parameters ≡ few → (out' : Port) (result : Result Ending Stop) → Serves (RanUnless few options p number.0 begins.0 input) out out' result → Serves (RanFrom options name p input entry) out out' result
    unless few test out' result serves =
        subst (λ e. Serves (RanFrom options name p input e) out out' result) (sym begins.1.0)
        (subst (λ b. Serves (RanUnless b options p number.0 begins.0 input) out out' result) (sym (ap (nat_lt (length input)) begins.1.1.1.0 ∙ test)) serves)

    pub few_serve : (told : Result Ending Stop) → length input < parameters → Tells status.Input (codes "input: too few numbers") told → Serves (RanFrom options name p input entry) out out told
    few_serve told few tells =
        unless true (is_less (length input) parameters few) out told
        (text_serves (RanUnless true options p number.0 begins.0 input) status.Input (line (codes "input: too few numbers")) out told refl tells)

    pub enough_serve : (out' : Port) (result : Result Ending Stop) → parameters ≤ length input → IfSome (slice_get p.functions number.0) (λ f. Serves (Ran options p number.0 f input) out out' result)
        → Serves (RanFrom options name p input entry) out out' result
    enough_serve out' result enough serves =
        unless false (is_not_less (length input) parameters enough) out' result
        (subst (λ o. IfSome o (λ f. Serves (Ran options p number.0 f input) out out' result)) begins.1.1.0 serves)

    pub is_within : number.0 < length p.functions
    is_within = slice_get_within p.functions number.0 begins.0 begins.1.1.0

    -- the run may begin with it
    pub begins_admitted : parameters ≤ length input → IfSome (slice_get p.functions number.0) (λ f. IsAdmitted p f input)
    begins_admitted enough =
        subst (λ o. IfSome o (λ f. IsAdmitted p f input)) (sym begins.1.1.0)
        (admitted p begins.0 input begins.1.1.1.1 (subst (λ k. k ≤ length input) (sym begins.1.1.1.0) enough))
