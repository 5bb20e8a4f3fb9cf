-- Which status an answer may have.
use Rattle.std.proofs.Common.{◌≡◌, ◌≤◌, ℕ, ℤ, Bool, true, false, cond, List, [], ◌∷◌, Option, None, Some, Result, Ok, Err, refl, sym, subst, arith}
use Rattle.std.specs.Prelude.{codes, nat_lt, length, slice_get}
use Rattle.std.proofs.lemmas.Bool.Decides.{nat_tests}
use Rattle.life_core.specs.Function.{Function, Program}
use Rattle.life_rules.specs.declared.diag.Diag.{Diag}
use Rattle.life_store.specs.Meaning as meaning
use Rattle.life_store.specs.Meaning.{IsAdmitted, Outcome}
use Rattle.life_store.specs.NoFault.{IsNoFault, NoFault}
use Rattle.life_cli.proofs.Admitted.{admitted}
use Rattle.life_cli.specs.Answer.{Answer}
use Rattle.life_cli.specs.Concluding.{verdict}
use Rattle.life_cli.specs.Entry.{Absent, Begins, Entry, NotValue, entry_at, entry_numbered, entry_of, function_number, may_begin}
use Rattle.life_cli.specs.InputFile.{Numbers, numbers_or}
use Rattle.life_cli.specs.Made.{SumsUp, default_options, summary}
use Rattle.life_cli.specs.Runs.{IsEnd, Ran, RanFrom, RanUnless, RanWith, ended_as, fault_end, run_with, setting_of, steps_end, trap_end, value_end, with_output}
use Rattle.life_cli.specs.Status.{IsFaultless, IsOfJob, IsSettled}
use Rattle.life_job.specs.declared.job.RunOptions.{RunOptions}
use Rattle.life_cli.specs.declared.status.Status.{Status}
use Rattle.life_cli.specs.declared.status.Status.TheVariants as status
use Rattle.life_cli.specs.declared.status.Status.TheVariants.{Fault, NoMemory, ReadFault, Usage, WriteFault}

-- a job's status; a fault of a run comes where it may
abbrev pub Fits : Type 0 → Status → Type 0
Fits MayFault s = IsOfJob s × (s ≡ Fault → MayFault)

pub settled_of_job : (s : Status) → IsOfJob s → IsSettled s
settled_of_job NoMemory is = absurd is
settled_of_job ReadFault is = absurd is
settled_of_job WriteFault is = absurd is
settled_of_job _ is = tt

of_faultless : (s : Status) → IsFaultless s → IsOfJob s
of_faultless Usage is = absurd is
of_faultless NoMemory is = absurd is
of_faultless ReadFault is = absurd is
of_faultless WriteFault is = absurd is
of_faultless _ is = tt

pub faultless_fits : (MayFault : Type 0) (s : Status) → IsFaultless s → Fits MayFault s
faultless_fits MayFault s is = (of_faultless s is, λ e. absurd (subst IsFaultless e is))

-- an answer that is another one
pub fits_as : (MayFault : Type 0) (a b : Answer) → a ≡ b → Fits MayFault b.status → Fits MayFault a.status
fits_as MayFault a b same fits = subst (λ (x : Answer). Fits MayFault x.status) (sym same) fits

pub verdict_faultless : (ds : List Diag) → IsFaultless (verdict ds)
verdict_faultless [] = tt
verdict_faultless (d ∷ ds) = tt

-- ---- inputs

-- a refusal of the input tells of no fault
abbrev pub IsInput : Numbers → Type 0
IsInput (Err refused) = IsFaultless refused.status
IsInput (Ok numbers) = Unit {0}

pub numbers_input : (r : Result (List ℤ) ℕ) → IsInput (numbers_or r)
numbers_input (Ok numbers) = tt
numbers_input (Err offset) = tt

-- ---- runs, of which a fault comes where the program isn't safe

module _ (p : Program) where
  end_fits : (steps : ℕ) (outcome : Outcome) (output : List ℕ) (a : Answer) → IsEnd output (ended_as steps outcome) a → (NoFault p → IsNoFault outcome) → Fits (NoFault p → ⊥) a.status
  end_fits steps (meaning.Ended value content) output a is safe = fits_as (NoFault p → ⊥) a (with_output output (value_end value)) is (faultless_fits (NoFault p → ⊥) status.Done tt)
  end_fits steps (meaning.Trap kind place) output a is safe = fits_as (NoFault p → ⊥) a (with_output output (trap_end kind place)) is (faultless_fits (NoFault p → ⊥) status.Trap tt)
  end_fits steps (meaning.Fault kind place) output a is safe = fits_as (NoFault p → ⊥) a (with_output output (fault_end kind place)) is (tt, λ e none. safe none)
  end_fits steps (meaning.OutOfSteps content) output a is safe = fits_as (NoFault p → ⊥) a (with_output output (steps_end steps)) is (faultless_fits (NoFault p → ⊥) status.Steps tt)
  end_fits steps meaning.Lost output a is safe = absurd is

  ran_fits : (options : RunOptions) (n : ℕ) (f : Function) (input : List ℤ) (a : Answer) → slice_get p.functions n ≡ Some f → IsAdmitted p f input → Ran options p n f input a → Fits (NoFault p → ⊥) a.status
  ran_fits options n f input a there enters is =
      end_fits options.steps (run_with options p n f input).outcome (run_with options p n f input).output a is (λ safe. safe (setting_of options) n f input options.steps there enters)

  -- the function of an entry is the program's, and a run may begin with it
  abbrev IsThere : Entry → Type 0
  IsThere Absent = Unit {0}
  IsThere NotValue = Unit {0}
  IsThere (Begins n f) = (slice_get p.functions n ≡ Some f) × (may_begin p.types f ≡ true)

  not_fewer : (a b : ℕ) → nat_lt a b ≡ false → b ≤ a
  not_fewer a b h = grind (arith, nat_tests)

  unless_fits : (few : Bool) (options : RunOptions) (n : ℕ) (f : Function) (input : List ℤ) (a : Answer) → nat_lt (length input) f.parameters ≡ few → IsThere (Begins n f) → RanUnless few options p n f input a
      → Fits (NoFault p → ⊥) a.status
  unless_fits true options n f input a test there is = fits_as (NoFault p → ⊥) a _ is (faultless_fits (NoFault p → ⊥) status.Input tt)
  unless_fits false options n f input a test there is = ran_fits options n f input a there.0 (admitted p f input there.1 (not_fewer (length input) f.parameters test)) is

  by_test : (b : Bool) (n : ℕ) (f : Function) → may_begin p.types f ≡ b → slice_get p.functions n ≡ Some f → IsThere (cond b (Begins n f) NotValue)
  by_test true n f may is = (is, may)
  by_test false n f may is = tt

  there_at : (n : ℕ) (o : Option Function) → slice_get p.functions n ≡ o → IsThere (entry_at p.types n o)
  there_at n None is = tt
  there_at n (Some f) is = by_test (may_begin p.types f) n f refl is

  there_numbered : (o : Option ℕ) → IsThere (entry_numbered p o)
  there_numbered None = tt
  there_numbered (Some n) = there_at n (slice_get p.functions n) refl

  from_fits : (options : RunOptions) (name : List ℕ) (input : List ℤ) (e : Entry) (a : Answer) → IsThere e → RanFrom options name p input e a → Fits (NoFault p → ⊥) a.status
  from_fits options name input Absent a there is = fits_as (NoFault p → ⊥) a _ is (faultless_fits (NoFault p → ⊥) status.Ill tt)
  from_fits options name input NotValue a there is = fits_as (NoFault p → ⊥) a _ is (faultless_fits (NoFault p → ⊥) status.Ill tt)
  from_fits options name input (Begins n f) a there is = unless_fits (nat_lt (length input) f.parameters) options n f input a refl there is

  pub run_fits : (options : RunOptions) (name : List ℕ) (numbers : Numbers) (a : Answer) → IsInput numbers → RanWith options name p numbers a → Fits (NoFault p → ⊥) a.status
  run_fits options name (Err refused) a good is = fits_as (NoFault p → ⊥) a refused is (faultless_fits (NoFault p → ⊥) refused.status good)
  run_fits options name (Ok input) a good is = from_fits options name input (entry_of p name) a (there_numbered (function_number p name)) is

  -- .. also where it is summed up
  pub summary_fits : (bytes : ℕ) (a : Answer) → SumsUp bytes p a → Fits (NoFault p → ⊥) a.status
  summary_fits bytes a is = fits_as (NoFault p → ⊥) a (summary bytes p is.ran) is.is (run_fits default_options (codes "main") (Ok []) is.ran tt is.is_run)
