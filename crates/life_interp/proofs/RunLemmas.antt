-- The run of the meaning is the walk from the entry on.
use Rattle.std.proofs.Common.{◌≡◌, ℕ, zero, suc, ◌+◌, ◌-◌, ◌≤◌, ◌<◌, List, [], ◌∷◌, drop, length, Option, Some, None, IsSome, IfSome, refl, sym, ap, subst, ◌∙◌, arith}
use Rattle.std.proofs.lemmas.List.{drop_more}
use Rattle.std.specs.Prelude.{ℤ, get_or, pos, slice_get}
use Rattle.life_base.specs.Edges.{AppendsFront}
use Rattle.life_types.specs.declared.place.Place.{Place}
use Rattle.life_types.specs.Types.{Types}
use Rattle.life_core.specs.declared.exits.Entry.{Entry}
use Rattle.life_core.specs.declared.exits.Entry.TheVariants as entries
use Rattle.life_core.specs.Function.{Function, Program}
use Rattle.life_core.specs.Linked.{enter, entry_of, no_exits, target_of}
use Rattle.life_core_served.specs.ProperPrograms.{IsProperProgram}
use Rattle.life_core_served.proofs.PointsAsked.{proper_functions}
use Rattle.life_store.specs.Calls.{entry_arguments, parameters_given}
use Rattle.life_store.specs.Content.{Content, empty_content}
use Rattle.life_store.specs.Doing.{Given, Effect, Next, Traps, Faults, Strays, as_long, converted, type_of}
use Rattle.life_store.specs.Meaning.{Ended, Trapped, Faulted, Stray, Exhausted, Called, Back, Barred, Quit, begun, calls, entered, exec, finish, first_called, first_world, frame, run_from, run_of, setting_of, IsAdmitted, IsFound, Run}
use Rattle.life_store.specs.State as state
use Rattle.life_store.specs.State.{State, World}
use Rattle.life_store.specs.declared.run.FaultKind.{FaultKind}
use Rattle.life_store.specs.declared.run.TrapKind.{TrapKind}
use Rattle.life_store.specs.declared.run.TrapKind.TheVariants as trap
use Rattle.life_cells.specs.Cells.{state_of}
use Rattle.life_interp.specs.Cells.{world_of}
use Rattle.life_interp.specs.Frames.{function_at, stack_seen, AllBegin}
use Rattle.life_interp.specs.Runs.{barred_as, IsBarred, RunEnds, TakesFront}
use Rattle.life_interp.specs.Sound.{AreSound}
use Rattle.life_interp.specs.Steps.{TellsEnd}
use Rattle.life_interp.specs.Walk.{walk}
use Rattle.life_interp.specs.Walking.{from, output_of, IsSoundWalk, Sunk, Takes, TakesPart, WalkEnds}
use Rattle.life_interp.specs.declared.ending.Ending.{Ending}
use Rattle.life_interp.specs.declared.ending.Ending.TheVariants as ending
use Rattle.life_interp.specs.declared.ending.Halt.TheVariants as halt
use Rattle.life_interp.specs.declared.frames.Frames.{Frames}
use Rattle.life_interp.specs.declared.frames.Waiting.{Waiting}
use Rattle.life_interp.specs.declared.outcome.Outcome.TheVariants as outcome
use Rattle.life_interp.proofs.CodeLists.{function_there}
use Rattle.life_interp.proofs.SoundEntry.{first_sound}
use Rattle.life_interp.proofs.SoundPrograms.{never_lost}
use Rattle.life_interp.proofs.SoundSteps.{with_ports}
use Rattle.life_interp.proofs.Walks.{calls_come, ends_alone, AreStatements, EndsAs}

-- ---- the beginning

not_some : IsSome (let nothing : Option ℕ = None in nothing) → ⊥
not_some e = cc

-- control enters a proper body by its first point
enters_first : (e : Entry) → IsSome (target_of e 1 no_exits) → target_of e 1 no_exits ≡ Some 1
enters_first entries.First h = refl
enters_first entries.Next h = absurd (not_some h)
enters_first entries.Break h = absurd (not_some h)
enters_first entries.Continue h = absurd (not_some h)

pub all_begin : (p : Program) → IsProperProgram p → AllBegin p.functions
all_begin p proper n g there = enters_first (entry_of g.body) (proper_functions p proper n g there).ready.begins

all_statements : (p : Program) → IsProperProgram p → AreStatements p.functions
all_statements p proper n f there = (proper_functions p proper n f there).ready.statement

-- what holds of the entry
pub if_there : (fs : List Function) (i : ℕ) (f : Function) (P : Function → Type 0) → slice_get fs i ≡ Some f → P f → IfSome (slice_get fs i) P
if_there fs i f P there h = subst (λ o. IfSome o P) (sym there) h

pub of_there : (fs : List Function) (i : ℕ) (f : Function) (P : Function → Type 0) → slice_get fs i ≡ Some f → IfSome (slice_get fs i) P → P f
of_there fs i f P there h = subst (λ o. IfSome o P) there h

-- ---- the run

-- where no step strayed, the machine ends as the function does
same_end : (place : Place) (before : World) (r c : Called) → EndsAs r c → IsFound (run_from place before r).outcome → c ≡ r
same_end place before (Back n w values) c h found = h
same_end place before (Barred kind) c h found = h
same_end place before (Quit (Trapped kind at) w) c h found = h
same_end place before (Quit (Faulted kind at) w) c h found = h
same_end place before (Quit Stray w) c h found = absurd found
same_end place before (Quit Exhausted w) c h found = h

pub written_is : (place : Place) (before : World) (c : Called) → before.output ≡ [] → (run_from place before c).output ≡ output_of c
written_is place before (Back n w values) e = refl
written_is place before (Barred kind) e = e
written_is place before (Quit stop w) e = refl

-- nothing was written
nothing_front : (k : Sunk) (text : List ℕ) → Takes k [] → TakesFront k text
nothing_front k text t = record { taken = (0, t.taken); quiet = t.quiet }

module _ (given : Given) (p : Program) (entry : ℕ) (f : Function) (input : List ℤ) (n : ℕ) (proper : IsProperProgram p) (there : slice_get p.functions entry ≡ Some f) (admitted : IsAdmitted p f input) where
  abbrev first : World
  first = first_world f input

  abbrev run : Run
  run = run_of given p entry f input n

  abbrev arguments : List state.Cell
  arguments = entry_arguments p.types f 0 f.parameters input

  -- the cells of the entry
  abbrev begins : Effect
  begins = parameters_given (setting_of given p) p.types f 0 arguments (frame f first)

  abbrev body : ℕ → State → Called
  body d st = finish p.types f (exec (setting_of given p) p.types f (calls (setting_of given p) p d) f.body n st)

  called_is : (d : ℕ) → given.depth ≡ suc d → first_called given p entry f input n ≡ begun begins first (body d)
  called_is d e =
      ap (λ k. calls (setting_of given p) p k entry arguments n first) e
      ∙ ap (λ o. entered (setting_of given p) p.types o (calls (setting_of given p) p d) arguments n first) there

  -- where the entry isn't let in
  barred_run : 1 ≤ given.depth → (e : Effect) (c : Called) → begins ≡ e → ((go : State → Called) → begun e first go ≡ c) → run ≡ run_from f.place first c
  barred_run le e c is same = go given.depth refl le
    where
      go : (d : ℕ) → given.depth ≡ d → 1 ≤ d → run ≡ run_from f.place first c
      go zero eq l = absurd (omega (arith, l))
      go (suc d) eq l = ap (run_from f.place first) (called_is d eq ∙ ap (λ x. begun x first (body d)) is ∙ same (body d))

  found_as : (r : Run) → run ≡ r → IsFound r.outcome
  found_as r e = subst (λ (x : Run). IsFound x.outcome) e (never_lost p given entry f input n proper there admitted)

  -- .. it is for want of memory, or for a trap
  barred_so : 1 ≤ given.depth → (x : Ending) → TellsEnd begins x → IsBarred x
  barred_so le (ending.Trap kind) h = tt
  barred_so le (ending.Fault kind) h = found_as _ (barred_run le (Faults kind) (Quit Stray first) h (λ go. refl))
  barred_so le ending.Stray h = found_as _ (barred_run le Strays (Quit Stray first) h (λ go. refl))
  barred_so le ending.NoMemory h = tt
  barred_so le ending.WriteFault h = h

  ends_barred : 1 ≤ given.depth → (x : Ending) → TellsEnd begins x → (k : Sunk) → Takes k [] → RunEnds run k (barred_as f.place x)
  ends_barred le (ending.Trap kind) h k t =
      let full = barred_run le (Traps kind) (Barred kind) h (λ go. refl) in
      (subst (Takes k) (sym (ap (λ (x : Run). x.output) full)) t, ap (λ (x : Run). x.outcome) full)
  ends_barred le (ending.Fault kind) h k t = nothing_front k run.output t
  ends_barred le ending.Stray h k t = nothing_front k run.output t
  ends_barred le ending.NoMemory h k t = nothing_front k run.output t
  ends_barred le ending.WriteFault h k t = nothing_front k run.output t

  module _ (le : 1 ≤ given.depth) (c : Content) (empty : c ≡ empty_content) (x : Ending)
      (h : (output : List ℕ) (ins : List ℤ) → TellsEnd (parameters_given (setting_of given p) p.types f 0 arguments (frame f (world_of c output ins))) x) where
    tells : TellsEnd begins x
    tells =
        subst (λ (d : Content). TellsEnd (parameters_given (setting_of given p) p.types f 0 arguments (frame f (world_of d [] (drop f.parameters input)))) x) empty (h [] (drop f.parameters input))

    pub can_be_barred : IsBarred x
    can_be_barred = barred_so le x tells

    pub barred_ends : (k : Sunk) → Takes k [] → RunEnds run k (barred_as f.place x)
    barred_ends k t = ends_barred le x tells k t

  -- a run whose entry is let in is the walk from its first point on
  run_walks : (st : State) → 1 ≤ given.depth → begins ≡ Next st → run ≡ run_from f.place first (walk (setting_of given p) p n [] f (Some 1) st)
  run_walks st le is = go given.depth refl le
    where
      go : (d : ℕ) → given.depth ≡ d → 1 ≤ d → run ≡ run_from f.place first (walk (setting_of given p) p n [] f (Some 1) st)
      go zero eq l = absurd (omega (arith, l))
      go (suc d) eq l =
          let s = setting_of given p in
          let all = all_statements p proper in
          let same = ap (run_from f.place first) (called_is d eq ∙ ap (λ x. begun x first (body d)) is) in
          let ends = ends_alone s p [] f (calls s p d) (calls_come s p all d [] (omega (arith, eq))) (all entry f there) refl n st in
          let walked = same_end f.place first (body d st) _ ends (found_as _ same) in
          same
          ∙ ap (run_from f.place first) (sym walked)
          ∙ ap (λ to. run_from f.place first (walk s p n [] f to st)) (all_begin p proper entry f there)

  -- .. as the machine begins it
  pub run_from_frames : (frames : Frames) (c d : Content) (taken : ℕ) → 1 ≤ given.depth → frames.function ≡ entry → frames.point ≡ Some 1 → frames.waiting.items ≡ [] → taken ≡ f.parameters → c ≡ empty_content
      → ((output : List ℕ) (ins : List ℤ) → parameters_given (setting_of given p) p.types f 0 arguments (frame f (world_of c output ins)) ≡ Next (state_of d frames.cells.items output ins))
      → run ≡ run_from f.place first (from p.functions frames d (drop taken input) (walk (setting_of given p) p n) n [])
  run_from_frames frames c d taken le function point waiting count empty let_in =
      let s = setting_of given p in
      let st = λ (k : ℕ). state_of d frames.cells.items [] (drop k input) in
      let is = subst (λ (x : Content). parameters_given s p.types f 0 arguments (frame f (world_of x [] (drop f.parameters input))) ≡ Next (st f.parameters)) empty (let_in [] (drop f.parameters input)) in
      let here = function_there p.functions entry f there in
      run_walks (st f.parameters) le is
      ∙ ap (λ (k : ℕ). run_from f.place first (walk s p n [] f (Some 1) (st k))) (sym count)
      ∙ ap (λ (to : Option ℕ). run_from f.place first (walk s p n [] f to (st taken))) (sym point)
      ∙ ap (λ (g : Function). run_from f.place first (walk s p n [] g frames.point (st taken))) (sym (ap (function_at p.functions) function ∙ here))
      ∙ ap (λ (ws : List Waiting). run_from f.place first (walk s p n (stack_seen p.functions ws) (function_at p.functions frames.function) frames.point (st taken))) (sym waiting)

  -- its frame is sound
  pub begins_sound : (frames : Frames) (c d : Content) → frames.function ≡ entry → frames.point ≡ Some 1 → frames.waiting.items ≡ [] → c ≡ empty_content
      → ((output : List ℕ) (ins : List ℤ) → parameters_given (setting_of given p) p.types f 0 arguments (frame f (world_of c output ins)) ≡ Next (state_of d frames.cells.items output ins)) → IsSoundWalk p frames d
  begins_sound frames c d function point waiting empty let_in =
      let s = setting_of given p in
      let st = state_of d frames.cells.items [] (drop f.parameters input) in
      let is = subst (λ (x : Content). parameters_given s p.types f 0 arguments (frame f (world_of x [] (drop f.parameters input))) ≡ Next st) empty (let_in [] (drop f.parameters input)) in
      let first = with_ports p [] f (enter f.body 1 no_exits) st [] [] (first_sound p entry f input proper there admitted s st is) in
      subst (λ (ws : List Waiting). AreSound p (stack_seen p.functions ws) (function_at p.functions frames.function) frames.point (state_of d frames.cells.items [] [])) (sym waiting)
      (subst (λ (g : Function). AreSound p [] g frames.point (state_of d frames.cells.items [] [])) (sym (ap (function_at p.functions) function ∙ function_there p.functions entry f there))
      (subst (λ (to : Option ℕ). AreSound p [] f to (state_of d frames.cells.items [] [])) (all_begin p proper entry f there ∙ sym point) first))

  -- no frame at all fits the entry
  pub too_deep : given.depth ≡ 0 → (k : Sunk) → Takes k [] → RunEnds run k (outcome.Trap trap.Depth f.place)
  too_deep e k t =
      let full : run ≡ run_from f.place first (Barred trap.Depth) = ap (λ d. run_from f.place first (calls (setting_of given p) p d entry arguments n first)) e in
      (subst (Takes k) (sym (ap (λ (x : Run). x.output) full)) t, ap (λ (x : Run). x.outcome) full)

-- ---- outcomes

module _ (run : Run) (place : Place) (before : World) (c : Called) (r : run ≡ run_from place before c) (k : Sunk) where
  pub value_ends : (z : ℤ) → WalkEnds c k (halt.Returned z) → RunEnds run k (outcome.Value z)
  value_ends z h =
      let full = r ∙ ap (run_from place before) h.5 in
      (subst (Takes k) (sym (ap (λ (x : Run). x.output) full)) h.3, (h.1.content, ap (λ (x : Run). x.outcome) full ∙ ap (λ y. Ended y h.1.content) (sym h.4)))

  pub trap_ends : (kind : TrapKind) (at : Place) → WalkEnds c k (halt.Trap kind at) → RunEnds run k (outcome.Trap kind at)
  trap_ends kind at h =
      let full = r ∙ ap (run_from place before) h.2 in
      (subst (Takes k) (sym (ap (λ (x : Run). x.output) full)) h.1, ap (λ (x : Run). x.outcome) full)

  pub fault_ends : (kind : FaultKind) (at : Place) → WalkEnds c k (halt.Fault kind at) → RunEnds run k (outcome.Fault kind at)
  fault_ends kind at h =
      let full = r ∙ ap (run_from place before) h.2 in
      (subst (Takes k) (sym (ap (λ (x : Run). x.output) full)) h.1, ap (λ (x : Run). x.outcome) full)

  pub steps_end : WalkEnds c k halt.OutOfSteps → RunEnds run k outcome.OutOfSteps
  steps_end h =
      let full = r ∙ ap (run_from place before) h.2 in
      (subst (Takes k) (sym (ap (λ (x : Run). x.output) full)) h.1, (h.0.content, ap (λ (x : Run). x.outcome) full))

  pub part_ends : before.output ≡ [] → WalkEnds c k halt.WriteFault → RunEnds run k outcome.WriteFault
  part_ends e h = subst (TakesPart k) (sym (ap (λ (x : Run). x.output) r ∙ written_is place before c e)) h

  pub front_ends : before.output ≡ [] → WalkEnds c k halt.NoMemory → RunEnds run k outcome.NoMemory
  front_ends e h = record { taken = subst (AppendsFront k.old k.new) (sym (ap (λ (x : Run). x.output) r ∙ written_is place before c e)) h.0; quiet = h.1 }

  pub not_lost : WalkEnds c k halt.Stray → IsFound run.outcome → ⊥
  not_lost h found = subst (λ (x : Run). IsFound x.outcome) (r ∙ ap (run_from place before) h.1) found

-- ---- the entry's arguments

-- a number of the input is an argument
pub one_argument : (types : Types) (f : Function) (x n : ℕ) (input : List ℤ) → x < n → x < length input
    → entry_arguments types f x (n - x) (drop x input)
    ≡ state.Number (converted (type_of types f x) (as_long (get_or input x (pos 0)))) ∷ entry_arguments types f (x + 1) (n - (x + 1)) (drop (x + 1) input)
one_argument types f x n input lt within =
    let k : n - x ≡ suc (n - (x + 1)) = omega (arith, lt) in
    ap (λ m. entry_arguments types f x m (drop x input)) k
    ∙ ap (λ (zs : List ℤ). entry_arguments types f x (suc (n - (x + 1))) zs) (drop_more input x (pos 0) within)
