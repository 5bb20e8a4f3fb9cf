-- What a function and a program do with so many steps.
use Rattle.std.specs.Prelude.{◌≡◌, ◌≤◌, ℕ, ℤ, pos, zero, suc, Bool, true, false, IsTrue, List, [], ◌∷◌, Option, Some, None, drop, length, map, slice_get}
use Rattle.life_types.specs.Types.{Types}
use Rattle.life_types.specs.declared.place.Place.{Place}
use Rattle.life_types.specs.declared.ty.Ty.{Ty}
use Rattle.life_types.specs.declared.ty.Ty.TheVariants as ty
use Rattle.life_core.specs.declared.program.Local.{Local}
use Rattle.life_core.specs.Function.{Function, Program}
use Rattle.life_core.specs.Operands.{Argument, Location}
use Rattle.life_core.specs.Holdings.{Holding, AnObject, parameter_sorts}
use Rattle.life_core.specs.Step.{Step, Call, Test, NonZero, NotNull}
use Rattle.life_core.specs.Tree.{Tree, Skip, Then, Acts, Asks, Both, Either, Negated, Choice, Turns, Breaks, Continues, Returns, Stops}
use Rattle.life_store.specs.Content.{Content, empty_content}
use Rattle.life_store.specs.Calls.{all_handed, entry_arguments, lent, parameters_given, results, taken_back}
use Rattle.life_store.specs.Doing.{Given, Setting, Effect, Next, Traps, Faults, Strays, does, cell, member_cell, owned_pointer}
use Rattle.life_store.specs.Edits.{owned_at}
use Rattle.life_store.specs.Parts.{Parts, Unique, local_type, location_parts, word_within}
use Rattle.life_store.specs.State.{Pointer, Null, Wild, To, Static, Cell, Empty, Named, Number, Points, World, State}
use Rattle.life_store.specs.declared.run.FaultKind.{FaultKind}
use Rattle.life_store.specs.declared.run.TrapKind.{TrapKind}
use Rattle.life_store.specs.declared.run.TrapKind.TheVariants as trap

-- ---- what ends a run early, and what a statement answers

-- a stray step is one that no proper program takes; with no step left a run is exhausted
pub data Stop : Type 0 where
  Trapped : TrapKind → Place → Stop
  Faulted : FaultKind → Place → Stop
  Stray : Stop
  Exhausted : Stop

-- where control goes, with the steps that are left and the state; a stop keeps the world as it was before the point
pub data Answer : Type 0 where
  Normal : ℕ → State → Answer
  Broke : ℕ → State → Answer
  Continued : ℕ → State → Answer
  Returned : ℕ → State → Answer
  Stopped : Stop → World → Answer

-- what a condition answers
pub data Verdict : Type 0 where
  Holds : ℕ → State → Verdict
  Fails : ℕ → State → Verdict
  Cut : Stop → World → Verdict

-- what a call answers: the world, and the values that it gives back; or it is trapped before its first step, where it is called
pub data Called : Type 0 where
  Back : ℕ → World → List Cell → Called
  Barred : TrapKind → Called
  Quit : Stop → World → Called

-- a call by the function's number, its arguments, and the steps that are left
abbrev pub Callee : Type 0
Callee = ℕ → List Cell → ℕ → World → Called

-- ---- one point

abbrev pub paid : Place → World → Effect → ℕ → Answer
paid place before (Next st) n = Normal n st
paid place before (Traps kind) n = Stopped (Trapped kind place) before
paid place before (Faults kind) n = Stopped (Faulted kind place) before
paid place before Strays n = Stopped Stray before

-- after a call: the world is as it left it, and its result goes to the target
abbrev pub with_world : World → State → State
with_world w st = record st { world = w }

abbrev pub came_back : Setting → Types → Function → Place → Option Location → List Argument → State → Called → Answer
came_back s types f place target xs st (Back n w values) = paid place w (taken_back s types f target xs values (with_world w (lent types f xs st))) n
came_back s types f place target xs st (Barred kind) = Stopped (Trapped kind place) st.world
came_back s types f place target xs st (Quit stop w) = Stopped stop w

abbrev pub call_with : Callee → ℕ → Option (List Cell) → ℕ → World → Called
call_with call g None n w = Quit Stray w
call_with call g (Some xs) n w = call g xs n w

-- an instruction that has been paid for
abbrev pub act : Setting → Types → Function → Callee → Place → Step → ℕ → State → Answer
act s types f call place (Call target g xs) n st = came_back s types f place target xs st (call_with call g.0 (all_handed types f st xs) n (lent types f xs st).world)
act s types f call place i n st = paid place st.world (does s types f i st) n

abbrev pub perform : Setting → Types → Function → Callee → Place → Step → ℕ → State → Answer
perform s types f call place i zero st = Stopped Exhausted st.world
perform s types f call place i (suc n) st = act s types f call place i n st

abbrev pub by_number : ℤ → ℕ → State → Verdict
by_number (pos zero) n st = Fails n st
by_number _ n st = Holds n st

abbrev pub by_pointer : Pointer → ℕ → State → Verdict
by_pointer Null n st = Fails n st
by_pointer Wild n st = Holds n st
by_pointer (To t) n st = Holds n st
by_pointer (Static c) n st = Holds n st

abbrev pub number_test : Option Cell → ℕ → State → Verdict
number_test None n st = Cut Stray st.world
number_test (Some Empty) n st = Cut Stray st.world
number_test (Some (Named m)) n st = Cut Stray st.world
number_test (Some (Number z)) n st = by_number z n st
number_test (Some (Points p)) n st = Cut Stray st.world

abbrev pub pointer_test : Option Cell → ℕ → State → Verdict
pointer_test None n st = Cut Stray st.world
pointer_test (Some Empty) n st = Cut Stray st.world
pointer_test (Some (Named m)) n st = Cut Stray st.world
pointer_test (Some (Number z)) n st = Cut Stray st.world
pointer_test (Some (Points p)) n st = by_pointer p n st

-- a unique_ptr is null where it owns nothing
abbrev pub owner_tested : Content → (object word : ℕ) → Option Cell
owner_tested c n w = Some (Points (owned_pointer c (owned_at c (record { object = n; index = 0; word = w }))))

abbrev pub member_tested : Types → Function → Location → Parts → Option Cell → Content → Option Cell
member_tested types f l (Unique ty target) (Some (Named n)) c = owner_tested c n (word_within types (local_type types f l.local) l.members)
member_tested types f l _ v c = member_cell types f l.local l.members v c

abbrev pub whole_tested : Option Cell → Content → Option Cell
whole_tested None c = None
whole_tested (Some Empty) c = Some Empty
whole_tested (Some (Named n)) c = owner_tested c n 0
whole_tested (Some (Number z)) c = Some (Number z)
whole_tested (Some (Points p)) c = Some (Points p)

abbrev pub tested : Types → Function → Location → List ℕ → Option Cell → Content → Option Cell
tested types f l [] v c = whole_tested v c
tested types f l (m ∷ ms) v c = member_tested types f l (location_parts types f l) v c

abbrev pub test_at : Types → Function → Test → ℕ → State → Verdict
test_at types f (NonZero r) n st = number_test (cell st r) n st
test_at types f (NotNull p) n st = pointer_test (tested types f p p.members (cell st p.local) st.world.content) n st

abbrev pub ask : Types → Function → Test → ℕ → State → Verdict
ask types f t zero st = Cut Exhausted st.world
ask types f t (suc n) st = test_at types f t n st

abbrev pub leave : ℕ → State → Answer
leave zero st = Stopped Exhausted st.world
leave (suc n) st = Returned n st

-- an assertion that doesn't hold
abbrev pub stop_at : Place → ℕ → State → Answer
stop_at place zero st = Stopped Exhausted st.world
stop_at place (suc n) st = Stopped (Trapped trap.Assert place) st.world

-- ---- ways of going on

abbrev pub then_do : Answer → (ℕ → State → Answer) → Answer
then_do (Normal n st) go = go n st
then_do (Broke n st) go = Broke n st
then_do (Continued n st) go = Continued n st
then_do (Returned n st) go = Returned n st
then_do (Stopped s w) go = Stopped s w

-- statements before a condition
abbrev pub then_ask : Answer → (ℕ → State → Verdict) → Verdict
then_ask (Normal n st) go = go n st
then_ask (Broke n st) go = Cut Stray st.world
then_ask (Continued n st) go = Cut Stray st.world
then_ask (Returned n st) go = Cut Stray st.world
then_ask (Stopped s w) go = Cut s w

abbrev pub choose : Verdict → (ℕ → State → Answer) → (ℕ → State → Answer) → Answer
choose (Holds n st) held failed = held n st
choose (Fails n st) held failed = failed n st
choose (Cut s w) held failed = Stopped s w

abbrev pub decide : Verdict → (ℕ → State → Verdict) → (ℕ → State → Verdict) → Verdict
decide (Holds n st) held failed = held n st
decide (Fails n st) held failed = failed n st
decide (Cut s w) held failed = Cut s w

-- after a loop's body: on to the step, or out
abbrev pub after_body : Answer → (ℕ → State → Answer) → Answer
after_body (Normal n st) go = go n st
after_body (Broke n st) go = Normal n st
after_body (Continued n st) go = go n st
after_body (Returned n st) go = Returned n st
after_body (Stopped s w) go = Stopped s w

-- at most k turns, each of which pays a step at its condition
abbrev pub turns : ℕ → (ℕ → State → Verdict) → (ℕ → State → Answer) → (ℕ → State → Answer) → ℕ → State → Answer
turns zero test body step n st = Stopped Exhausted st.world
turns (suc k) test body step n st =
    choose
    (test n st)
    (λ m s. after_body (body m s) (λ m' s'. then_do (step m' s') (turns k test body step)))
    (λ m s. Normal m s)

-- ---- statements and conditions

module _ (s : Setting) (types : Types) (f : Function) (call : Callee) where
  abbrev mutual
    -- a tree that is no statement strays
    pub exec : Tree → ℕ → State → Answer
    exec Skip n st = Normal n st
    exec (Then a b) n st = then_do (exec a n st) (exec b)
    exec (Acts place i) n st = perform s types f call place i n st
    exec (Asks place t) n st = Stopped Stray st.world
    exec (Both a b) n st = Stopped Stray st.world
    exec (Either a b) n st = Stopped Stray st.world
    exec (Negated a) n st = Stopped Stray st.world
    exec (Choice t a b) n st = choose (test t n st) (exec a) (exec b)
    exec (Turns t body step) n st = turns n (test t) (exec body) (exec step) n st
    exec Breaks n st = Broke n st
    exec Continues n st = Continued n st
    exec (Returns place) n st = leave n st
    exec (Stops place) n st = stop_at place n st

    -- .. and one that is no condition
    pub test : Tree → ℕ → State → Verdict
    test Skip n st = Cut Stray st.world
    test (Then a b) n st = then_ask (exec a n st) (test b)
    test (Acts place i) n st = Cut Stray st.world
    test (Asks place t) n st = ask types f t n st
    test (Both a b) n st = decide (test a n st) (test b) Fails
    test (Either a b) n st = decide (test a n st) Holds (test b)
    test (Negated a) n st = decide (test a n st) Fails Holds
    test (Choice t a b) n st = Cut Stray st.world
    test (Turns t body step) n st = Cut Stray st.world
    test Breaks n st = Cut Stray st.world
    test Continues n st = Cut Stray st.world
    test (Returns place) n st = Cut Stray st.world
    test (Stops place) n st = Cut Stray st.world

-- ---- functions

abbrev pub empty_cell : Local → Cell
empty_cell l = Empty

abbrev pub frame : Function → World → State
frame f w = record { world = w; cells = map empty_cell f.locals }

-- no way runs past the end of a proper body, or out of a loop that isn't there
abbrev pub finish : Types → Function → Answer → Called
finish types f (Normal n st) = Quit Stray st.world
finish types f (Broke n st) = Quit Stray st.world
finish types f (Continued n st) = Quit Stray st.world
finish types f (Returned n st) = Back n st.world (results types f st)
finish types f (Stopped s w) = Quit s w

-- the body is run where the parameters have their room
abbrev pub begun : Effect → World → (State → Called) → Called
begun (Next st) w run = run st
begun (Traps kind) w run = Barred kind
begun (Faults kind) w run = Quit Stray w
begun Strays w run = Quit Stray w

abbrev pub entered : Setting → Types → Option Function → Callee → List Cell → ℕ → World → Called
entered s types None call xs n w = Quit Stray w
entered s types (Some f) call xs n w =
    begun (parameters_given s types f 0 xs (frame f w)) w (λ st. finish types f (exec s types f call f.body n st))

-- calls that may stand so many deep
abbrev pub calls : Setting → Program → ℕ → Callee
calls s p zero f xs n w = Barred trap.Depth
calls s p (suc depth) f xs n w = entered s p.types (slice_get p.functions f) (calls s p depth) xs n w

-- ---- runs

pub data Outcome : Type 0 where
  Ended : ℤ → Content → Outcome
  Trap : TrapKind → Place → Outcome
  Fault : FaultKind → Place → Outcome
  OutOfSteps : Content → Outcome
  Lost : Outcome

-- it is no stray step that ended the run
abbrev pub IsFound : Outcome → Type 0
IsFound (Ended value content) = Unit {0}
IsFound (Trap kind place) = Unit {0}
IsFound (Fault kind place) = Unit {0}
IsFound (OutOfSteps content) = Unit {0}
IsFound Lost = ⊥

-- how a run ends, and all that it writes
pub record Run : Type 0 where
  pub outcome : Outcome
  pub output : List ℕ

-- the value that is told; where there is none it is 0
abbrev pub value_in : List Cell → ℤ
value_in [] = pos 0
value_in (Empty ∷ more) = pos 0
value_in (Named n ∷ more) = pos 0
value_in (Number z ∷ more) = z
value_in (Points p ∷ more) = pos 0

abbrev pub outcome_of_stop : Stop → World → Outcome
outcome_of_stop (Trapped kind place) w = Trap kind place
outcome_of_stop (Faulted kind place) w = Fault kind place
outcome_of_stop Stray w = Lost
outcome_of_stop Exhausted w = OutOfSteps w.content

abbrev pub run_from : Place → World → Called → Run
run_from entry before (Back n w values) = record { outcome = Ended (value_in values) w.content; output = w.output }
run_from entry before (Barred kind) = record { outcome = Trap kind entry; output = before.output }
run_from entry before (Quit s w) = record { outcome = outcome_of_stop s w; output = w.output }

-- the input numbers that are left for the program
abbrev pub first_world : Function → List ℤ → World
first_world f input = record { content = empty_content; output = []; input = drop f.parameters input }

abbrev pub setting_of : Given → Program → Setting
setting_of given p = record { given = given; texts = p.texts }

abbrev pub first_called : Given → Program → ℕ → Function → List ℤ → ℕ → Called
first_called given p entry f input n =
    calls (setting_of given p) p given.depth entry (entry_arguments p.types f 0 f.parameters input) n (first_world f input)

-- the run of a function of the program from an empty store, in so many steps; the entry is the first frame
abbrev pub run_of : Given → Program → ℕ → Function → List ℤ → ℕ → Run
run_of given p entry f input n = run_from f.place (first_world f input) (first_called given p entry f input n)

-- ---- which functions may be the entry

-- every parameter is a value
abbrev pub AreObjects : List Holding → Type 0
AreObjects [] = Unit {0}
AreObjects (h ∷ hs) = (h ≡ AnObject) × AreObjects hs

-- the result is one that is told: nothing, or a bool, char, int or long
abbrev pub is_told : Option Ty → Bool
is_told (Some ty.Void) = true
is_told (Some ty.Bool) = true
is_told (Some ty.Char) = true
is_told (Some ty.Int) = true
is_told (Some ty.Long) = true
is_told _ = false

-- .. the parameters are locals, and there are numbers for them
pub record IsAdmitted (p : Program) (f : Function) (input : List ℤ) : Type 0 where
  pub room : f.parameters ≤ length f.locals
  pub values : AreObjects (parameter_sorts p.types f)
  pub told : IsTrue (is_told (slice_get p.types.types f.result.0))
  pub enough : f.parameters ≤ length input
