-- Answers that go only where the points of a function lead, with states that have what their points
-- ask for; and that each way of going on keeps to this.
use Rattle.std.proofs.Common.{◌≡◌, ℕ, zero, suc, [], Option, Some, None}
use Rattle.life_core.specs.Linked.{code_of, numbered, spot_at, goes, parts, with_next, body_exits}
use Rattle.life_core.specs.Function.{Function}
use Rattle.life_core.specs.Step.{Step}
use Rattle.life_core.specs.Tree.{Action, Question, Return, Stop as StopHere}
use Rattle.life_core.specs.declared.exits.Exits.{Exits}
use Rattle.life_core.specs.Step.{Test}
use Rattle.life_types.specs.Types.{Types}
use Rattle.life_types.specs.declared.place.Place.{Place}
use Rattle.life_store.specs.Doing.{Setting, Effect, Next, Traps, Faults, Strays}
use Rattle.life_store.specs.Meaning.{Stop, Trapped, Faulted, Stray, Exhausted, Answer, Normal, Broke, Continued, Returned, Stopped, Verdict, Holds, Fails, Cut, paid, act, perform, test_at, ask, leave, stop_at, then_do, then_ask, choose, decide, after_body, turns, Callee}
use Rattle.life_store.specs.State.{World, State}
use Rattle.life_store.specs.declared.run.TrapKind.TheVariants as trap

-- what each point asks of the states that come to it; none comes past the end of a body
abbrev pub InvAt : (ℕ → State → Type 0) → Option ℕ → State → Type 0
InvAt I None st = ⊥
InvAt I (Some p) st = I p st

-- ---- what is good, where some stops are allowed, and this holds where the function is left

abbrev pub GoodEffect : (ℕ → State → Type 0) → (Stop → Type 0) → Place → Option ℕ → Effect → Type 0
GoodEffect I Allowed place to (Next st) = InvAt I to st
GoodEffect I Allowed place to (Traps kind) = Allowed (Trapped kind place)
GoodEffect I Allowed place to (Faults kind) = Allowed (Faulted kind place)
GoodEffect I Allowed place to Strays = Allowed Stray

abbrev pub GoodAnswer : (ℕ → State → Type 0) → (State → Type 0) → (Stop → Type 0) → Exits → Answer → Type 0
GoodAnswer I Left Allowed x (Normal n st) = InvAt I x.next st
GoodAnswer I Left Allowed x (Broke n st) = InvAt I x.on_break st
GoodAnswer I Left Allowed x (Continued n st) = InvAt I x.on_continue st
GoodAnswer I Left Allowed x (Returned n st) = Left st
GoodAnswer I Left Allowed x (Stopped stop w) = Allowed stop

abbrev pub GoodVerdict : (ℕ → State → Type 0) → (Stop → Type 0) → (held failed : Option ℕ) → Verdict → Type 0
GoodVerdict I Allowed held failed (Holds n st) = InvAt I held st
GoodVerdict I Allowed held failed (Fails n st) = InvAt I failed st
GoodVerdict I Allowed held failed (Cut stop w) = Allowed stop

-- what stands at each point of the code is good from each state that may come to it
pub record Keeps (s : Setting) (types : Types) (f : Function) (call : Callee) (I : ℕ → State → Type 0) (Left : State → Type 0) (Allowed : Stop → Type 0) : Type 0 where
  pub acts : (b : ℕ) (place : Place) (i : Step) (x : Exits) → numbered (code_of f) b ≡ Some (record { spot = spot_at place (Action i); leads = goes x.next })
      → (n : ℕ) (st : State) → I b st → GoodAnswer I Left Allowed x (act s types f call place i n st)
  pub asks : (b : ℕ) (place : Place) (t : Test) (held failed : Option ℕ) → numbered (code_of f) b ≡ Some (record { spot = spot_at place (Question t); leads = parts held failed })
      → (n : ℕ) (st : State) → I b st → GoodVerdict I Allowed held failed (test_at types f t n st)
  pub returns : (b : ℕ) (place : Place) → numbered (code_of f) b ≡ Some (record { spot = spot_at place Return; leads = [] }) → (st : State) → I b st → Left st
  pub stops : (b : ℕ) (place : Place) → numbered (code_of f) b ≡ Some (record { spot = spot_at place StopHere; leads = [] }) → (st : State) → I b st → Allowed (Trapped trap.Assert place)
  pub exhausted : Allowed Exhausted

-- control goes on past the end of it, or the run stops there
abbrev pub IsOnward : Answer → Type 0
IsOnward (Normal n st) = Unit {0}
IsOnward (Broke n st) = ⊥
IsOnward (Continued n st) = ⊥
IsOnward (Returned n st) = ⊥
IsOnward (Stopped stop w) = Unit {0}

-- ---- each way of going on

module _ (I : ℕ → State → Type 0) (Left : State → Type 0) (Allowed : Stop → Type 0) (exhausted : Allowed Exhausted) where
  pub paid_good : (place : Place) (w : World) (x : Exits) (e : Effect) (n : ℕ) → GoodEffect I Allowed place x.next e → GoodAnswer I Left Allowed x (paid place w e n)
  paid_good place w x (Next st) n g = g
  paid_good place w x (Traps kind) n g = g
  paid_good place w x (Faults kind) n g = g
  paid_good place w x Strays n g = g

  pub perform_good : (s : Setting) (types : Types) (f : Function) (call : Callee) (place : Place) (i : Step) (x : Exits) (n : ℕ) (st : State)
      → ((m : ℕ) → GoodAnswer I Left Allowed x (act s types f call place i m st)) → GoodAnswer I Left Allowed x (perform s types f call place i n st)
  perform_good s types f call place i x zero st g = exhausted
  perform_good s types f call place i x (suc n) st g = g n

  pub ask_good : (types : Types) (f : Function) (t : Test) (held failed : Option ℕ) (n : ℕ) (st : State) → ((m : ℕ) → GoodVerdict I Allowed held failed (test_at types f t m st))
      → GoodVerdict I Allowed held failed (ask types f t n st)
  ask_good types f t held failed zero st g = exhausted
  ask_good types f t held failed (suc n) st g = g n

  pub leave_good : (x : Exits) (n : ℕ) (st : State) → Left st → GoodAnswer I Left Allowed x (leave n st)
  leave_good x zero st left = exhausted
  leave_good x (suc n) st left = left

  pub stop_good : (x : Exits) (place : Place) (n : ℕ) (st : State) → Allowed (Trapped trap.Assert place) → GoodAnswer I Left Allowed x (stop_at place n st)
  stop_good x place zero st allowed = exhausted
  stop_good x place (suc n) st allowed = allowed

  pub then_do_good : (to : Option ℕ) (x : Exits) (r : Answer) (go : ℕ → State → Answer) → GoodAnswer I Left Allowed (with_next to x) r
      → ((n : ℕ) (st : State) → InvAt I to st → GoodAnswer I Left Allowed x (go n st)) → GoodAnswer I Left Allowed x (then_do r go)
  then_do_good to x (Normal n st) go g k = k n st g
  then_do_good to x (Broke n st) go g k = g
  then_do_good to x (Continued n st) go g k = g
  then_do_good to x (Returned n st) go g k = g
  then_do_good to x (Stopped stop w) go g k = g

  pub then_ask_good : (to : Option ℕ) (x : Exits) (held failed : Option ℕ) (r : Answer) (go : ℕ → State → Verdict) → IsOnward r → GoodAnswer I Left Allowed (with_next to x) r
      → ((n : ℕ) (st : State) → InvAt I to st → GoodVerdict I Allowed held failed (go n st)) → GoodVerdict I Allowed held failed (then_ask r go)
  then_ask_good to x held failed (Normal n st) go o g k = k n st g
  then_ask_good to x held failed (Broke n st) go o g k = absurd o
  then_ask_good to x held failed (Continued n st) go o g k = absurd o
  then_ask_good to x held failed (Returned n st) go o g k = absurd o
  then_ask_good to x held failed (Stopped stop w) go o g k = g

  pub choose_good : (held failed : Option ℕ) (x : Exits) (v : Verdict) (a b : ℕ → State → Answer) → GoodVerdict I Allowed held failed v
      → ((n : ℕ) (st : State) → InvAt I held st → GoodAnswer I Left Allowed x (a n st)) → ((n : ℕ) (st : State) → InvAt I failed st → GoodAnswer I Left Allowed x (b n st))
      → GoodAnswer I Left Allowed x (choose v a b)
  choose_good held failed x (Holds n st) a b g k l = k n st g
  choose_good held failed x (Fails n st) a b g k l = l n st g
  choose_good held failed x (Cut stop w) a b g k l = g

  pub decide_good : (held failed y z : Option ℕ) (v : Verdict) (a b : ℕ → State → Verdict) → GoodVerdict I Allowed held failed v
      → ((n : ℕ) (st : State) → InvAt I held st → GoodVerdict I Allowed y z (a n st)) → ((n : ℕ) (st : State) → InvAt I failed st → GoodVerdict I Allowed y z (b n st))
      → GoodVerdict I Allowed y z (decide v a b)
  decide_good held failed y z (Holds n st) a b g k l = k n st g
  decide_good held failed y z (Fails n st) a b g k l = l n st g
  decide_good held failed y z (Cut stop w) a b g k l = g

  pub after_body_good : (to : Option ℕ) (x : Exits) (r : Answer) (go : ℕ → State → Answer) → GoodAnswer I Left Allowed (body_exits to x) r
      → ((n : ℕ) (st : State) → InvAt I to st → GoodAnswer I Left Allowed x (go n st)) → GoodAnswer I Left Allowed x (after_body r go)
  after_body_good to x (Normal n st) go g k = k n st g
  after_body_good to x (Broke n st) go g k = g
  after_body_good to x (Continued n st) go g k = k n st g
  after_body_good to x (Returned n st) go g k = g
  after_body_good to x (Stopped stop w) go g k = g

  -- the turns of a loop that begins at its test
  pub turns_good : (k : ℕ) (first into on : Option ℕ) (x : Exits) (test : ℕ → State → Verdict) (body step : ℕ → State → Answer)
      → ((n : ℕ) (st : State) → InvAt I first st → GoodVerdict I Allowed into x.next (test n st))
      → ((n : ℕ) (st : State) → InvAt I into st → GoodAnswer I Left Allowed (body_exits on x) (body n st))
      → ((n : ℕ) (st : State) → InvAt I on st → GoodAnswer I Left Allowed (with_next first x) (step n st))
      → (n : ℕ) (st : State) → InvAt I first st → GoodAnswer I Left Allowed x (turns k test body step n st)
  turns_good zero first into on x test body step tests bodies steps n st inv = exhausted
  turns_good (suc k) first into on x test body step tests bodies steps n st inv =
      choose_good into x.next x (test n st) _ _ (tests n st inv)
      (λ m s g. after_body_good on x (body m s) _ (bodies m s g) (λ m' s' g'. then_do_good first x (step m' s') (turns k test body step) (steps m' s' g') (λ m2 s2 g2. turns_good k first into on x test body step tests bodies steps m2 s2 g2)))
      (λ m s g. g)
