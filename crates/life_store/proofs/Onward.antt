-- What is straight is left at its end alone.
use Rattle.std.proofs.Common.{ℕ, zero, suc, List, Option}
use Rattle.std.proofs.lemmas.Bool.{and_parts, false≢true}
use Rattle.std.specs.Prelude.{IsTrue}
use Rattle.life_core.specs.Function.{Function}
use Rattle.life_core.specs.Shape.{is_straight}
use Rattle.life_core.specs.Step.{Step, Call}
use Rattle.life_core.specs.Operands.{Argument, Location}
use Rattle.life_core.specs.Tree.{Tree, Skip, Then, Acts, Asks, Both, Either, Negated, Choice, Turns, Breaks, Continues, Returns, Stops}
use Rattle.life_types.specs.Types.{Types}
use Rattle.life_types.specs.declared.place.Place.{Place}
use Rattle.life_store.specs.Calls.{all_handed, lent, taken_back}
use Rattle.life_store.specs.Doing.{Setting, Effect, Next, Traps, Faults, Strays, does}
use Rattle.life_store.specs.Meaning.{Answer, Normal, Broke, Continued, Returned, Stopped, Verdict, Holds, Fails, Cut, Called, Back, Barred, Quit, paid, with_world, came_back, call_with, act, perform, stop_at, then_do, choose, exec, test, Callee}
use Rattle.life_store.specs.State.{World, State}
use Rattle.life_store.proofs.Going.{IsOnward}

paid_onward : (place : Place) (w : World) (e : Effect) (n : ℕ) → IsOnward (paid place w e n)
paid_onward place w (Next st) n = tt
paid_onward place w (Traps kind) n = tt
paid_onward place w (Faults kind) n = tt
paid_onward place w Strays n = tt

then_do_onward : (r : Answer) (go : ℕ → State → Answer) → IsOnward r → ((n : ℕ) (st : State) → IsOnward (go n st)) → IsOnward (then_do r go)
then_do_onward (Normal n st) go o k = k n st
then_do_onward (Broke n st) go o k = o
then_do_onward (Continued n st) go o k = o
then_do_onward (Returned n st) go o k = o
then_do_onward (Stopped stop w) go o k = tt

choose_onward : (v : Verdict) (a b : ℕ → State → Answer) → ((n : ℕ) (st : State) → IsOnward (a n st)) → ((n : ℕ) (st : State) → IsOnward (b n st)) → IsOnward (choose v a b)
choose_onward (Holds n st) a b k l = k n st
choose_onward (Fails n st) a b k l = l n st
choose_onward (Cut stop w) a b k l = tt

module _ (s : Setting) (types : Types) (f : Function) (call : Callee) where
  back_onward : (place : Place) (target : Option Location) (xs : List Argument) (st : State) (r : Called) → IsOnward (came_back s types f place target xs st r)
  back_onward place target xs st (Back n w values) = paid_onward place w (taken_back s types f target xs values (with_world w (lent types f xs st))) n
  back_onward place target xs st (Barred kind) = tt
  back_onward place target xs st (Quit stop w) = tt

  act_onward : (place : Place) (i : Step) (n : ℕ) (st : State) → IsOnward (act s types f call place i n st)
  act_onward place (Call target g xs) n st = back_onward place target xs st (call_with call g.0 (all_handed types f st xs) n (lent types f xs st).world)
  act_onward place i n st = paid_onward place st.world (does s types f i st) n

  perform_onward : (place : Place) (i : Step) (n : ℕ) (st : State) → IsOnward (perform s types f call place i n st)
  perform_onward place i zero st = tt
  perform_onward place i (suc n) st = act_onward place i n st

  stop_onward : (place : Place) (n : ℕ) (st : State) → IsOnward (stop_at place n st)
  stop_onward place zero st = tt
  stop_onward place (suc n) st = tt

  pub straight_onward : (t : Tree) → IsTrue (is_straight t) → (n : ℕ) (st : State) → IsOnward (exec s types f call t n st)
  straight_onward Skip h n st = tt
  straight_onward (Then a b) h n st =
      let parts = and_parts (is_straight a) (is_straight b) h in
      then_do_onward (exec s types f call a n st) (exec s types f call b) (straight_onward a parts.0 n st) (λ m s'. straight_onward b parts.1 m s')
  straight_onward (Acts place i) h n st = perform_onward place i n st
  straight_onward (Asks place t) h n st = absurd (false≢true h)
  straight_onward (Both a b) h n st = absurd (false≢true h)
  straight_onward (Either a b) h n st = absurd (false≢true h)
  straight_onward (Negated a) h n st = absurd (false≢true h)
  straight_onward (Choice t a b) h n st =
      let parts = and_parts (is_straight a) (is_straight b) h in
      choose_onward (test s types f call t n st) (exec s types f call a) (exec s types f call b) (λ m s'. straight_onward a parts.0 m s') (λ m s'. straight_onward b parts.1 m s')
  straight_onward (Turns t body step) h n st = absurd (false≢true h)
  straight_onward Breaks h n st = absurd (false≢true h)
  straight_onward Continues h n st = absurd (false≢true h)
  straight_onward (Returns place) h n st = absurd (false≢true h)
  straight_onward (Stops place) h n st = stop_onward place n st
