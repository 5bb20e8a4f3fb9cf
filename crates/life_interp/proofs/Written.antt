-- The walk only adds to what was written.
use Rattle.std.proofs.Common.{◌≡◌, ℕ, zero, suc, List, [], ◌∷◌, Option, Some, None, Bool, true, false, cond, subst, length}
use Rattle.std.specs.Prelude.{ℤ, pos, negsuc, nat_lt, slice_get}
use Rattle.life_types.specs.Types.{Types}
use Rattle.life_types.specs.declared.place.Place.{Place}
use Rattle.life_core.specs.Function.{Function, Program}
use Rattle.life_core.specs.Linked.{Lead, Linked, code_of, enter, no_exits, numbered}
use Rattle.life_core.specs.Step.{Step, Call, Test, NonZero, NotNull}
use Rattle.life_core.specs.Tree.{Node, Action, Question, Return, Stop}
use Rattle.life_store.specs.Calls.{all_handed, lent, parameters_given, results, taken_back}
use Rattle.life_store.specs.Doing.{Setting, Effect, Next, Traps, Faults, Strays, cell, does}
use Rattle.life_store.specs.Meaning.{Verdict, Holds, Fails, Cut, by_number, by_pointer, frame, number_test, pointer_test, test_at, tested, Called, Quit, Trapped}
use Rattle.life_store.specs.State.{Pointer, Null, Wild, To, Static, Cell, Empty, Named, Number, Points, World, State}
use Rattle.life_store.specs.declared.run.TrapKind.TheVariants as trap
use Rattle.life_interp.specs.Walk.{Go, Waiting, walk, at_action, at_node, at_point, back, called_in, chosen, entered_in, first_way, let_in, moved, second_way}
use Rattle.life_interp.specs.Walking.{output_of}
use Rattle.life_interp.proofs.Quiet.{Begins, EffectBegins, begins_itself, begins_on, does_begins, lent_output, parameters_begin, taken_back_begins}

-- ---- tests

abbrev VerdictBegins : List ℕ → Verdict → Type 0
VerdictBegins front (Holds n st) = Begins front st.world.output
VerdictBegins front (Fails n st) = Begins front st.world.output
VerdictBegins front (Cut stop w) = Begins front w.output

by_number_begins : (z : ℤ) (n : ℕ) (st : State) → VerdictBegins st.world.output (by_number z n st)
by_number_begins (pos zero) n st = begins_itself st.world.output
by_number_begins (pos (suc z)) n st = begins_itself st.world.output
by_number_begins (negsuc z) n st = begins_itself st.world.output

by_pointer_begins : (p : Pointer) (n : ℕ) (st : State) → VerdictBegins st.world.output (by_pointer p n st)
by_pointer_begins Null n st = begins_itself st.world.output
by_pointer_begins Wild n st = begins_itself st.world.output
by_pointer_begins (To t) n st = begins_itself st.world.output
by_pointer_begins (Static c) n st = begins_itself st.world.output

number_test_begins : (o : Option Cell) (n : ℕ) (st : State) → VerdictBegins st.world.output (number_test o n st)
number_test_begins None n st = begins_itself st.world.output
number_test_begins (Some Empty) n st = begins_itself st.world.output
number_test_begins (Some (Named m)) n st = begins_itself st.world.output
number_test_begins (Some (Number z)) n st = by_number_begins z n st
number_test_begins (Some (Points p)) n st = begins_itself st.world.output

pointer_test_begins : (o : Option Cell) (n : ℕ) (st : State) → VerdictBegins st.world.output (pointer_test o n st)
pointer_test_begins None n st = begins_itself st.world.output
pointer_test_begins (Some Empty) n st = begins_itself st.world.output
pointer_test_begins (Some (Named m)) n st = begins_itself st.world.output
pointer_test_begins (Some (Number z)) n st = begins_itself st.world.output
pointer_test_begins (Some (Points p)) n st = by_pointer_begins p n st

test_begins : (types : Types) (f : Function) (t : Test) (n : ℕ) (st : State) → VerdictBegins st.world.output (test_at types f t n st)
test_begins types f (NonZero r) n st = number_test_begins (cell st r) n st
test_begins types f (NotNull p) n st = pointer_test_begins (tested types f p p.members (cell st p.local) st.world.content) n st

-- ---- the walk

abbrev EndBegins : List ℕ → Called → Type 0
EndBegins front c = Begins front (output_of c)

-- wherever it goes on from, it takes nothing back
abbrev Onward : Go → Type 0
Onward go = (ws : List Waiting) (f : Function) (to : Option ℕ) (st : State) → EndBegins st.world.output (go ws f to st)

moved_begins : (go : State → Called) (place : Place) (before : World) (e : Effect) → ((st : State) → EndBegins st.world.output (go st)) → EffectBegins before.output e → EndBegins before.output (moved go place before e)
moved_begins go place before (Next st) h b = begins_on before.output st.world.output _ b (h st)
moved_begins go place before (Traps kind) h b = begins_itself before.output
moved_begins go place before (Faults kind) h b = begins_itself before.output
moved_begins go place before Strays h b = begins_itself before.output

let_in_begins : (go : State → Called) (place : Place) (before : World) (e : Effect) → ((st : State) → EndBegins st.world.output (go st)) → EffectBegins before.output e → EndBegins before.output (let_in go place before e)
let_in_begins go place before (Next st) h b = begins_on before.output st.world.output _ b (h st)
let_in_begins go place before (Traps kind) h b = begins_itself before.output
let_in_begins go place before (Faults kind) h b = begins_itself before.output
let_in_begins go place before Strays h b = begins_itself before.output

chosen_begins : (front : List ℕ) (go : Option ℕ → State → Called) (held failed : Option ℕ) (v : Verdict) → ((to : Option ℕ) (st : State) → EndBegins st.world.output (go to st)) → VerdictBegins front v
    → EndBegins front (chosen go held failed v)
chosen_begins front go held failed (Holds n st) h b = begins_on front st.world.output _ b (h held st)
chosen_begins front go held failed (Fails n st) h b = begins_on front st.world.output _ b (h failed st)
chosen_begins front go held failed (Cut stop w) h b = b

either_begins : (front : List ℕ) (b : Bool) (x y : Called) → EndBegins front x → EndBegins front y → EndBegins front (cond b x y)
either_begins front true x y p q = p
either_begins front false x y p q = q

module _ (s : Setting) (p : Program) (go : Go) (onward : Onward go) where
  entered_begins : (ws : List Waiting) (place : Place) (before w : World) → w.output ≡ before.output → (callee : Option Function) (xs : List Cell) → EndBegins before.output (entered_in s p go ws place before w callee xs)
  entered_begins ws place before w same None xs = begins_itself before.output
  entered_begins ws place before w same (Some g) xs =
      let_in_begins (go ws g (enter g.body 1 no_exits)) place before (parameters_given s p.types g 0 xs (frame g w)) (onward ws g (enter g.body 1 no_exits))
      (subst (λ text. EffectBegins text (parameters_given s p.types g 0 xs (frame g w))) same (parameters_begin s p.types g 0 xs (frame g w)))

  called_begins : (ws : List Waiting) (v : Waiting) (before w : World) → w.output ≡ before.output → (callee : Option Function) (xs : Option (List Cell)) → EndBegins before.output (called_in s p go ws v before w callee xs)
  called_begins ws v before w same callee None = begins_itself before.output
  called_begins ws v before w same callee (Some xs) =
      either_begins before.output (nat_lt (length (v ∷ ws)) s.given.depth) (entered_in s p go (v ∷ ws) v.place before w callee xs) (Quit (Trapped trap.Depth v.place) before)
      (entered_begins (v ∷ ws) v.place before w same callee xs) (begins_itself before.output)

  back_begins : (ws : List Waiting) (n : ℕ) (w : World) (values : List Cell) → EndBegins w.output (back s p go ws n w values)
  back_begins [] n w values = begins_itself w.output
  back_begins (v ∷ ws) n w values =
      moved_begins (go ws v.function v.to) v.place w (taken_back s p.types v.function v.target v.arguments values (record { world = w; cells = v.cells })) (onward ws v.function v.to)
      (taken_back_begins s p.types v.function v.target v.arguments values (record { world = w; cells = v.cells }))

  action_begins : (ws : List Waiting) (f : Function) (i : Step) (place : Place) (to : Option ℕ) (st : State) → EndBegins st.world.output (at_action s p go ws f i place to st)
  action_begins ws f (Call target g xs) place to st =
      called_begins ws (record { function = f; cells = (lent p.types f xs st).cells; place = place; to = to; target = target; arguments = xs }) st.world (lent p.types f xs st).world (lent_output p.types f xs st)
      (slice_get p.functions g.0) (all_handed p.types f st xs)
  action_begins ws f i place to st = moved_begins (go ws f to) place st.world (does s p.types f i st) (onward ws f to) (does_begins s p.types f i st)

  node_begins : (ws : List Waiting) (f : Function) (node : Node) (place : Place) (leads : List Lead) (n : ℕ) (st : State) → EndBegins st.world.output (at_node s p go ws f node place leads n st)
  node_begins ws f (Action i) place leads n st = action_begins ws f i place (first_way leads) st
  node_begins ws f (Question t) place leads n st = chosen_begins st.world.output (go ws f) (first_way leads) (second_way leads) (test_at p.types f t n st) (onward ws f) (test_begins p.types f t n st)
  node_begins ws f Return place leads n st = back_begins ws n st.world (results p.types f st)
  node_begins ws f Stop place leads n st = begins_itself st.world.output

  point_begins : (ws : List Waiting) (f : Function) (o : Option Linked) (n : ℕ) (st : State) → EndBegins st.world.output (at_point s p go ws f o n st)
  point_begins ws f None n st = begins_itself st.world.output
  point_begins ws f (Some l) n st = node_begins ws f l.spot.node l.spot.place l.leads n st

-- what was written stands at the front of what the walk writes
pub walk_begins : (s : Setting) (p : Program) (n : ℕ) → Onward (walk s p n)
walk_begins s p zero ws f to st = begins_itself st.world.output
walk_begins s p (suc n) ws f None st = begins_itself st.world.output
walk_begins s p (suc n) ws f (Some q) st = point_begins s p (walk s p n) (walk_begins s p n) ws f (numbered (code_of f) q) n st
