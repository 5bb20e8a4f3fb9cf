-- A machine that goes from point to point, each of which pays a step, with a stack of frames that wait.
use Rattle.std.specs.Prelude.{ℕ, zero, suc, Bool, true, false, cond, nat_lt, List, [], ◌∷◌, Option, Some, None, length, slice_get}
use Rattle.life_types.specs.declared.place.Place.{Place}
use Rattle.life_core.specs.Function.{Function, Program}
use Rattle.life_core.specs.Linked.{Lead, Linked, code_of, enter, no_exits, numbered}
use Rattle.life_core.specs.Operands.{Argument, Location}
use Rattle.life_core.specs.Step.{Step, Call}
use Rattle.life_core.specs.Tree.{Node, Action, Question, Return, Stop}
use Rattle.life_store.specs.Calls.{all_handed, lent, parameters_given, results, taken_back}
use Rattle.life_store.specs.Doing.{Setting, Effect, Next, Traps, Faults, Strays, does}
use Rattle.life_store.specs.Meaning.{Trapped, Faulted, Stray, Exhausted, Verdict, Holds, Fails, Cut, Called, Back, Quit, frame, test_at}
use Rattle.life_store.specs.State.{Cell, World, State}
use Rattle.life_store.specs.declared.run.TrapKind.TheVariants as trap

-- the way on where there is one alone, or where a test held
abbrev pub first_way : List Lead → Option ℕ
first_way [] = None
first_way (l ∷ ls) = l.to

-- .. and where it didn't
abbrev pub second_way : List Lead → Option ℕ
second_way [] = None
second_way (l ∷ ls) = first_way ls

-- .. by whether it did
abbrev pub way_on : Bool → List Lead → Option ℕ
way_on true ls = first_way ls
way_on false ls = second_way ls

-- a frame that waits for a call that stands at a place: where it goes on, what is given the result, and what was handed over
pub record Waiting : Type 0 where
  pub function : Function
  pub cells : List Cell
  pub place : Place
  pub to : Option ℕ
  pub target : Option Location
  pub arguments : List Argument

-- how it goes on, with frames that wait, in a function, from a point that control comes to, if to one
abbrev pub Go : Type 0
Go = List Waiting → Function → Option ℕ → State → Called

-- a stop keeps the world as it was before the point
abbrev pub moved : (State → Called) → Place → World → Effect → Called
moved go place before (Next st) = go st
moved go place before (Traps kind) = Quit (Trapped kind place) before
moved go place before (Faults kind) = Quit (Faulted kind place) before
moved go place before Strays = Quit Stray before

abbrev pub chosen : (Option ℕ → State → Called) → Option ℕ → Option ℕ → Verdict → Called
chosen go held failed (Holds n st) = go held st
chosen go held failed (Fails n st) = go failed st
chosen go held failed (Cut s w) = Quit s w

-- control enters a function whose parameters have their room
abbrev pub let_in : (State → Called) → Place → World → Effect → Called
let_in go place before (Next st) = go st
let_in go place before (Traps kind) = Quit (Trapped kind place) before
let_in go place before (Faults kind) = Quit Stray before
let_in go place before Strays = Quit Stray before

module _ (s : Setting) (p : Program) where
  -- a function is called in a world, and the frame at hand waits for it
  abbrev pub entered_in : Go → List Waiting → Place → (before world : World) → Option Function → List Cell → Called
  entered_in go ws place before w None xs = Quit Stray before
  entered_in go ws place before w (Some g) xs = let_in (go ws g (enter g.body 1 no_exits)) place before (parameters_given s p.types g 0 xs (frame g w))

  abbrev pub called_in : Go → List Waiting → Waiting → (before world : World) → Option Function → Option (List Cell) → Called
  called_in go ws v before w callee None = Quit Stray before
  called_in go ws v before w callee (Some xs) =
      cond (nat_lt (length (v ∷ ws)) s.given.depth) (entered_in go (v ∷ ws) v.place before w callee xs) (Quit (Trapped trap.Depth v.place) before)

  -- the frame that waits goes on, and has what comes back
  abbrev pub back : Go → List Waiting → ℕ → World → List Cell → Called
  back go [] n w values = Back n w values
  back go (v ∷ ws) n w values =
      moved (go ws v.function v.to) v.place w (taken_back s p.types v.function v.target v.arguments values (record { world = w; cells = v.cells }))

  abbrev pub at_action : Go → List Waiting → Function → Step → Place → Option ℕ → State → Called
  at_action go ws f (Call target g xs) place to st =
      called_in go ws (record { function = f; cells = (lent p.types f xs st).cells; place = place; to = to; target = target; arguments = xs }) st.world (lent p.types f xs st).world (slice_get p.functions g.0) (all_handed p.types f st xs)
  at_action go ws f i place to st = moved (go ws f to) place st.world (does s p.types f i st)

  abbrev pub at_node : Go → List Waiting → Function → Node → Place → List Lead → ℕ → State → Called
  at_node go ws f (Action i) place leads n st = at_action go ws f i place (first_way leads) st
  at_node go ws f (Question t) place leads n st = chosen (go ws f) (first_way leads) (second_way leads) (test_at p.types f t n st)
  at_node go ws f Return place leads n st = back go ws n st.world (results p.types f st)
  at_node go ws f Stop place leads n st = Quit (Trapped trap.Assert place) st.world

  abbrev pub at_point : Go → List Waiting → Function → Option Linked → ℕ → State → Called
  at_point go ws f None n st = Quit Stray st.world
  at_point go ws f (Some l) n st = at_node go ws f l.spot.node l.spot.place l.leads n st

  -- so many steps from a point on
  abbrev pub walk : ℕ → Go
  walk zero ws f to st = Quit Exhausted st.world
  walk (suc n) ws f None st = Quit Stray st.world
  walk (suc n) ws f (Some q) st = at_point (walk n) ws f (numbered (code_of f) q) n st
