-- A checker of functions: what is known where control leaves each part, and whether all of its points are ready.
use Rattle.std.specs.Prelude.{Bool, true, ◌&&◌, Some, None, is_none}
use Rattle.std.specs.List.{list_all}
use Rattle.life_types.specs.Types.{Types}
use Rattle.life_core.specs.Function.{Function, Program}
use Rattle.life_core.specs.Shape.{is_statement, tests_straight}
use Rattle.life_core.specs.Step.{Step, Test}
use Rattle.life_core.specs.Touched.{touched_by}
use Rattle.life_core.specs.Tree.{Tree, Skip, Then, Acts, Asks, Both, Either, Negated, Choice, Turns, Breaks, Continues, Returns, Stops, Node, Action, Question, Return}
use Rattle.life_proper.specs.Knowing.{State, at_head, comes_back, entry_known, met}
use Rattle.life_proper.specs.ReadyKnown.{is_node_ready, known_after}

-- whether all points of a part are ready, and what is known at each of its exits
pub record Flow : Type 0 where
  pub fine : Bool
  pub next : State
  pub on_break : State
  pub on_continue : State
  pub on_true : State
  pub on_false : State

abbrev pub nowhere : Flow
nowhere = record { fine = true; next = None; on_break = None; on_continue = None; on_true = None; on_false = None }

-- the ways of two parts
abbrev pub joined : Flow → Flow → Flow
joined a b = record {
  fine = a.fine && b.fine;
  next = met a.next b.next;
  on_break = met a.on_break b.on_break;
  on_continue = met a.on_continue b.on_continue;
  on_true = met a.on_true b.on_true;
  on_false = met a.on_false b.on_false;
}

-- .. of a part behind which another one stands, at its end, or where it holds or doesn't
abbrev pub before_next : Flow → Flow
before_next w = record w { next = None }

abbrev pub before_true : Flow → Flow
before_true w = record w { on_true = None }

abbrev pub before_false : Flow → Flow
before_false w = record w { on_false = None }

abbrev pub before_both : Flow → Flow
before_both w = record w { on_true = None; on_false = None }

abbrev pub turned : Flow → Flow
turned w = record w { on_true = w.on_false; on_false = w.on_true }

-- the ways out of a loop: from its test, its body and its step, which comes back to the head
abbrev pub of_test : Flow → Flow
of_test w = record w { next = met w.next w.on_false; on_true = None; on_false = None }

abbrev pub of_body : Flow → Flow
of_body w = record w { next = w.on_break; on_break = None; on_continue = None }

abbrev pub of_step : State → Flow → Flow
of_step head w = record w { fine = w.fine && comes_back head w.next; next = None }

-- a point is ready where no way comes to it
abbrev pub is_ready_at : Types → Function → State → Node → Bool
is_ready_at types f None node = true
is_ready_at types f (Some k) node = is_node_ready types f k node

abbrev pub state_after : Function → Step → State → State
state_after f i None = None
state_after f i (Some k) = Some (known_after (touched_by f i) k)

-- the ways of an instruction, of a single test, and of a return
abbrev pub acting : Types → Function → Step → State → Flow
acting types f i s = record nowhere { fine = is_ready_at types f s (Action i); next = state_after f i s }

abbrev pub asking : Types → Function → Test → State → Flow
asking types f t s = record nowhere { fine = is_ready_at types f s (Question t); on_true = s; on_false = s }

abbrev pub returning : Types → Function → State → Flow
returning types f s = record nowhere { fine = is_ready_at types f s Return }

-- .. and of a tree
abbrev pub flow : Types → Function → Tree → State → Flow
flow types f Skip s = record nowhere { next = s }
flow types f (Then a b) s = let w = flow types f a s in joined (before_next w) (flow types f b w.next)
flow types f (Acts place i) s = acting types f i s
flow types f (Asks place t) s = asking types f t s
flow types f (Both a b) s = let w = flow types f a s in joined (before_true w) (flow types f b w.on_true)
flow types f (Either a b) s = let w = flow types f a s in joined (before_false w) (flow types f b w.on_false)
flow types f (Negated a) s = turned (flow types f a s)
flow types f (Choice t a b) s =
    let w = flow types f t s in
    joined (before_both w) (joined (flow types f a w.on_true) (flow types f b w.on_false))
flow types f (Turns t body step) s =
    let head = at_head f.locals s in
    let w = flow types f t head in
    let v = flow types f body w.on_true in
    joined (of_test w) (joined (of_body v) (of_step head (flow types f step (met v.next v.on_continue))))
flow types f Breaks s = record nowhere { on_break = s }
flow types f Continues s = record nowhere { on_continue = s }
flow types f (Returns place) s = returning types f s
flow types f (Stops place) s = nowhere

-- all is ready, and no way leads out
abbrev pub is_over : Flow → Bool
is_over w = w.fine && (is_none w.next && (is_none w.on_break && (is_none w.on_continue && (is_none w.on_true && is_none w.on_false))))

abbrev pub body_flow : Types → Function → Flow
body_flow types f = flow types f f.body (Some (entry_known f))

-- a function
abbrev pub is_checked : Types → Function → Bool
is_checked types f = is_statement f.body && (tests_straight f.body && is_over (body_flow types f))

-- a whole program
abbrev pub checked : Program → Bool
checked p = list_all (is_checked p.types) p.functions
