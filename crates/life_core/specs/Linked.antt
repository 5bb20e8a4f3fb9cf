-- The points that know where they lead, and what is read off them.
use Rattle.std.specs.Prelude.{ℕ, ◌≤◌, zero, suc, ◌+◌, Bool, true, false, List, [], ◌∷◌, ◌++◌, Option, Some, None, option_map, option_and_then, slice_get}
use Rattle.life_types.specs.declared.place.Place.{Place}
use Rattle.life_core.specs.declared.stmt.Edge.{Edge}
use Rattle.life_core.specs.declared.stmt.Point.{Point}
use Rattle.life_core.specs.declared.exits.Exits.{Exits}
use Rattle.life_core.specs.declared.exits.Entry.{Entry}
use Rattle.life_core.specs.declared.exits.Entry.TheVariants as entry
use Rattle.life_core.specs.Function.{Function}
use Rattle.life_core.specs.Step.{Step, Test}
use Rattle.life_core.specs.Tree.{Tree, Skip, Then, Acts, Asks, Both, Either, Negated, Choice, Turns, Breaks, Continues, Returns, Stops, size, Node, Action, Question, Return, Stop, Spot}

-- where control goes to one tree and then another
abbrev pub entry_then : Entry → Entry → Entry
entry_then entry.First b = entry.First
entry_then entry.Next b = b
entry_then entry.Break b = entry.Break
entry_then entry.Continue b = entry.Continue

-- where control goes to a tree: to its first point, or straight to one of its exits
abbrev pub entry_of : Tree → Entry
entry_of Skip = entry.Next
entry_of (Then a b) = entry_then (entry_of a) (entry_of b)
entry_of (Acts place i) = entry.First
entry_of (Asks place t) = entry.First
entry_of (Both a b) = entry_of a
entry_of (Either a b) = entry_of a
entry_of (Negated a) = entry_of a
entry_of (Choice t a b) = entry_of t
entry_of (Turns t body step) = entry_of t
entry_of Breaks = entry.Break
entry_of Continues = entry.Continue
entry_of (Returns place) = entry.First
entry_of (Stops place) = entry.First

-- the point that it comes to, where the first point has this number
abbrev pub target_of : Entry → ℕ → Exits → Option ℕ
target_of entry.First at x = Some at
target_of entry.Next at x = x.next
target_of entry.Break at x = x.on_break
target_of entry.Continue at x = x.on_continue

abbrev pub enter : Tree → ℕ → Exits → Option ℕ
enter t at x = target_of (entry_of t) at x

-- the exits of parts whose way on is replaced
abbrev pub with_next : Option ℕ → Exits → Exits
with_next to x = record x { next = to }

-- .. or what follows where a condition holds, or where it doesn't
abbrev pub with_true : Option ℕ → Exits → Exits
with_true to x = record x { on_true = to }

abbrev pub with_false : Option ℕ → Exits → Exits
with_false to x = record x { on_false = to }

abbrev pub turned : Exits → Exits
turned x = record x { on_true = x.on_false; on_false = x.on_true }

-- the exits of a loop's body, which goes on with the step
abbrev pub body_exits : Option ℕ → Exits → Exits
body_exits step x = record x { next = step; on_break = x.next; on_continue = step }

-- by which branch control leaves a point, and to which point: to none past the end of the body
pub record Lead : Type 0 where
  pub branch : Option Bool
  pub to : Option ℕ

-- what stands at a point, where in the file, and where control goes from it
pub record Linked : Type 0 where
  pub spot : Spot
  pub leads : List Lead

abbrev pub spot_at : Place → Node → Spot
spot_at place node = record { node = node; place = place }

abbrev pub goes : Option ℕ → List Lead
goes to = record { branch = None; to = to } ∷ []

abbrev pub parts : Option ℕ → Option ℕ → List Lead
parts held failed = record { branch = Some true; to = held } ∷ record { branch = Some false; to = failed } ∷ []

-- the points of a tree whose first point has this number
abbrev pub linked : Tree → ℕ → Exits → List Linked
linked Skip at x = []
linked (Then a b) at x = linked a at (with_next (enter b (at + size a) x) x) ++ linked b (at + size a) x
linked (Acts place i) at x = record { spot = spot_at place (Action i); leads = goes x.next } ∷ []
linked (Asks place t) at x = record { spot = spot_at place (Question t); leads = parts x.on_true x.on_false } ∷ []
linked (Both a b) at x = linked a at (with_true (enter b (at + size a) x) x) ++ linked b (at + size a) x
linked (Either a b) at x = linked a at (with_false (enter b (at + size a) x) x) ++ linked b (at + size a) x
linked (Negated a) at x = linked a at (turned x)
linked (Choice t a b) at x =
    let first = at + size t in
    let second = first + size a in
    linked t at (with_true (enter a first x) (with_false (enter b second x) x)) ++ (linked a first x ++ linked b second x)
linked (Turns t body step) at x =
    let first = at + size t in
    let second = first + size body in
    let turn = with_next (enter t at x) x in
    let inner = body_exits (enter step second turn) x in
    linked t at (with_true (enter body first inner) (with_false x.next x)) ++ (linked body first inner ++ linked step second turn)
linked Breaks at x = []
linked Continues at x = []
linked (Returns place) at x = record { spot = spot_at place Return; leads = [] } ∷ []
linked (Stops place) at x = record { spot = spot_at place Stop; leads = [] } ∷ []

-- an edge, if there is a point to go to
abbrev pub edge_to : ℕ → Option ℕ → Option Bool → List Edge
edge_to at None branch = []
edge_to at (Some to) branch = record { from = record { 0 = at }; to = record { 0 = to }; branch = branch } ∷ []

abbrev pub edges_out : ℕ → List Lead → List Edge
edges_out at [] = []
edges_out at (l ∷ ls) = edge_to at l.to l.branch ++ edges_out at ls

-- the edges of points that are numbered from this number on
abbrev pub edges_from : ℕ → List Linked → List Edge
edges_from at [] = []
edges_from at (l ∷ ls) = edges_out at l.leads ++ edges_from (at + 1) ls

-- control goes nowhere past the end of a body
abbrev pub no_exits : Exits
no_exits = record { next = None; on_break = None; on_continue = None; on_true = None; on_false = None }

-- the points of a function, numbered from 1
abbrev pub code_of : Function → List Linked
code_of f = linked (f.body) 1 no_exits

abbrev pub points_of : Function → ℕ
points_of f = size (f.body)

-- the edges of a function, in ascending order of their first points, the one of a test that holds first
abbrev pub edges_of : Function → List Edge
edges_of f = edges_from 1 (code_of f)

abbrev pub numbered : List Linked → ℕ → Option Linked
numbered code zero = None
numbered code (suc n) = slice_get code n

abbrev pub spot_of_linked : Linked → Spot
spot_of_linked l = l.spot

-- what is at a point
abbrev pub spot_of : Function → Point → Option Spot
spot_of f p = option_map spot_of_linked (numbered (code_of f) p.0)

abbrev pub node_of : Function → Point → Option Node
node_of f p = option_map (λ (s : Spot). s.node) (spot_of f p)

abbrev pub place_of : Function → Point → Option Place
place_of f p = option_map (λ (s : Spot). s.place) (spot_of f p)

abbrev pub instr_part : Node → Option Step
instr_part (Action i) = Some i
instr_part (Question t) = None
instr_part Return = None
instr_part Stop = None

abbrev pub test_part : Node → Option Test
test_part (Action i) = None
test_part (Question t) = Some t
test_part Return = None
test_part Stop = None

abbrev pub is_return : Option Node → Bool
is_return None = false
is_return (Some (Action i)) = false
is_return (Some (Question t)) = false
is_return (Some Return) = true
is_return (Some Stop) = false

abbrev pub instr_of : Function → Point → Option Step
instr_of f p = option_and_then instr_part (node_of f p)

abbrev pub test_of : Function → Point → Option Test
test_of f p = option_and_then test_part (node_of f p)

-- both ends are points
abbrev pub IsJoined : ℕ → Edge → Type 0
IsJoined n e = (1 ≤ e.from.0) × (e.from.0 ≤ n) × (1 ≤ e.to.0) × (e.to.0 ≤ n)

abbrev pub AllJoin : ℕ → List Edge → Type 0
AllJoin n [] = Unit {0}
AllJoin n (e ∷ es) = IsJoined n e × AllJoin n es

-- no edge begins before an earlier one, or before this point
abbrev pub AreFrom : ℕ → List Edge → Type 0
AreFrom p [] = Unit {0}
AreFrom p (e ∷ es) = (p ≤ e.from.0) × AreFrom e.from.0 es

abbrev pub AreAscending : List Edge → Type 0
AreAscending es = AreFrom 0 es
