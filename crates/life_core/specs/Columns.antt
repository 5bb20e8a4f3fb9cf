-- The edges and the points as they are computed, by recursion on a tree.
use Rattle.std.specs.Prelude.{ℕ, ◌+◌, ◌-◌, nat_lt, nat_eq, if◌then◌else◌, true, false, List, [], ◌++◌, Option, Some, None}
use Rattle.life_core.specs.declared.exits.Exits.{Exits}
use Rattle.life_core.specs.declared.stmt.Edge.{Edge}
use Rattle.life_core.specs.Linked.{enter, with_next, with_true, with_false, turned, body_exits, edge_to, spot_at}
use Rattle.life_core.specs.Tree.{Tree, Skip, Then, Acts, Asks, Both, Either, Negated, Choice, Turns, Breaks, Continues, Returns, Stops, size, Action, Question, Return, Stop, Spot}

-- the edges of a tree whose first point has this number
abbrev pub edges_in : Tree → ℕ → Exits → List Edge
edges_in Skip at x = []
edges_in (Then a b) at x = edges_in a at (with_next (enter b (at + size a) x) x) ++ edges_in b (at + size a) x
edges_in (Acts place i) at x = edge_to at x.next None
edges_in (Asks place t) at x = edge_to at x.on_true (Some true) ++ edge_to at x.on_false (Some false)
edges_in (Both a b) at x = edges_in a at (with_true (enter b (at + size a) x) x) ++ edges_in b (at + size a) x
edges_in (Either a b) at x = edges_in a at (with_false (enter b (at + size a) x) x) ++ edges_in b (at + size a) x
edges_in (Negated a) at x = edges_in a at (turned x)
edges_in (Choice t a b) at x =
    let first = at + size t in
    let second = first + size a in
    edges_in t at (with_true (enter a first x) (with_false (enter b second x) x)) ++ (edges_in a first x ++ edges_in b second x)
edges_in (Turns t body step) at x =
    let first = at + size t in
    let second = first + size body in
    let turn = with_next (enter t at x) x in
    let inner = body_exits (enter step second turn) x in
    edges_in t at (with_true (enter body first inner) (with_false x.next x)) ++ (edges_in body first inner ++ edges_in step second turn)
edges_in Breaks at x = []
edges_in Continues at x = []
edges_in (Returns place) at x = []
edges_in (Stops place) at x = []

-- the k-th of the points of two parts, from 0, the first part having n
abbrev pub of_two : ℕ → (first second : ℕ → Option Spot) → ℕ → Option Spot
of_two n first second k = if nat_lt k n then first k else second (k - n)

-- a point alone
abbrev pub only : Spot → ℕ → Option Spot
only spot k = if nat_eq k 0 then Some spot else None

-- what is at the k-th point of a tree, from 0
abbrev pub spot_in : Tree → ℕ → Option Spot
spot_in Skip k = None
spot_in (Then a b) k = of_two (size a) (spot_in a) (spot_in b) k
spot_in (Acts place i) k = only (spot_at place (Action i)) k
spot_in (Asks place t) k = only (spot_at place (Question t)) k
spot_in (Both a b) k = of_two (size a) (spot_in a) (spot_in b) k
spot_in (Either a b) k = of_two (size a) (spot_in a) (spot_in b) k
spot_in (Negated a) k = spot_in a k
spot_in (Choice t a b) k = of_two (size t) (spot_in t) (of_two (size a) (spot_in a) (spot_in b)) k
spot_in (Turns t body step) k = of_two (size t) (spot_in t) (of_two (size body) (spot_in body) (spot_in step)) k
spot_in Breaks k = None
spot_in Continues k = None
spot_in (Returns place) k = only (spot_at place Return) k
spot_in (Stops place) k = only (spot_at place Stop) k
