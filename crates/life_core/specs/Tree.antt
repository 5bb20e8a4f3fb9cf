-- A statement as a tree whose lists are made of pairs, and how many points it has.
use Rattle.std.specs.Prelude.{ℕ, ◌+◌, List, [], ◌∷◌, ◌++◌}
use Rattle.life_types.specs.declared.place.Place.{Place}
use Rattle.life_core.specs.Step.{Step, Test, asked_of, step_of}
use Rattle.life_core.specs.declared.stmt.Condition.{Condition}
use Rattle.life_core.specs.declared.stmt.Condition.TheFolds.{fold-Condition, fold-Stmt}
use Rattle.life_core.specs.declared.stmt.Condition.TheOpen.{Condition-F, After, Single, And, Or, Not, Stmt-F, List as Sequence, Do, Branch, Loop, Break, Continue, Return as ReturnAt, Stop as StopAt}
use Rattle.life_core.specs.declared.stmt.Stmt.{Stmt}

-- statements and conditions alike: a condition leads on by whether it holds
pub data Tree : Type 0 where
  Skip : Tree
  Then : Tree → Tree → Tree
  Acts : Place → Step → Tree
  Asks : Place → Test → Tree
  Both : Tree → Tree → Tree
  Either : Tree → Tree → Tree
  Negated : Tree → Tree
  Choice : (condition : Tree) → Tree → Tree → Tree
  Turns : (condition body step : Tree) → Tree
  Breaks : Tree
  Continues : Tree
  Returns : Place → Tree
  Stops : Place → Tree

-- one after the other
abbrev pub trees : List Tree → Tree
trees [] = Skip
trees (t ∷ ts) = Then t (trees ts)

abbrev pub condition_step : Condition-F Tree Tree → Tree
condition_step (After s t) = Then s.value t.value
condition_step (Single place t) = Asks place (asked_of t)
condition_step (And a b) = Both a.value b.value
condition_step (Or a b) = Either a.value b.value
condition_step (Not a) = Negated a.value

abbrev pub stmt_step : Stmt-F Tree Tree → Tree
stmt_step (Sequence items) = trees items.items
stmt_step (Do place i) = Acts place (step_of i)
stmt_step (Branch t a b) = Choice t a.value b.value
stmt_step (Loop t body step) = Turns t body.value step.value
stmt_step Break = Breaks
stmt_step Continue = Continues
stmt_step (ReturnAt place) = Returns place
stmt_step (StopAt place) = Stops place

-- the tree of a statement, and of a condition
abbrev pub tree_of : Stmt → Tree
tree_of = fold-Stmt Tree Tree condition_step stmt_step

abbrev pub condition_tree : Condition → Tree
condition_tree = fold-Condition Tree Tree condition_step stmt_step

-- how many points it has
abbrev pub size : Tree → ℕ
size Skip = 0
size (Then a b) = size a + size b
size (Acts place i) = 1
size (Asks place t) = 1
size (Both a b) = size a + size b
size (Either a b) = size a + size b
size (Negated a) = size a
size (Choice t a b) = size t + (size a + size b)
size (Turns t a b) = size t + (size a + size b)
size Breaks = 0
size Continues = 0
size (Returns place) = 1
size (Stops place) = 1

-- what stands at a point
pub data Node : Type 0 where
  Action : Step → Node
  Question : Test → Node
  Return : Node
  Stop : Node

-- .. and its place in the file
pub record Spot : Type 0 where
  pub node : Node
  pub place : Place

-- the points in order
abbrev pub spots : Tree → List Spot
spots Skip = []
spots (Then a b) = spots a ++ spots b
spots (Acts place i) = record { node = Action i; place = place } ∷ []
spots (Asks place t) = record { node = Question t; place = place } ∷ []
spots (Both a b) = spots a ++ spots b
spots (Either a b) = spots a ++ spots b
spots (Negated a) = spots a
spots (Choice t a b) = spots t ++ (spots a ++ spots b)
spots (Turns t a b) = spots t ++ (spots a ++ spots b)
spots Breaks = []
spots Continues = []
spots (Returns place) = record { node = Return; place = place } ∷ []
spots (Stops place) = record { node = Stop; place = place } ∷ []
