-- What an edge makes of a fact, seen from its location: what stays there of an element where nothing is written, what is made where it is
-- read, and which elements a target marks at all locations. Each part goes through the kinds of instructions in the same order.
use Rattle.std.specs.Prelude.{ℕ, Bool, true, false, cond, not, ◌&&◌, nat_eq, List, [], ◌∷◌, ◌++◌, map, Option, Some, None, slice_get}
use Rattle.std.specs.List.{list_any}
use Rattle.life_types.specs.Trees.{holds_owner}
use Rattle.life_types.specs.Types.{Types}
use Rattle.life_types.specs.declared.place.Place.{Place}
use Rattle.life_core.specs.Function.{Function}
use Rattle.life_core.specs.Operands.{Argument, Base, Operand, Source, whole}
use Rattle.life_core.specs.Operands as named
use Rattle.life_core.specs.Step.{Step, Eval, Load, Save, Size, Same, Ports, End, Copy, Move, Aim, Repoint, Advance, Cut, Cursor, Changes, Call, Change, Erase, Test, NonZero, NotNull}
use Rattle.life_core.specs.Step as step
use Rattle.life_core.specs.Tree.{Node, Action, Question, Return, Stop, Spot}
use Rattle.life_pset.specs.Elements.{called, end_elements, local_place, owner_changed}
use Rattle.life_pset.specs.Places.{is_within, members_place}
use Rattle.life_pset.specs.Shapes.{operand_type, tree_if}
use Rattle.life_pset.specs.declared.element.AbsPlace.{AbsPlace}
use Rattle.life_pset.specs.declared.element.Element.{Element}
use Rattle.life_pset.specs.declared.element.Element.TheVariants as element
use Rattle.life_pset.specs.declared.element.Fact.{Fact}
use Rattle.life_pset.specs.declared.element.Root.{Root}
use Rattle.life_pset.specs.declared.element.Root.TheVariants as root
use Rattle.life_contract.specs.Arguments.{is_in_arguments, is_mutating_argument}
use Rattle.life_contract.specs.Located.{is_location, located}
use Rattle.life_contract.specs.Signatures.{Signature}
use Rattle.life_rules.specs.Carrying.{is_gone, kills, makes, stops_at, writes}
use Rattle.life_rules.specs.Matching.{points_under, unless}
use Rattle.life_rules.specs.declared.kill.Kill.{Kill}
use Rattle.life_rules.specs.declared.kill.KillPair.{KillPair}

-- ---- written: nothing stays there as it was. What stays of the pointer of a test hangs on the branch, so it counts as written

abbrev pub test_writes : Test → AbsPlace → Bool
test_writes (NonZero r) location = false
test_writes (NotNull p) location = is_location p location

abbrev pub node_writes : Node → AbsPlace → Bool
node_writes (Action i) location = writes i location
node_writes (Question t) location = test_writes t location
node_writes Return location = false
node_writes Stop location = false

abbrev pub spot_writes : Option Spot → AbsPlace → Bool
spot_writes None location = false
spot_writes (Some s) location = node_writes s.node location

-- ---- read: something may be made of a fact there, beside what stays of it

-- the pointer through which an operand names something
abbrev pub goes_through : Operand → AbsPlace → Bool
goes_through (named.Name l) location = false
goes_through (named.Through p members) location = is_location p location

-- what is copied from
abbrev pub is_copied : (to from : Operand) → AbsPlace → Bool
is_copied (named.Name to) (named.Name from) location = is_within (located from) location
is_copied _ _ location = false

abbrev pub source_reads : Source → AbsPlace → Bool
source_reads (named.Place o) location = goes_through o location
source_reads (named.Whole o) location = goes_through o location
source_reads (named.Get u) location = is_location u location
source_reads _ location = false

abbrev pub base_reads : Base → AbsPlace → Bool
base_reads (named.Owner o) location = goes_through o location
base_reads (named.Pointer q) location = is_location q location

abbrev pub change_reads : Operand → Change → AbsPlace → Bool
change_reads o (Erase at into) location = goes_through o location
change_reads o _ location = false

abbrev pub reads : Step → AbsPlace → Bool
reads (Copy to from) location = is_copied to from location
reads (Move to y) location = is_location (whole y) location
reads (Aim p s) location = source_reads s location
reads (Repoint p q) location = is_location q location
reads (Advance p q r direction) location = is_location q location
reads (Cut p q r count) location = is_location q location
reads (step.Element p b which) location = base_reads b location
reads (Cursor p b end) location = base_reads b location
reads (Changes o change) location = change_reads o change location
reads (Call target g xs) location = is_in_arguments xs location
reads _ location = false

abbrev pub node_reads : Node → AbsPlace → Bool
node_reads (Action i) location = reads i location
node_reads (Question t) location = test_writes t location
node_reads Return location = false
node_reads Stop location = false

abbrev pub spot_reads : Option Spot → AbsPlace → Bool
spot_reads None location = false
spot_reads (Some s) location = node_reads s.node location

-- what is made there. What an end makes hangs on the element alone, so it is told with what stays
abbrev pub made : List Signature → Types → Function → Place → Step → Fact → List Fact
made sigs types f place (End xs) fact = []
made sigs types f place i fact = makes sigs types f place i fact

abbrev pub node_made : List Signature → Types → Function → Place → Option Bool → Node → Fact → List Fact
node_made sigs types f place branch (Action i) fact = made sigs types f place i fact
node_made sigs types f place branch (Question t) fact = unless (stops_at t branch fact) fact
node_made sigs types f place branch Return fact = []
node_made sigs types f place branch Stop fact = []

abbrev pub made_at : List Signature → Types → Function → Option Bool → Option Spot → Fact → List Fact
made_at sigs types f branch None fact = []
made_at sigs types f branch (Some s) fact = node_made sigs types f s.place branch s.node fact

-- ---- staying: what becomes of an element, at each location that isn't written

-- a pointer to what ended is invalid
abbrev pub ended_in : Function → Place → List ℕ → Root → List Element
ended_in f place xs (root.Local x) = cond (list_any (λ y. nat_eq y x) xs) (end_elements f place x) []
ended_in f place xs (root.Input parameter member) = []

abbrev pub after_end : Function → Place → List ℕ → Element → List Element
after_end f place xs (element.At b) = ended_in f place xs b.root
after_end f place xs _ = []

-- .. and one under what is changed by name
abbrev pub after_change : Option Kill → Element → List Element
after_change None e = []
after_change (Some k) e = cond (points_under k.owner e) (element.Invalid k.cause ∷ []) []

abbrev pub after_changes : KillPair → Element → List Element
after_changes ks e = after_change ks.first e ++ after_change ks.second e

abbrev pub becomes : Types → Function → Place → Step → Element → List Element
becomes types f place (End xs) e = after_end f place xs e
becomes types f place i e = after_changes (kills types f place i) e

-- an element itself, unless it is gone, and what it becomes
abbrev pub stays : Types → Function → Place → Step → Element → List Element
stays types f place i e = cond (is_gone types f place i e) [] (e ∷ []) ++ becomes types f place i e

abbrev pub node_stays : Types → Function → Place → Node → Element → List Element
node_stays types f place (Action i) e = stays types f place i e
node_stays types f place (Question t) e = e ∷ []
node_stays types f place Return e = e ∷ []
node_stays types f place Stop e = e ∷ []

-- where no point is, nothing stays
abbrev pub staying : Types → Function → Option Spot → Element → List Element
staying types f None e = []
staying types f (Some s) e = node_stays types f s.place s.node e

-- whether an element may stay otherwise than as itself
abbrev pub has_kill : Option Kill → Bool
has_kill None = false
has_kill (Some k) = true

abbrev pub moves : Types → Function → Place → Step → Bool
moves types f place (End xs) = true
moves types f place i = has_kill (kills types f place i).first

abbrev pub node_moves : Types → Function → Place → Node → Bool
node_moves types f place (Action i) = moves types f place i
node_moves types f place (Question t) = false
node_moves types f place Return = false
node_moves types f place Stop = false

abbrev pub spot_moves : Types → Function → Option Spot → Bool
spot_moves types f None = true
spot_moves types f (Some s) = node_moves types f s.place s.node

-- whether an element doesn't stay
abbrev pub node_removes : Types → Function → Place → Node → Element → Bool
node_removes types f place (Action i) e = is_gone types f place i e
node_removes types f place (Question t) e = false
node_removes types f place Return e = false
node_removes types f place Stop e = false

abbrev pub spot_removes : Types → Function → Option Spot → Element → Bool
spot_removes types f None e = true
spot_removes types f (Some s) e = node_removes types f s.place s.node e

-- ---- marking: a target of the pointer through which an owner is changed, or of a mutating argument, makes what points under it invalid,
-- at each location that isn't written

-- the location is a mutating argument of a function, if that is there
abbrev pub mutates : Types → Option Signature → List Argument → AbsPlace → Bool
mutates types None xs location = false
mutates types (Some sig) xs location = is_mutating_argument types sig xs location

abbrev pub targets : List Signature → Types → Function → Step → AbsPlace → Bool
targets sigs types f (Copy to from) location = holds_owner (tree_if types (operand_type types f to)) && goes_through to location
targets sigs types f (Move to y) location = goes_through to location
targets sigs types f (Changes o change) location = goes_through o location
targets sigs types f (Call target g xs) location = mutates types (slice_get sigs g.0) xs location
targets sigs types f _ location = false

abbrev pub node_targets : List Signature → Types → Function → Node → AbsPlace → Bool
node_targets sigs types f (Action i) location = targets sigs types f i location
node_targets sigs types f (Question t) location = false
node_targets sigs types f Return location = false
node_targets sigs types f Stop location = false

abbrev pub spot_targets : List Signature → Types → Function → Option Spot → AbsPlace → Bool
spot_targets sigs types f None location = false
spot_targets sigs types f (Some s) location = node_targets sigs types f s.node location

-- what lies under these members of a target
abbrev pub points_behind : (members : List ℕ) → (target victim : Element) → Bool
points_behind members (element.At a) victim = points_under (members_place a members) victim
points_behind members _ victim = false

abbrev pub points_through : Operand → (target victim : Element) → Bool
points_through (named.Name l) target victim = false
points_through (named.Through p members) target victim = points_behind members target victim

-- what points under the local that is moved from is invalid by its name, and so under no target any more
abbrev pub step_marks : Step → (target victim : Element) → Bool
step_marks (Copy to from) target victim = points_through to target victim
step_marks (Move to y) target victim = not (points_under (local_place y) victim) && points_through to target victim
step_marks (Changes o change) target victim = points_through o target victim
step_marks (Call result g xs) target victim = points_behind [] target victim
step_marks _ target victim = false

abbrev pub node_marks : Node → (target victim : Element) → Bool
node_marks (Action i) target victim = step_marks i target victim
node_marks (Question t) target victim = false
node_marks Return target victim = false
node_marks Stop target victim = false

abbrev pub marks : Option Spot → (target victim : Element) → Bool
marks None target victim = false
marks (Some s) target victim = node_marks s.node target victim

-- what takes the place of what is marked
abbrev pub mark_through : Place → Operand → Option Element
mark_through place (named.Name l) = None
mark_through place (named.Through p members) = Some (element.Invalid (owner_changed place))

abbrev pub step_mark : Place → Step → Option Element
step_mark place (Copy to from) = mark_through place to
step_mark place (Move to y) = mark_through place to
step_mark place (Changes o change) = mark_through place o
step_mark place (Call target g xs) = Some (element.Invalid (called place g.0))
step_mark place _ = None

abbrev pub node_mark : Place → Node → Option Element
node_mark place (Action i) = step_mark place i
node_mark place (Question t) = None
node_mark place Return = None
node_mark place Stop = None

abbrev pub mark : Option Spot → Option Element
mark None = None
mark (Some s) = node_mark s.place s.node

-- ---- points of which nothing comes but each fact itself

abbrev pub step_keeps : Step → Bool
step_keeps (Eval r operation) = true
step_keeps (Load r o) = true
step_keeps (Save o r) = true
step_keeps (Size r b) = true
step_keeps (Same r a b equal) = true
step_keeps (Ports p) = true
step_keeps _ = false

abbrev pub test_keeps : Test → Bool
test_keeps (NonZero r) = true
test_keeps (NotNull p) = false

abbrev pub node_keeps : Node → Bool
node_keeps (Action i) = step_keeps i
node_keeps (Question t) = test_keeps t
node_keeps Return = true
node_keeps Stop = true

abbrev pub spot_keeps : Option Spot → Bool
spot_keeps None = false
spot_keeps (Some s) = node_keeps s.node
