-- What is carried along an edge: facts that come from none, from one, and from two. Each part goes through the kinds of instructions
-- in the same order.
use Rattle.std.specs.Prelude.{ℕ, Bool, true, false, cond, not, if◌then◌else◌, ◌&&◌, ◌||◌, nat_eq, List, [], ◌∷◌, ◌++◌, drop, map, Option, Some, None, Contains, slice_get}
use Rattle.std.specs.List.{flat_map, list_any}
use Rattle.life_types.specs.Trees.{holds_owner}
use Rattle.life_types.specs.TypeTests.{is_pointer, is_unique}
use Rattle.life_types.specs.Types.{Types}
use Rattle.life_types.specs.declared.place.Place.{Place}
use Rattle.life_types.specs.declared.ty.Ty.{Ty}
use Rattle.life_types.specs.declared.ty.Ty.TheVariants as ty
use Rattle.life_types.specs.declared.ty.TyId.{TyId}
use Rattle.life_core.specs.Function.{Function}
use Rattle.life_core.specs.Linked.{spot_of}
use Rattle.life_core.specs.Step.{Step, Live, End, Copy, Move, Aim, Repoint, Advance, Cut, Cursor, Changes, Make, Call, Change, Erase, Test}
use Rattle.life_core.specs.Step as step
use Rattle.life_core.specs.Tree.{Node, Action, Question, Return, Stop, Spot}
use Rattle.life_core.specs.declared.instr.Form.{Form}
use Rattle.life_core.specs.declared.instr.Form.TheVariants as form
use Rattle.life_core.specs.declared.instr.Made.{Made}
use Rattle.life_core.specs.declared.instr.Made.TheVariants as made
use Rattle.life_core.specs.Operands.{Location, Operand, Source, Base, whole}
use Rattle.life_core.specs.Operands as named
use Rattle.life_core.specs.declared.program.Local.{Local}
use Rattle.life_core.specs.declared.stmt.Edge.{Edge}
use Rattle.life_pset.specs.Elements.{local_place, local_locations, uninitialised, causes_of_end, changed, moved, owner_changed}
use Rattle.life_pset.specs.Places.{members_place, path, is_within}
use Rattle.life_pset.specs.Shapes.{is_variable_place, location_type, members_type, operand_type, place_type, tree_if, ty_if}
use Rattle.life_pset.specs.declared.element.AbsPlace.{AbsPlace}
use Rattle.life_pset.specs.declared.element.Cause.{Cause}
use Rattle.life_pset.specs.declared.element.Element.{Element}
use Rattle.life_pset.specs.declared.element.Element.TheVariants as element
use Rattle.life_pset.specs.declared.element.Fact.{Fact}
use Rattle.life_pset.specs.declared.element.Root.{Root}
use Rattle.life_pset.specs.declared.element.Root.TheVariants as root
use Rattle.life_rules.specs.declared.kill.Kill.{Kill}
use Rattle.life_rules.specs.declared.kill.KillPair.{KillPair}
pub use Rattle.life_contract.specs.Located.{located, is_location, is_root, is_rooted}
pub use Rattle.life_rules.specs.Matching.{fact_at, facts_at, given_if, unless, facts_if, is_rooted_among, points_among, points_under, is_null, is_held, part_of, reached, position_in, gotten, given_over}
use Rattle.life_contract.specs.Signatures.{Signature}
use Rattle.life_rules.specs.Calling.{is_in_target, called_none, called_one, called_two}

-- ---- Kill by name: what points under a place that is changed becomes invalid, with the cause

abbrev pub named_kill : Place → Operand → Option Kill
named_kill place (named.Name l) = Some (record { owner = located l; cause = changed place l.local })
named_kill place (named.Through p members) = None

abbrev pub one_kill : Option Kill → KillPair
one_kill k = record { first = k; second = None }

-- what an instruction changes by its name
abbrev pub kills : Types → Function → Place → Step → KillPair
kills types f place (Copy to from) = if holds_owner (tree_if types (operand_type types f to)) then one_kill (named_kill place to) else one_kill None
kills types f place (Move to y) = record { first = Some (record { owner = local_place y; cause = moved place y }); second = named_kill place to }
kills types f place (Changes o change) = one_kill (named_kill place o)
kills types f place (Make u what) = one_kill (Some (record { owner = located u; cause = changed place u.local }))
kills types f place _ = one_kill None

abbrev pub is_killed_by : Option Kill → Element → Bool
is_killed_by None e = false
is_killed_by (Some k) e = points_under k.owner e

abbrev pub is_killed : KillPair → Element → Bool
is_killed ks e = is_killed_by ks.first e || is_killed_by ks.second e

-- what becomes of an element
abbrev pub after_kill : Option Kill → Element → Element
after_kill None e = e
after_kill (Some k) e = if points_under k.owner e then element.Invalid k.cause else e

-- ---- what is written: its old set is replaced

-- a location in what an operand names
abbrev pub is_in_named : Operand → AbsPlace → Bool
is_in_named (named.Name l) location = is_within (located l) location
is_in_named (named.Through p members) location = false

abbrev pub is_named : Operand → AbsPlace → Bool
is_named (named.Name l) location = is_location l location
is_named (named.Through p members) location = false

-- the pointer that is given the position of what was erased
abbrev pub is_erased_into : Change → AbsPlace → Bool
is_erased_into (Erase at into) location = is_location into location
is_erased_into _ location = false

abbrev pub writes : Step → AbsPlace → Bool
writes (Live x form) location = is_rooted x location
writes (End xs) location = is_rooted_among xs location
writes (Copy to from) location = is_in_named to location
writes (Move to y) location = is_location (whole y) location || is_named to location
writes (Aim p s) location = is_location p location
writes (Repoint p q) location = is_location p location
writes (Advance p q r direction) location = is_location p location
writes (Cut p q r count) location = is_location p location
writes (step.Element p b which) location = is_location p location
writes (Cursor p b end) location = is_location p location
writes (Changes o change) location = is_erased_into change location
writes (Make u what) location = is_location u location
writes (Call target g xs) location = is_in_target target location
writes _ location = false

-- an element doesn't stay where its root ended, or where it is killed
abbrev pub is_gone : Types → Function → Place → Step → Element → Bool
is_gone types f place (End xs) e = points_among xs e
is_gone types f place i e = is_killed (kills types f place i) e

-- a fact is dropped where its element doesn't stay, or its location is written
abbrev pub drops : Types → Function → Place → Step → Fact → Bool
drops types f place i fact = is_gone types f place i fact.element || writes i fact.location

-- ---- facts that come from none

-- the locations of one local
abbrev pub locations_at : Types → (parameters x : ℕ) → Option Local → List AbsPlace
locations_at types n x None = []
locations_at types n x (Some l) = local_locations types n x l

abbrev pub locations_of_local : Types → Function → ℕ → List AbsPlace
locations_of_local types f x = locations_at types f.parameters x (slice_get f.locals x)

-- what a raw pointer is when it comes to life
abbrev pub born_raw : Place → ℕ → Form → Element
born_raw place x form.Plain = element.Invalid (uninitialised place x)
born_raw place x form.Zero = element.Null

-- Live: views and spans are static, iterators and raw pointers have no value, or are null in the zero form, unique_ptrs are null, and
-- a vector or a string has a buffer
abbrev pub born : Place → ℕ → Form → Ty → Option Element
born place x form ty.View = Some element.Static
born place x form (ty.Span target constant) = Some element.Static
born place x form (ty.Iterator target constant) = Some (element.Invalid (uninitialised place x))
born place x form (ty.Raw target constant) = Some (born_raw place x form)
born place x form (ty.Reference target constant) = Some (born_raw place x form)
born place x form (ty.Unique target) = Some element.Null
born place x form ty.Text = Some element.Own
born place x form (ty.Vector item) = Some element.Own
born place x form _ = None

-- .. by the type with which the local was declared, so that a slot is born as the reference that it is
abbrev pub own_type : Option Local → Option TyId
own_type None = None
own_type (Some l) = Some l.ty

abbrev pub born_facts : Types → Function → Place → ℕ → Form → AbsPlace → List Fact
born_facts types f place x form l = facts_at l (born place x form (ty_if types (members_type types (own_type (slice_get f.locals x)) (path l))))

-- Copy, Move: a whole vector or string has a buffer
abbrev pub whole_facts : Types → Function → Operand → List Fact
whole_facts types f (named.Name l) = given_if (is_variable_place types f (located l)) (fact_at (located l) element.Own)
whole_facts types f (named.Through p members) = []

-- Aim: what a pointer is aimed at by name
abbrev pub named_in : (owned : Bool) → Operand → Option Element
named_in owned (named.Name l) = Some (element.At (part_of owned (located l)))
named_in owned (named.Through q members) = None

abbrev pub named_target : Source → Option Element
named_target named.Null = Some element.Null
named_target (named.Text n) = Some element.Static
named_target named.Empty = Some element.Static
named_target (named.Place o) = named_in false o
named_target (named.Whole o) = named_in true o
named_target (named.Get u) = None

-- Element, Cursor: into an owner that is named
abbrev pub named_element : Base → Option Element
named_element (named.Owner o) = named_in true o
named_element (named.Pointer l) = None

-- Change: erase gives the position in an owner that is named
abbrev pub named_position : Operand → Change → List Fact
named_position o (Erase at into) = facts_at (located into) (named_in true o)
named_position o _ = []

-- Make
abbrev pub made_element : Made → Element
made_element made.Null = element.Null
made_element made.Zero = element.Own
made_element (made.Of x) = element.Own

-- what an instruction makes of no fact
abbrev pub from_none : List Signature → Types → Function → Place → Step → List Fact
from_none sigs types f place (Live x form) = flat_map (born_facts types f place x form) (locations_of_local types f x)
from_none sigs types f place (Copy to from) = whole_facts types f to
from_none sigs types f place (Move to y) = fact_at (local_place y) (element.Moved (moved place y)) ∷ whole_facts types f to
from_none sigs types f place (Aim p s) = facts_at (located p) (named_target s)
from_none sigs types f place (step.Element p b which) = facts_at (located p) (named_element b)
from_none sigs types f place (Cursor p b end) = facts_at (located p) (named_element b)
from_none sigs types f place (Changes o change) = named_position o change
from_none sigs types f place (Make u what) = fact_at (located u) (made_element what) ∷ []
from_none sigs types f place (Call target g xs) = called_none types (slice_get sigs g.0) target
from_none sigs types f place _ = []

-- ---- facts that come from one

-- End: a pointer to what ended is invalid, unless it ended itself
abbrev pub invalid_facts : AbsPlace → List Cause → List Fact
invalid_facts l causes = map (λ c. fact_at l (element.Invalid c)) causes

abbrev pub ended_root : Function → Place → List ℕ → AbsPlace → Root → List Fact
ended_root f place xs l (root.Local x) = cond (list_any (λ y. nat_eq y x) xs) (invalid_facts l (causes_of_end f place x)) []
ended_root f place xs l (root.Input parameter member) = []

abbrev pub ended_element : Function → Place → List ℕ → AbsPlace → Element → List Fact
ended_element f place xs l element.Null = []
ended_element f place xs l (element.Invalid c) = []
ended_element f place xs l (element.Moved c) = []
ended_element f place xs l element.Own = []
ended_element f place xs l element.Static = []
ended_element f place xs l (element.At b) = ended_root f place xs l b.root

abbrev pub ended_facts : Function → Place → List ℕ → Fact → List Fact
ended_facts f place xs fact = cond (is_rooted_among xs fact.location) [] (ended_element f place xs fact.location fact.element)

-- Kill by name: a pointer under what is changed is invalid, unless it is written itself
abbrev pub killed_fact : Option Kill → Step → Fact → List Fact
killed_fact None i fact = []
killed_fact (Some k) i fact = given_if (points_under k.owner fact.element && not (writes i fact.location)) (fact_at fact.location (element.Invalid k.cause))

abbrev pub killed_facts : KillPair → Step → Fact → List Fact
killed_facts ks i fact = killed_fact ks.first i fact ++ killed_fact ks.second i fact

-- Copy: the pointers of what is written take the sets that those of the other have after the kill
abbrev pub copied_location : (from to location : AbsPlace) → AbsPlace
copied_location from to location = members_place to (drop from.length (path location))

abbrev pub copied_from : Types → Function → Option Kill → (to from : AbsPlace) → Fact → List Fact
copied_from types f k to from fact =
    given_if (is_within from fact.location && is_pointer (ty_if types (place_type types f fact.location))) (fact_at (copied_location from to fact.location) (after_kill k fact.element))

abbrev pub copied_facts : Types → Function → Option Kill → (to from : Operand) → Fact → List Fact
copied_facts types f k (named.Name to) (named.Name from) fact = copied_from types f k (located to) (located from) fact
copied_facts types f k _ _ fact = []

-- Move: a unique_ptr takes what the other gives over
abbrev pub moved_facts : Types → Function → Operand → ℕ → Fact → List Fact
moved_facts types f (named.Name to) y fact = facts_if (is_location (whole y) fact.location && is_unique (ty_if types (location_type types f to))) (located to) (given_over fact.element)
moved_facts types f (named.Through p members) y fact = []

-- Repoint, Advance, Cut: a pointer takes the set of another
abbrev pub taken : (pointer from : Location) → Fact → List Fact
taken p q fact = given_if (is_location q fact.location) (fact_at (located p) fact.element)

-- Aim: what another pointer points to, or a part of it
abbrev pub reached_from : (pointer : Location) → (owned : Bool) → Operand → Fact → List Fact
reached_from p owned (named.Name l) fact = []
reached_from p owned (named.Through q members) fact = facts_if (is_location q fact.location) (located p) (reached owned members fact.element)

abbrev pub aimed_from : (pointer : Location) → Source → Fact → List Fact
aimed_from p (named.Place o) fact = reached_from p false o fact
aimed_from p (named.Whole o) fact = reached_from p true o fact
aimed_from p (named.Get u) fact = facts_if (is_location u fact.location) (located p) (gotten (located u) fact.element)
aimed_from p _ fact = []

-- Element, Cursor: into an owner that another pointer points to, or with the set of a view or a span
abbrev pub element_from : (pointer : Location) → Base → Fact → List Fact
element_from p (named.Owner o) fact = reached_from p true o fact
element_from p (named.Pointer q) fact = taken p q fact

-- Change: erase gives the position in an owner that is reached through a pointer
abbrev pub position_from : (pointer : Location) → Operand → Fact → List Fact
position_from p (named.Name l) fact = []
position_from p (named.Through q members) fact = facts_if (is_location q fact.location) (located p) (position_in members fact.element)

abbrev pub position_facts : Operand → Change → Fact → List Fact
position_facts o (Erase at into) fact = position_from into o fact
position_facts o _ fact = []

-- what an instruction makes of one fact, beside keeping it and what it kills
abbrev pub makes : List Signature → Types → Function → Place → Step → Fact → List Fact
makes sigs types f place (End xs) fact = ended_facts f place xs fact
makes sigs types f place (Copy to from) fact = copied_facts types f (kills types f place (Copy to from)).first to from fact
makes sigs types f place (Move to y) fact = moved_facts types f to y fact
makes sigs types f place (Aim p s) fact = aimed_from p s fact
makes sigs types f place (Repoint p q) fact = taken p q fact
makes sigs types f place (Advance p q r direction) fact = taken p q fact
makes sigs types f place (Cut p q r count) fact = taken p q fact
makes sigs types f place (step.Element p b which) fact = element_from p b fact
makes sigs types f place (Cursor p b end) fact = element_from p b fact
makes sigs types f place (Changes o change) fact = position_facts o change fact
makes sigs types f place (Call target g xs) fact = called_one types (slice_get sigs g.0) xs target fact
makes sigs types f place _ fact = []

-- what comes of one fact: itself, unless it is dropped, what a kill leaves of it, and what is made of it
abbrev pub from_one : List Signature → Types → Function → Place → Step → Fact → List Fact
from_one sigs types f place i fact = unless (drops types f place i fact) fact ++ (killed_facts (kills types f place i) i fact ++ makes sigs types f place i fact)

-- ---- facts that come from two

-- Kill through a pointer: what points under a target of the pointer may be invalid, unless it is written itself
abbrev pub killed_under : Place → Step → (members : List ℕ) → (target : Element) → (victim : Fact) → List Fact
killed_under place i members (element.At a) b =
    given_if (points_under (members_place a members) b.element && not (writes i b.location)) (fact_at b.location (element.Invalid (owner_changed place)))
killed_under place i members _ b = []

abbrev pub killed_through : Place → Step → Operand → (target victim : Fact) → List Fact
killed_through place i (named.Name l) a b = []
killed_through place i (named.Through p members) a b = cond (is_location p a.location) (killed_under place i members a.element b) []

-- what comes of a target of the pointer through which an instruction changes an owner, and of a victim. A move kills twice, one after the
-- other: what points under the local that is moved from is invalid then, and so under no target any more
abbrev pub from_two : List Signature → Types → Function → Place → Step → Fact → Fact → List Fact
from_two sigs types f place (Copy to from) a b = if holds_owner (tree_if types (operand_type types f to)) then killed_through place (Copy to from) to a b else []
from_two sigs types f place (Move to y) a b = if points_under (local_place y) b.element then [] else killed_through place (Move to y) to a b
from_two sigs types f place (Changes o change) a b = killed_through place (Changes o change) o a b
from_two sigs types f place (Call target g xs) a b = called_two types place g.0 (slice_get sigs g.0) xs target a b
from_two sigs types f place _ a b = []

-- ---- the tests

-- what a branch of a test doesn't pass on
abbrev pub stops_at : Test → Option Bool → Fact → Bool
stops_at (step.NonZero r) branch fact = false
stops_at (step.NotNull p) None fact = false
stops_at (step.NotNull p) (Some holds) fact = is_location p fact.location && cond holds (is_null fact.element) (is_held fact.element)

-- ---- the points and the edges

abbrev pub node_none : List Signature → Types → Function → Place → Node → List Fact
node_none sigs types f place (Action i) = from_none sigs types f place i
node_none sigs types f place (Question t) = []
node_none sigs types f place Return = []
node_none sigs types f place Stop = []

abbrev pub node_one : List Signature → Types → Function → Place → Option Bool → Node → Fact → List Fact
node_one sigs types f place branch (Action i) fact = from_one sigs types f place i fact
node_one sigs types f place branch (Question t) fact = unless (stops_at t branch fact) fact
node_one sigs types f place branch Return fact = fact ∷ []
node_one sigs types f place branch Stop fact = fact ∷ []

abbrev pub node_two : List Signature → Types → Function → Place → Node → Fact → Fact → List Fact
node_two sigs types f place (Action i) a b = from_two sigs types f place i a b
node_two sigs types f place (Question t) a b = []
node_two sigs types f place Return a b = []
node_two sigs types f place Stop a b = []

abbrev pub none_at : List Signature → Types → Function → Option Spot → List Fact
none_at sigs types f None = []
none_at sigs types f (Some s) = node_none sigs types f s.place s.node

abbrev pub one_at : List Signature → Types → Function → Option Bool → Option Spot → Fact → List Fact
one_at sigs types f branch None fact = []
one_at sigs types f branch (Some s) fact = node_one sigs types f s.place branch s.node fact

abbrev pub two_at : List Signature → Types → Function → Option Spot → Fact → Fact → List Fact
two_at sigs types f None a b = []
two_at sigs types f (Some s) a b = node_two sigs types f s.place s.node a b

-- the edge gives the fact from these, which hold before its first point
abbrev pub Gives : List Signature → Types → Function → Edge → List Fact → Fact → Type 0
Gives sigs types f edge [] x = Contains (none_at sigs types f (spot_of f edge.from)) x
Gives sigs types f edge (a ∷ []) x = Contains (one_at sigs types f edge.branch (spot_of f edge.from) a) x
Gives sigs types f edge (a ∷ b ∷ []) x = Contains (two_at sigs types f (spot_of f edge.from) a b) x
Gives sigs types f edge (a ∷ b ∷ c ∷ more) x = ⊥
