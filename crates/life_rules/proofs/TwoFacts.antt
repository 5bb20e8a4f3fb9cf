-- What comes of two facts is what the first marks as a target, at the location of the other.
use Rattle.std.proofs.Common.{◌≡◌, Bool, true, false, cond, if◌then◌else◌, List, [], Option, Some, None, refl, ap, sym, ◌∙◌}
use Rattle.std.specs.Prelude.{ℕ, ◌&&◌, not, slice_get}
use Rattle.life_types.specs.Trees.{holds_owner}
use Rattle.life_types.specs.Types.{Types}
use Rattle.life_types.specs.declared.place.Place.{Place}
use Rattle.life_core.specs.Function.{Function}
use Rattle.life_core.specs.Operands.{Argument, Location, Name, Operand, Through}
use Rattle.life_core.specs.Step.{Step, Copy, Move, Changes, Call}
use Rattle.life_core.specs.Tree.{Node, Action, Question, Return, Stop, Spot}
use Rattle.life_pset.specs.Elements.{called, local_place, owner_changed}
use Rattle.life_pset.specs.Shapes.{operand_type, tree_if}
use Rattle.life_pset.specs.declared.element.Element.{Element}
use Rattle.life_pset.specs.declared.element.Element.TheVariants as element
use Rattle.life_pset.specs.declared.element.Fact.{Fact}
use Rattle.life_contract.specs.Arguments.{is_mutating_argument}
use Rattle.life_contract.specs.Located.{is_location}
use Rattle.life_contract.specs.Signatures.{Signature}
use Rattle.life_rules.specs.Calling.{called_two, is_in_target, killed_by_call}
use Rattle.life_rules.specs.Carrying.{from_two, killed_through, killed_under, node_two, two_at, writes}
use Rattle.life_rules.specs.Matching.{facts_at, facts_if, points_under}
use Rattle.life_rules.specs.Staying.{goes_through, mark, mark_through, marks, mutates, node_mark, node_marks, node_targets, node_writes, points_behind, points_through, spot_targets, spot_writes, step_mark, step_marks, targets}

-- ---- conditions around conditions

within : (outer inner : Bool) (facts : List Fact) → cond outer (cond inner facts []) [] ≡ cond (outer && inner) facts []
within true inner facts = refl
within false inner facts = refl

where_owned : (owned through marked : Bool) (facts : List Fact) → (if owned then cond (through && marked) facts [] else []) ≡ cond ((owned && through) && marked) facts []
where_owned true through marked facts = refl
where_owned false through marked facts = refl

unless_moved : (moved through points unwritten : Bool) (facts : List Fact)
    → (if moved then [] else cond (through && (points && unwritten)) facts []) ≡ cond (through && ((not moved && points) && unwritten)) facts []
unless_moved true true points unwritten facts = refl
unless_moved true false points unwritten facts = refl
unless_moved false through points unwritten facts = refl

-- ---- one kind after the other

under : (place : Place) (i : Step) (members : List ℕ) (t : Element) (b : Fact)
    → killed_under place i members t b ≡ facts_if (points_behind members t b.element && not (writes i b.location)) b.location (Some (element.Invalid (owner_changed place)))
under place i members (element.At a) b = refl
under place i members _ b = refl

through : (place : Place) (i : Step) (o : Operand) (a b : Fact)
    → killed_through place i o a b ≡ facts_if (goes_through o a.location && (points_through o a.element b.element && not (writes i b.location))) b.location (mark_through place o)
through place i (Name l) a b = refl
through place i (Through p members) a b =
    ap (λ facts. cond (is_location p a.location) facts []) (under place i members a.element b)
    ∙ within (is_location p a.location) (points_behind members a.element b.element && not (writes i b.location)) (facts_at b.location (Some (element.Invalid (owner_changed place))))

by_call : (place : Place) (g : ℕ) (result : Option Location) (t : Element) (b : Fact)
    → killed_by_call place g result t b ≡ facts_if (points_behind [] t b.element && not (is_in_target result b.location)) b.location (Some (element.Invalid (called place g)))
by_call place g result (element.At a) b = refl
by_call place g result _ b = refl

at_call : (types : Types) (place : Place) (g : ℕ) (sig : Option Signature) (xs : List Argument) (result : Option Location) (a b : Fact)
    → called_two types place g sig xs result a b
    ≡ facts_if (mutates types sig xs a.location && (points_behind [] a.element b.element && not (is_in_target result b.location))) b.location (Some (element.Invalid (called place g)))
at_call types place g None xs result a b = refl
at_call types place g (Some sig) xs result a b =
    ap (λ facts. cond (is_mutating_argument types sig xs a.location) facts []) (by_call place g result a.element b)
    ∙ within (is_mutating_argument types sig xs a.location) (points_behind [] a.element b.element && not (is_in_target result b.location)) (facts_at b.location (Some (element.Invalid (called place g))))

step_two : (sigs : List Signature) (types : Types) (f : Function) (place : Place) (i : Step) (a b : Fact)
    → from_two sigs types f place i a b ≡ facts_if (targets sigs types f i a.location && (step_marks i a.element b.element && not (writes i b.location))) b.location (step_mark place i)
step_two sigs types f place (Copy to from) a b =
    let owned = holds_owner (tree_if types (operand_type types f to)) in
    ap (λ (facts : List Fact). if owned then facts else []) (through place (Copy to from) to a b)
    ∙ where_owned owned (goes_through to a.location) (points_through to a.element b.element && not (writes (Copy to from) b.location)) (facts_at b.location (mark_through place to))
step_two sigs types f place (Move to y) a b =
    let moved = points_under (local_place y) b.element in
    ap (λ (facts : List Fact). if moved then [] else facts) (through place (Move to y) to a b)
    ∙ unless_moved moved (goes_through to a.location) (points_through to a.element b.element) (not (writes (Move to y) b.location)) (facts_at b.location (mark_through place to))
step_two sigs types f place (Changes o change) a b = through place (Changes o change) o a b
step_two sigs types f place (Call result g xs) a b = at_call types place g.0 (slice_get sigs g.0) xs result a b
step_two sigs types f place _ a b = refl

node_two_as : (sigs : List Signature) (types : Types) (f : Function) (place : Place) (n : Node) (a b : Fact)
    → node_two sigs types f place n a b ≡ facts_if (node_targets sigs types f n a.location && (node_marks n a.element b.element && not (node_writes n b.location))) b.location (node_mark place n)
node_two_as sigs types f place (Action i) a b = step_two sigs types f place i a b
node_two_as sigs types f place (Question t) a b = refl
node_two_as sigs types f place Return a b = refl
node_two_as sigs types f place Stop a b = refl

pub twos : (sigs : List Signature) (types : Types) (f : Function) (spot : Option Spot) (a b : Fact)
    → two_at sigs types f spot a b ≡ facts_if (spot_targets sigs types f spot a.location && (marks spot a.element b.element && not (spot_writes spot b.location))) b.location (mark spot)
twos sigs types f None a b = refl
twos sigs types f (Some s) a b = node_two_as sigs types f s.place s.node a b
