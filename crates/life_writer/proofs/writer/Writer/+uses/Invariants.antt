use Rattle.std.proofs.Common.{◌≡◌, ◌+◌, ◌*◌, None, drop, map, take}
use Rattle.life_typed.specs.Delimiters.{delimiters_view}
use Rattle.life_typed.specs.TypedForm.{forms, typed_views, whole}
use Rattle.life_typed.specs.declared.typed_program.TypedLocal.{TypedLocal}
use Rattle.life_core.specs.Operands.{argument_of, location_of, object_named, operand_of}
use Rattle.life_core.specs.Tree.{condition_tree}
use Rattle.life_writer.specs.Behind.{ending}
use Rattle.life_writer.specs.Chains.{token_behind}
use Rattle.life_writer.specs.Characters.{seen}
use Rattle.life_writer.specs.ExpressionForms.{uses}
use Rattle.life_writer.specs.Giving.{arguments}
use Rattle.life_writer.specs.Lists.{assigned_members, pushed}
use Rattle.life_writer.specs.PartUses.{expressions_uses}
use Rattle.life_writer.specs.Parts.{inside, node_form, node_view, part_form, part_view}
use Rattle.life_writer.specs.Using.{condition, own_value}
use Rattle.life_writer.specs.Views.{around_of, seen_of, state_of}
use Rattle.life_writer.specs.Writing.{gives}
use Rattle.life_writer.proofs.FollowingPointers.{own_location}
use Rattle.life_writer.proofs.Handing.{Handed, behind_left}
use Rattle.life_writer.proofs.Weights.{target_weight, weight}
use Rattle.life_writer.proofs.writer.Writer.+uses.Given as goal

-- ---- what is gone down: the expression, and in one expression from what is written of it to its parts

abbrev pub decreases-part_value : goal.decreases-part_value
decreases-part_value l = weight (part_form l.part) * 64 + 30

abbrev pub decreases-own_value : goal.decreases-own_value
decreases-own_value l = weight (part_form l.part) * 64 + 29

abbrev pub decreases-lone_value : goal.decreases-lone_value
decreases-lone_value l = weight (whole (node_view l.node.now)) * 64 + 28

abbrev pub decreases-operated : goal.decreases-operated
decreases-operated l = weight (node_form l.node) * 64 + 2

abbrev pub decreases-operated_with : goal.decreases-operated_with
decreases-operated_with l = weight (whole (part_view l.right)) * 64 + 31

abbrev pub decreases-operated_by : goal.decreases-operated_by
decreases-operated_by l = (weight (part_form l.left) + weight (whole (part_view l.right))) * 64 + 34

abbrev pub decreases-read_or_made : goal.decreases-read_or_made
decreases-read_or_made l = weight (whole (node_view l.node.now)) * 64 + 19

abbrev pub decreases-made : goal.decreases-made
decreases-made l = weight (whole (node_view l.node.now)) * 64 + 10

abbrev pub decreases-arguments : goal.decreases-arguments
decreases-arguments l = weight (forms (typed_views l.arguments.now)) * 64 + 1

abbrev pub decreases-argument : goal.decreases-argument
decreases-argument l = weight (whole (part_view l.part)) * 64 + 41

abbrev pub decreases-part_condition : goal.decreases-part_condition
decreases-part_condition l = weight (part_form l.part) * 64 + 30

abbrev pub decreases-lone_condition : goal.decreases-lone_condition
decreases-lone_condition l = weight (whole (node_view l.node.now)) * 64 + 28

abbrev pub decreases-joined : goal.decreases-joined
decreases-joined l = weight (node_form l.node) * 64 + 2

abbrev pub decreases-joined_with : goal.decreases-joined_with
decreases-joined_with l = weight (whole (part_view l.right)) * 64 + 31

abbrev pub decreases-non_zero : goal.decreases-non_zero
decreases-non_zero l = weight (whole (node_view l.node.now)) * 64 + 21

abbrev pub decreases-decision : goal.decreases-decision
decreases-decision l = weight (whole (node_view l.node.now)) * 64 + 20

abbrev pub decreases-part_decision : goal.decreases-part_decision
decreases-part_decision l = weight (part_form l.part) * 64 + 21

abbrev pub decreases-decided : goal.decreases-decided
decreases-decided l = (weight (part_form l.left) + weight (whole (part_view l.right))) * 64 + 31

abbrev pub decreases-part_pointer : goal.decreases-part_pointer
decreases-part_pointer l = weight (part_form l.part) * 64 + 18

abbrev pub decreases-lone_pointer : goal.decreases-lone_pointer
decreases-lone_pointer l = weight (part_form l.part) * 64 + 17

abbrev pub decreases-own_pointer : goal.decreases-own_pointer
decreases-own_pointer l = weight (part_form l.part) * 64 + 19

abbrev pub decreases-moved_to : goal.decreases-moved_to
decreases-moved_to l = weight (node_form l.node) * 64 + 3

abbrev pub decreases-moved_on : goal.decreases-moved_on
decreases-moved_on l = weight (whole (node_view l.node.now)) * 64 + 2

abbrev pub decreases-part_pointing : goal.decreases-part_pointing
decreases-part_pointing l = weight (part_form l.part) * 64 + 16

abbrev pub decreases-node_pointing : goal.decreases-node_pointing
decreases-node_pointing l = weight (whole (node_view l.node.now)) * 64 + 15

abbrev pub decreases-points_to : goal.decreases-points_to
decreases-points_to l = weight (whole (node_view l.node.now)) * 64 + 8

abbrev pub decreases-part_points_to : goal.decreases-part_points_to
decreases-part_points_to l = weight (part_form l.part) * 64 + 9

abbrev pub decreases-part_operand : goal.decreases-part_operand
decreases-part_operand l = weight (part_form l.part) * 64 + 14

abbrev pub decreases-part_at : goal.decreases-part_at
decreases-part_at l = weight (part_form l.part) * 64 + 13

abbrev pub decreases-placed_on : goal.decreases-placed_on
decreases-placed_on l = weight (node_form l.node) * 64 + 2

abbrev pub decreases-at : goal.decreases-at
decreases-at l = weight (whole (node_view l.node.now)) * 64 + 9

abbrev pub decreases-target_of : goal.decreases-target_of
decreases-target_of l = weight (part_form l.pointer) * 64 + 31

abbrev pub decreases-not_null : goal.decreases-not_null
decreases-not_null l = weight (node_form l.node) * 64 + 18

abbrev pub decreases-nullable : goal.decreases-nullable
decreases-nullable l = weight (whole (node_view l.node.now)) * 64 + 17

abbrev pub decreases-node_operand : goal.decreases-node_operand
decreases-node_operand l = weight (whole (node_view l.node.now)) * 64 + 12

abbrev pub decreases-whole : goal.decreases-whole
decreases-whole l = weight (whole (node_view l.node.now)) * 64 + 13

abbrev pub decreases-part_base : goal.decreases-part_base
decreases-part_base l = weight (part_form l.part) * 64 + 19

abbrev pub decreases-indexed : goal.decreases-indexed
decreases-indexed l = (weight (part_form l.base) + weight (whole (part_view l.index))) * 64 + 31

abbrev pub decreases-end_of : goal.decreases-end_of
decreases-end_of l = weight (part_form l.base) * 64 + 31

abbrev pub decreases-cursor : goal.decreases-cursor
decreases-cursor l = weight (part_form l.base) * 64 + 31

abbrev pub decreases-sized : goal.decreases-sized
decreases-sized l = weight (part_form l.base) * 64 + 30

abbrev pub decreases-emptied : goal.decreases-emptied
decreases-emptied l = weight (part_form l.base) * 64 + 31

abbrev pub decreases-pointer_argument : goal.decreases-pointer_argument
decreases-pointer_argument l = weight (whole (part_view l.part)) * 64 + 40

-- what is given

abbrev pub decreases-value_given : goal.decreases-value_given
decreases-value_given l = weight (whole (part_view l.part)) * 64 + 35

abbrev pub decreases-object_given : goal.decreases-object_given
decreases-object_given l = weight (whole (part_view l.part)) * 64 + 34

abbrev pub decreases-given_in : goal.decreases-given_in
decreases-given_in l = weight (whole (part_view l.part)) * 64 + 36

abbrev pub decreases-given_over : goal.decreases-given_over
decreases-given_over l = weight (whole (part_view l.part)) * 64 + 37

abbrev pub decreases-bound : goal.decreases-bound
decreases-bound l = weight (whole (part_view l.part)) * 64 + 38

-- owners and structs

abbrev pub decreases-part_object : goal.decreases-part_object
decreases-part_object l = weight (part_form l.part) * 64 + 7

abbrev pub decreases-object : goal.decreases-object
decreases-object l = weight (whole (node_view l.node.now)) * 64 + 6

abbrev pub decreases-object_last : goal.decreases-object_last
decreases-object_last l = weight (whole (node_view l.node.now)) * 64 + 5

abbrev pub decreases-string : goal.decreases-string
decreases-string l = weight (part_form l.inner) * 64 + 40

abbrev pub decreases-string_of_string : goal.decreases-string_of_string
decreases-string_of_string l = weight (whole (part_view l.part)) * 64 + 39

abbrev pub decreases-owned : goal.decreases-owned
decreases-owned l = weight (part_form l.argument) * 64 + 40

abbrev pub decreases-concatenated : goal.decreases-concatenated
decreases-concatenated l = (weight (part_form l.left) + weight (whole (part_view l.right))) * 64 + 33

abbrev pub decreases-seen : goal.decreases-seen
decreases-seen l = weight (part_form l.part) * 64 + 32

abbrev pub decreases-lone_seen : goal.decreases-lone_seen
decreases-lone_seen l = weight (part_form l.part) * 64 + 31

abbrev pub decreases-text_on : goal.decreases-text_on
decreases-text_on l = weight (node_form l.node) * 64 + 2

abbrev pub decreases-owned_by : goal.decreases-owned_by
decreases-owned_by l = weight (whole (node_view l.node.now)) * 64 + 14

-- operators

abbrev pub decreases-compared : goal.decreases-compared
decreases-compared l = (weight (part_form l.left) + weight (whole (part_view l.right))) * 64 + 33

abbrev pub decreases-advanced : goal.decreases-advanced
decreases-advanced l = (weight (part_form l.left) + weight (whole (part_view l.right))) * 64 + 32

abbrev pub decreases-advanced_by : goal.decreases-advanced_by
decreases-advanced_by l = weight (whole (part_view l.right)) * 64 + 31

abbrev pub decreases-member_at : goal.decreases-member_at
decreases-member_at l = weight (part_form l.base) * 64 + 31

-- member functions

abbrev pub decreases-method_made : goal.decreases-method_made
decreases-method_made l = (weight (part_form l.base) + weight (forms (typed_views l.arguments.now))) * 64 + 40

abbrev pub decreases-method_at : goal.decreases-method_at
decreases-method_at l = (weight (part_form l.base) + weight (forms (typed_views l.arguments.now))) * 64 + 40

abbrev pub decreases-method_pointing : goal.decreases-method_pointing
decreases-method_pointing l = (weight (part_form l.base) + weight (forms (typed_views l.arguments.now))) * 64 + 40

abbrev pub decreases-erased : goal.decreases-erased
decreases-erased l = (weight (part_form l.base) + weight (forms (typed_views l.arguments.now))) * 64 + 39

abbrev pub decreases-got : goal.decreases-got
decreases-got l = weight (part_form l.base) * 64 + 31

abbrev pub decreases-cut : goal.decreases-cut
decreases-cut l = (weight (part_form l.base) + weight (forms (typed_views l.arguments.now))) * 64 + 39

abbrev pub decreases-cut_by : goal.decreases-cut_by
decreases-cut_by l = weight (forms (typed_views l.arguments.now)) * 64 + 32

abbrev pub decreases-size_if : goal.decreases-size_if
decreases-size_if l = weight (part_form l.count) * 64 + 31

-- lists

abbrev pub decreases-list : goal.decreases-list
decreases-list l = weight (forms (typed_views l.elements.now)) * 64 + 4

abbrev pub decreases-filled_in : goal.decreases-filled_in
decreases-filled_in l = weight (forms (typed_views l.elements.now)) * 64 + 3

abbrev pub decreases-pushed : goal.decreases-pushed
decreases-pushed l = weight (forms (typed_views l.elements.now)) * 64 + 2

abbrev pub decreases-assigned_members : goal.decreases-assigned_members
decreases-assigned_members l = weight (forms (typed_views l.elements.now)) * 64 + 2

-- assignments

abbrev pub decreases-target_operand : goal.decreases-target_operand
decreases-target_operand l = target_weight l.target * 64 + 20

abbrev pub decreases-target_location : goal.decreases-target_location
decreases-target_location l = target_weight l.target * 64 + 20

abbrev pub decreases-acted : goal.decreases-acted
decreases-acted l = target_weight l.target * 64 + 21

abbrev pub decreases-part_assigned : goal.decreases-part_assigned
decreases-part_assigned l = (weight (whole (part_view l.part)) + target_weight l.target) * 64 + 45

abbrev pub decreases-owner_act : goal.decreases-owner_act
decreases-owner_act l = weight (whole (part_view l.part)) * 64 + 30

abbrev pub decreases-value_act : goal.decreases-value_act
decreases-value_act l = weight (whole (part_view l.part)) * 64 + 29

abbrev pub decreases-struct_act : goal.decreases-struct_act
decreases-struct_act l = weight (whole (part_view l.part)) * 64 + 30

abbrev pub decreases-replacing : goal.decreases-replacing
decreases-replacing l = weight (whole (node_view l.node.now)) * 64 + 7

abbrev pub decreases-part_replacing : goal.decreases-part_replacing
decreases-part_replacing l = weight (part_form l.part) * 64 + 8

abbrev pub decreases-string_replacing : goal.decreases-string_replacing
decreases-string_replacing l = weight (part_form l.inner) * 64 + 9

-- ---- loops

-- the arguments so far and those that are left are all
abbrev pub invariant-arguments-arguments : goal.invariant-arguments-arguments
invariant-arguments-arguments l =
    Handed (around_of l.a) (behind_left (delimiters_view l.delimiters) l.number) (map argument_of l.given.items) (drop l.number l.arguments) (drop l.number (map (λ (p : TypedLocal). p.ty) l.parameters)) (state_of l.self)
    (arguments (around_of l.a) (expressions_uses (around_of l.a) l.arguments) (delimiters_view l.delimiters) (map (λ (p : TypedLocal). p.ty) l.parameters) (state_of l.initial.self))

-- the operands so far are written
abbrev pub invariant-own_value-operators : goal.invariant-own_value-operators
invariant-own_value-operators l = own_value (uses (around_of l.a) (inside (take l.number l.within))) l.behind None (state_of l.fn.self) ≡ gives l.register (state_of l.self)

abbrev pub invariant-part_condition-operators : goal.invariant-part_condition-operators
invariant-part_condition-operators l =
    condition (uses (around_of l.a) (inside (take l.number l.within))) (ending (token_behind l.within l.number l.part.place)) (state_of l.fn.self) ≡ gives (condition_tree l.condition) (state_of l.self)

abbrev pub invariant-part_pointer-links : goal.invariant-part_pointer-links
invariant-part_pointer-links l = own_location (around_of l.a) (state_of l.fn.self) (inside (take l.number l.within)) ≡ gives (location_of l.pointer) (state_of l.self)

abbrev pub invariant-part_at-links : goal.invariant-part_at-links
invariant-part_at-links l = (uses (around_of l.a) (inside (take l.number l.within))).at (state_of l.fn.self) ≡ gives (operand_of l.place) (state_of l.self)

abbrev pub invariant-seen-operators : goal.invariant-seen-operators
invariant-seen-operators l = seen (uses (around_of l.a) (inside (take l.number l.within))) (state_of l.fn.self) ≡ gives (seen_of l.text) (state_of l.self)

-- the elements that are left are pushed as all were
abbrev pub invariant-pushed-elements : goal.invariant-pushed-elements
invariant-pushed-elements l =
    pushed l.ty (object_named l.local) (expressions_uses (around_of l.a) (drop l.number l.elements)) (behind_left (delimiters_view l.delimiters) l.number) (state_of l.self)
    ≡ pushed l.ty (object_named l.local) (expressions_uses (around_of l.a) l.elements) (delimiters_view l.delimiters) (state_of l.initial.self)

-- .. and assigned
abbrev pub invariant-assigned_members-members : goal.invariant-assigned_members-members
invariant-assigned_members-members l =
    assigned_members (around_of l.a) l.index (drop l.index l.members) (object_named l.local) (expressions_uses (around_of l.a) (drop l.index l.elements)) (behind_left (delimiters_view l.delimiters) l.index) (state_of l.self)
    ≡ assigned_members (around_of l.a) 0 l.members (object_named l.local) (expressions_uses (around_of l.a) l.elements) (delimiters_view l.delimiters) (state_of l.initial.self)
