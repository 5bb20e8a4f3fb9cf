use Rattle.std.proofs.Common.{◌≡◌, ◌+◌, ℕ, ◌∷◌, [], List, None, Option, Some, drop, map, take, sym, ap, subst, ◌∙◌, arith, refl, rules}
use Rattle.std.proofs.lemmas.Int.{to_z-of_z}
use Rattle.std.proofs.lemmas.List.{map-append}
use Rattle.std.specs.Int.{w64}
use mir.Val.{SFits}
use Rattle.life_typed.specs.Delimiters.{delimiters_view}
use Rattle.life_typed.specs.Operators.{is_nullable}
use Rattle.life_typed.specs.TypedForm.{Form, Typed, forms, typed, typed_views, whole}
use Rattle.life_typed.specs.declared.typed_program.TypedLocal.{TypedLocal}
use Rattle.life_core.specs.Operands.{Argument, Base, Get, GivenOver, Location, Operand, Owner, PointerOf, argument_of, base_of, behind, object_named, operand_of, location_of, whole as all_of}
use Rattle.life_core.specs.Step.{Advance, NonZero, NotNull, Size, Step}
use Rattle.life_types.specs.declared.ty.Ty.{Ty}
use Rattle.life_writer.specs.Around.{own_type, type_of}
use Rattle.life_writer.specs.Bases.{element, reference_to}
use Rattle.life_writer.specs.Building.{Fill, built}
use Rattle.life_writer.specs.Registers.{computed, eval, wanted}
use Rattle.life_core.specs.Tree.{condition_tree, tree_of}
use Rattle.life_writer.specs.Behind.{ending, lasting}
use Rattle.life_writer.specs.Chains.{advanced_by, joined_on, moved_on, moved_to, operated_on, placed_on, text_on}
use Rattle.life_writer.specs.Characters.{InString, Seen, concatenated, seen}
use Rattle.life_writer.specs.ExpressionForms.{binary_uses, target_at, uses, uses_if}
use Rattle.life_writer.specs.Calls.{call_for, called}
use Rattle.life_writer.specs.Giving.{argument, arguments, copied, given, given_over, object_by, pointer_argument}
use Rattle.life_writer.specs.Pointers.{As, By, Pointing, aimed, located, pointed}
use Rattle.life_writer.specs.PartUses.{expressions_uses, node_uses, part_uses}
use Rattle.life_writer.specs.Parts.{inside, node_form, part_form, part_view, shape_form}
use Rattle.life_writer.specs.Uses.{Remaining, Uses, filled, lived, own}
use Rattle.life_writer.specs.Using.{condition, location_in, nullable, object_in, own_value, owned_by, read_or_made, operand, operand_by, pointer, pointing, pointing_by, temporary_of, value, with_member}
use Rattle.life_writer.specs.Views.{act_of, around_of, called_of, destination_of, keeps_of, last_of, seen_of, state_of, pointing_of}
use Rattle.life_writer.specs.Writing.{State, Gives, ◌>>◌, emit, gives, mapped}
use Rattle.std.specs.Prelude.{option_map}
use Rattle.life_writer.specs.declared.behind.Behind.{Behind}
use Rattle.life_writer.specs.declared.parts.Node.{Node}
use Rattle.life_writer.specs.declared.parts.Part.{Part}
use Rattle.life_writer.specs.declared.parts.Shape.{Shape}
use Rattle.life_writer.specs.declared.rows.Row.{Row}
use Rattle.life_writer.proofs.Begun.{call_given, finished, given_as, given_over_as, place_bound, pointer_given, temporary_bound, value_argument, value_saved, place_wanted, pointer_located}
use Rattle.life_writer.proofs.Decided.{condition_decided, condition_pointer, condition_value, decides, decision_behind, leaves, nothing_there, tested_behind, value_decided, value_undecided}
use Rattle.life_writer.proofs.Giving.{answered_as, answers_as, answers_if_as, negation_gives}
use Rattle.life_writer.proofs.Handing.{Handed, all_handed, behind_left, no_parameter, none_handed, turn}
use Rattle.life_writer.proofs.Made.{is_made, is_read, made_between, made_called, made_negated, made_number, made_taken, made_within, operated_between, operated_computes, operated_goes_on}
use Rattle.life_writer.proofs.MadeTests.{both_decided, joined_answers, joined_between, null_decided, some_decided}
use Rattle.life_writer.proofs.Opened.{opened_uses, value_converted, value_same}
use Rattle.life_writer.proofs.Turns.{condition_turn, last_condition, last_link, last_value, link_turn, value_turn, within_lighter}
use Rattle.life_writer.proofs.Weights.{argument_lighter, call_lighter, side_lighter, weight}
use Rattle.life_writer.proofs.FirstOperands.{cut_first, erased_first, first_lighter, second_lighter}
use Rattle.life_writer.proofs.FollowingPointers.{advanced_alone, cut_alone, next_own, next_pointer, own_location}
use Rattle.life_writer.proofs.FollowingPlaces.{next_place}
use Rattle.life_writer.proofs.FollowingTexts.{next_text}
use Rattle.life_writer.proofs.Nameless.{method_nameless, operator_nameless, string_replacing, text_undecided}
use Rattle.life_writer.specs.Rows.{advances, row_between}
use Rattle.life_writer.specs.Temporaries.{temporary}
use Rattle.std.proofs.lemmas.Result.{on_ok_weaker}
use Rattle.life_writer.specs.Targets.{target_of}
use Rattle.life_writer.proofs.Assigned.{acted_on, not_replaced, owner_assigned, pointer_assigned, replaced_is, struct_assigned, value_assigned}
use Rattle.life_types.specs.declared.ty.Ty.TheVariants as ty
use Rattle.life_typed.specs.declared.typed_expr.Category.{Category}
use Rattle.life_writer.specs.declared.acts.Act.TheVariants as action
use Rattle.life_core.specs.declared.instr.Form.TheVariants.{Plain}
use Rattle.life_core.specs.declared.instr.Made.TheVariants as made
use Rattle.life_core.specs.declared.operand.Which.TheVariants as which
use Rattle.life_core.specs.declared.operation.Operation.TheVariants as operation
use Rattle.life_writer.specs.Assigning.{owner_by, replaced_by, struct_by}
use Rattle.life_writer.specs.MethodForms.{size_if}
use Rattle.life_writer.specs.Lists.{list_object}
use Rattle.life_writer.specs.OwnerForms.{copied_at, made_at, owned_operand, set_to, standing, string_of, string_of_string, string_uses}
use Rattle.life_writer.proofs.ListTurns.{all_assigned, all_pushed, list_of_none, list_of_some, member_turn, members_past, pushed_turn, struct_filled, vector_filled}
use Rattle.life_writer.proofs.StringsBuilt.{nothing_replaced, place_unreplaced, string_copied, string_of_view, string_replaced}
use Rattle.life_writer.proofs.Sequences.{called_given, compares, concatenates, seen_character, seen_string, seen_view}
use Rattle.life_writer.proofs.Elements.{argument_as, base_owned, base_seen, has_view, method_undecided, pointer_handed}
use Rattle.life_writer.specs.declared.chains.Chain.TheVariants as chain
use Rattle.life_writer.proofs.writer.Writer.+uses.Goals as goal
use Rattle.life_writer.specs.Conditions as conditions
use Rattle.life_types.specs.declared.ty.Class.TheVariants as classes

-- ---- values

pub part_value-returns-then-eq : goal.part_value-returns-then-eq
part_value-returns-then-eq t c =
    value_same (around_of c.args.a.now) c.args.part c.in-Some.found c.args.behind c.own_type.result c.args.to c.args.into (state_of c.args.self.now) (state_of c.own_value.new.self) c.own_value.result
    c.in-Some.is c.own_type.ensures (sym c.eq.ensures ∙ c.if-eq.true) c.own_value.ensures

pub part_value-returns : goal.part_value-returns
part_value-returns t c =
    value_converted (around_of c.args.a.now) c.args.part c.in-Some.found c.args.behind c.own_type.result c.args.to c.args.into (state_of c.args.self.now) (state_of c.own_value-2.new.self) (state_of c.eval.new.self)
    c.in_ok-register.register c.eval.result c.in-Some.is c.own_type.ensures (sym c.eq.ensures ∙ c.if-eq.false) c.in_ok-register.ensures c.eval.ensures

pub own_value-returns-then-not-is_link : goal.own_value-returns-then-not-is_link
own_value-returns-then-not-is_link t c =
    answers_as (λ x. x) c.lone_value.result _ _ _
    (ap (λ (e : Uses). own_value e c.args.behind c.args.into (state_of c.args.self.now)) (opened_uses (around_of c.args.a.now) c.args.part c.in-Some.part c.opened-node.result c.in-Some.is c.opened-node.ensures.node))
    c.lone_value.ensures

pub own_value-own_value-requires : goal.own_value-own_value-requires
own_value-own_value-requires t c =
    let lighter = within_lighter c.opened-node.result c.in-Some.part c.opened-node.ensures.node c.opened-node.ensures.left chain.Computed c.is_link.result c.is_link.ensures c.if-not-is_link.false
    c.chain_begins-from.result c.chain_begins-from.result c.chain_begins-from.ensures.links (omega arith) c.chain_begins-from.ensures.few in
    let first = ap weight c.last_of.ensures.form in
    let all = ap (λ (o : Option Part). weight (part_form o)) c.in-Some.is in
    omega arith

pub own_value-operators-init : goal.own_value-operators-init
own_value-operators-init t c =
    ap (λ (f : Form). own_value (uses (around_of c.args.a.now) f) c.args.behind None (state_of c.args.self.now)) (sym c.last_of.ensures.form) ∙ c.in_ok-register.ensures

pub own_value-operated-requires : goal.own_value-operated-requires
own_value-operated-requires t c =
    let lighter = within_lighter c.opened-node.result c.in-Some.part c.opened-node.ensures.node c.opened-node.ensures.left chain.Computed c.is_link.result c.is_link.ensures c.if-not-is_link.false
    c.chain_begins-from.result (c.operators.number + 1) c.chain_begins-from.ensures.links (omega arith) (omega arith) in
    let next = ap weight (c.opened-next.ensures ∙ c.last_of-in-operators.ensures.form) in
    let all = ap (λ (o : Option Part). weight (part_form o)) c.in-Some.is in
    omega arith

pub own_value-operators-preserved : goal.own_value-operators-preserved
own_value-operators-preserved t c =
    value_turn (around_of c.args.a.now) c.args.behind c.in-Some.part.within.now c.chain_begins-from.result c.operators.number c.chain_begins-from.ensures.links (omega arith) c.operators-test.true
    (state_of c.args.self.now) (state_of c.operators.self) (state_of c.operated.new.self) c.operators.register c.in_ok-register-2.register (node_form c.opened-next.result)
    c.operators.invariant (c.opened-next.ensures ∙ c.last_of-in-operators.ensures.form) c.in_ok-register-2.ensures

pub own_value-returns : goal.own_value-returns
own_value-returns t c =
    answers_as (λ x. x) c.operated-2.result _ _ _
    (ap (λ (o : Option Part). own_value (part_uses (around_of c.args.a.now) o) c.args.behind c.args.into (state_of c.args.self.now)) c.in-Some.is)
    (last_value c.opened-node.result c.in-Some.part c.opened-node.ensures.node c.opened-node.ensures.left (around_of c.args.a.now) c.args.behind c.is_link.result c.is_link.ensures c.if-not-is_link.false
    c.operators.number c.operators-test.false c.args.into (state_of c.args.self.now) (state_of c.operators.self) c.operators.register c.operated-2.result (state_of c.operated-2.new.self)
    c.operators.invariant c.operated-2.ensures)

pub lone_value-returns-in-Some : goal.lone_value-returns-in-Some
lone_value-returns-in-Some t c =
    let e = node_uses (around_of c.args.a.now) c.args.node.now in
    value_decided condition_tree c.in-Some.condition c.args.into c.own_type-ty.result (own e) e.place e.category (e.decision (lasting c.args.behind)) e.at (e.made c.args.behind)
    (state_of c.args.self.now) (state_of c.decision.new.self) (state_of c.by_branch.new.self) c.by_branch.result c.own_type-ty.ensures
    (decides condition_tree c.in_ok-condition.field-0 c.in-Some.condition (e.decision (lasting c.args.behind)) (state_of c.args.self.now) (state_of c.decision.new.self) c.in-Some.is
    (decision_behind e c.in_ok-condition.field-0 c.lasting.result (lasting c.args.behind) (state_of c.args.self.now) (state_of c.decision.new.self) c.lasting.ensures c.in_ok-condition.ensures))
    c.by_branch.ensures

pub lone_value-returns : goal.lone_value-returns
lone_value-returns t c =
    let e = node_uses (around_of c.args.a.now) c.args.node.now in
    let none = leaves condition_tree c.in_ok-condition.field-0 (e.decision (lasting c.args.behind)) (state_of c.args.self.now) (state_of c.decision.new.self)
    (nothing_there c.in_ok-condition.field-0 c.in_default.not-Some)
    (decision_behind e c.in_ok-condition.field-0 c.lasting.result (lasting c.args.behind) (state_of c.args.self.now) (state_of c.decision.new.self) c.lasting.ensures c.in_ok-condition.ensures) in
    value_undecided c.args.into (own e) e.place e.category (e.decision (lasting c.args.behind)) e.at (e.made c.args.behind)
    (state_of c.args.self.now) (state_of c.decision.new.self) (state_of c.read_or_made.new.self) c.read_or_made.result none.0 none.1 c.read_or_made.ensures

pub operated-returns-in-Binary : goal.operated-returns-in-Binary
operated-returns-in-Binary t c =
    let a = around_of c.args.a.now in let node = c.in-Some.node in
    answers_as (λ x. x) c.operated_with.result _ _ _
    (ap (λ (n : Option Node). operated_on a (node_form n) c.args.behind c.args.register c.args.into (state_of c.args.self.now)) c.in-Some.is)
    (operated_between a c.in-Binary.operator (part_form c.in-Binary.left) (whole (part_view c.in-Binary.right)) (shape_form node.shape) node.place c.args.behind node.ty node.category c.own_type-ty.result c.args.register c.args.into
    (state_of c.args.self.now) (state_of c.operated_with.new.self) c.row_between-row.result c.operated_with.result (ap shape_form c.in-Binary.is) c.row_between-row.ensures c.own_type-ty.ensures c.operated_with.ensures)

pub operated_with-returns-in_ok-right-in-Computed : goal.operated_with-returns-in_ok-right-in-Computed
operated_with-returns-in_ok-right-in-Computed t c =
    let a = around_of c.args.a.now in
    answers_as (λ x. x) c.eval.result _ _ _
    (operated_goes_on c.args.row c.in-Computed.operator c.in-Computed.common c.in-Computed.is c.args.into c.args.place (part_uses a c.args.left) (part_uses a (Some c.args.right)) c.args.behind
    c.in_ok-left-in-Computed.left c.in_ok-right-in-Computed.right (state_of c.args.self.now) (state_of c.converted_in.new.self) (state_of c.part_value.new.self) c.in_ok-right-in-Computed.ensures
    c.args.ty c.args.register c.in_ok-left-in-Computed.ensures)
    c.eval.ensures

pub read_or_made-returns-in-Value : goal.read_or_made-returns-in-Value
read_or_made-returns-in-Value t c =
    is_made (node_uses (around_of c.args.a.now) c.args.node.now) c.args.behind c.args.into (state_of c.args.self.now) (state_of c.made.new.self) c.made.result c.in-Value.is c.made.ensures

pub read_or_made-returns-in_ok-from-in-Place : goal.read_or_made-returns-in_ok-from-in-Place
read_or_made-returns-in_ok-from-in-Place t c =
    is_read (node_uses (around_of c.args.a.now) c.args.node.now) c.args.behind c.own_type.result c.in-Place.ty c.in-Place.constant c.args.into (state_of c.args.self.now) (state_of c.at.new.self) (state_of c.load.new.self)
    (operand_of c.in_ok-from-in-Place.from) c.load.result c.in-Place.is c.own_type.ensures c.in_ok-from-in-Place.ensures c.load.ensures

-- ---- values that are made

pub made-returns-in-Number : goal.made-returns-in-Number
made-returns-in-Number t c =
    let fits : SFits w64 c.cast_signed.result = search rules in
    made_number (around_of c.args.a.now) c.args.node.now.place c.args.node.now.ty c.args.node.now.category c.args.behind c.args.into (state_of c.args.self.now) (state_of c.eval.new.self)
    (shape_form c.args.node.now.shape) c.in-Number.number _ c.own_type-ty.result c.eval.result (ap shape_form c.in-Number.is) (to_z-of_z w64 c.cast_signed.result fits ∙ c.cast_signed.ensures) c.own_type-ty.ensures c.eval.ensures

pub made-returns-in_ok-arguments-in-Call : goal.made-returns-in_ok-arguments-in-Call
made-returns-in_ok-arguments-in-Call t c =
    made_called (around_of c.args.a.now) c.args.node.now.place c.args.node.now.ty c.args.node.now.category c.args.behind c.args.into (state_of c.args.self.now) (state_of c.built.new.self)
    (shape_form c.args.node.now.shape) c.in-Call.function (forms (typed_views c.in-Call.arguments.now)) (delimiters_view c.in-Call.delimiters.now) c.own_type-ty.result (state_of c.arguments.new.self)
    (map (λ (l : TypedLocal). l.ty) c.parameters.result.now) (map argument_of c.in_ok-arguments-in-Call.arguments.items) c.built.result
    (ap shape_form c.in-Call.is) c.own_type-ty.ensures c.parameters.ensures c.in_ok-arguments-in-Call.ensures c.built.ensures

pub made-returns-in-Paren : goal.made-returns-in-Paren
made-returns-in-Paren t c =
    made_within (around_of c.args.a.now) c.args.node.now.place c.args.node.now.ty c.args.node.now.category c.args.behind c.args.into (state_of c.args.self.now) (state_of c.part_value.new.self)
    (shape_form c.args.node.now.shape) (part_form c.in-Paren.inner) c.in-Paren.closing c.own_type-ty.result c.part_value.result (ap shape_form c.in-Paren.is) c.own_type-ty.ensures c.part_value.ensures

pub made-returns-in_ok-emit-in-Input : goal.made-returns-in_ok-emit-in-Input
made-returns-in_ok-emit-in-Input t c =
    made_taken (around_of c.args.a.now) c.args.node.now.place c.args.node.now.ty c.args.node.now.category c.args.behind c.args.into (state_of c.args.self.now) (state_of c.emit.new.self)
    (shape_form c.args.node.now.shape) c.own_type-ty.result (state_of c.target.new.self) c.in_ok-into-in-Input.into (ap shape_form c.in-Input.is) c.own_type-ty.ensures c.in_ok-into-in-Input.ensures c.in_ok-emit-in-Input.ensures

pub made-returns-in_ok-register-in-Negate : goal.made-returns-in_ok-register-in-Negate
made-returns-in_ok-register-in-Negate t c =
    answers_as (λ x. x) c.eval-in-Negate.result _ _ _
    (made_negated (around_of c.args.a.now) c.args.node.now.place c.args.node.now.ty c.args.node.now.category c.args.behind c.args.into (state_of c.args.self.now) (state_of c.eval-in-Negate.new.self)
    (shape_form c.args.node.now.shape) (part_form c.in-Negate.operand) c.own_type-ty.result c.in_ok-register-in-Negate.register (state_of c.part_value-in-Negate.new.self)
    (ap shape_form c.in-Negate.is) c.own_type-ty.ensures c.in_ok-register-in-Negate.ensures)
    c.eval-in-Negate.ensures

pub made-returns-in-Binary : goal.made-returns-in-Binary
made-returns-in-Binary t c =
    made_between (around_of c.args.a.now) c.args.node.now.place c.args.node.now.ty c.args.node.now.category c.args.behind c.args.into (state_of c.args.self.now) (state_of c.operated_by.new.self)
    c.in-Binary.operator (part_form c.in-Binary.left) (whole (part_view c.in-Binary.right)) (shape_form c.args.node.now.shape) c.row_between-row.result c.operated_by.result
    (ap shape_form c.in-Binary.is) c.row_between-row.ensures c.operated_by.ensures

pub operated_by-returns-in_ok-right-in-Computed : goal.operated_by-returns-in_ok-right-in-Computed
operated_by-returns-in_ok-right-in-Computed t c =
    let a = around_of c.args.a.now in
    answers_as (λ x. x) c.eval.result _ _ _
    (operated_computes c.args.row c.in-Computed.operator c.in-Computed.common c.in-Computed.is c.args.into c.args.node.now.place (part_uses a c.args.left) (part_uses a (Some c.args.right)) c.args.behind
    c.in_ok-left-in-Computed.left c.in_ok-right-in-Computed.right (state_of c.args.self.now) (state_of c.part_value.new.self) (state_of c.part_value-in-Computed.new.self) c.in_ok-right-in-Computed.ensures
    c.args.node.now.ty c.args.node.now.category c.own_type.result c.own_type.ensures c.in_ok-left-in-Computed.ensures)
    c.eval.ensures

-- ---- arguments

pub arguments-arguments-init : goal.arguments-arguments-init
arguments-arguments-init t c =
    none_handed (around_of c.args.a.now) (delimiters_view c.args.delimiters.now) (map argument_of c.new-given.result.items) c.args.arguments.now (map (λ (l : TypedLocal). l.ty) c.args.parameters.now) (state_of c.args.self.now)
    (ap (map argument_of) c.new-given.ensures.items)

pub arguments-argument-requires : goal.arguments-argument-requires
arguments-argument-requires t c =
    let lighter = argument_lighter c.args.arguments.now c.arguments.number c.index-arguments-number.result c.arguments-test.true c.index-arguments-number.is in
    let same = ap (λ (e : Typed). weight (whole e)) c.of.ensures in
    omega arith

pub arguments-arguments-preserved : goal.arguments-arguments-preserved
arguments-arguments-preserved t c =
    let a = around_of c.args.a.now in
    let given = c.arguments.given.items in
    let types = map (λ (l : TypedLocal). l.ty) c.args.parameters.now in
    let d = delimiters_view c.args.delimiters.now in
    let total = arguments a (expressions_uses a c.args.arguments.now) d types (state_of c.args.self.now) in
    let more = turn a d (map argument_of given) c.args.arguments.now types c.arguments.number c.index-arguments-number.result c.behind-behind.result c.in-Some.ty c.type_of.result (state_of c.arguments.self)
    (argument_of c.in_ok-one-in-Some.one) (state_of c.argument.new.self) total c.arguments-test.true c.index-arguments-number.is c.behind-behind.ensures c.in-Some.ensures c.type_of.ensures
    (ap (λ (e : Typed). argument a (uses a (whole e)) c.type_of.result c.behind-behind.result (state_of c.arguments.self)) (sym c.of.ensures) ∙ c.in_ok-one-in-Some.ensures) c.arguments.invariant in
    subst (λ (xs : List Argument). Handed a (behind_left d (c.arguments.number + 1)) xs (drop (c.arguments.number + 1) c.args.arguments.now) (drop (c.arguments.number + 1) types) (state_of c.argument.new.self) total)
    (sym (ap (map argument_of) c.in_ok-push-in-Some.ensures.items ∙ map-append argument_of given (_ ∷ [])))
    more

pub arguments-returns-in-None : goal.arguments-returns-in-None
arguments-returns-in-None t c =
    no_parameter (around_of c.args.a.now) (behind_left (delimiters_view c.args.delimiters.now) c.arguments.number) (map argument_of c.arguments.given.items) c.args.arguments.now (map (λ (l : TypedLocal). l.ty) c.args.parameters.now) c.arguments.number
    (state_of c.arguments.self) _ c.in-None.ensures c.arguments.invariant

pub arguments-returns : goal.arguments-returns
arguments-returns t c =
    all_handed (around_of c.args.a.now) (behind_left (delimiters_view c.args.delimiters.now) c.arguments.number) (map argument_of c.arguments.given.items) c.args.arguments.now (map (λ (l : TypedLocal). l.ty) c.args.parameters.now) c.arguments.number
    (state_of c.arguments.self) _ c.arguments-test.false c.arguments.invariant

pub argument-returns-in_ok-register-in-Value : goal.argument-returns-in_ok-register-in-Value
argument-returns-in_ok-register-in-Value t c =
    let a = around_of c.args.a.now in
    value_argument a (part_uses a (Some c.args.part)) c.args.ty c.args.behind (state_of c.args.self.now) (state_of c.part_value.new.self) c.in_ok-register-in-Value.register c.class.result
    c.class.ensures c.in-Value.is c.in_ok-register-in-Value.ensures

-- ---- conditions

pub part_condition-returns-then-not-is_link : goal.part_condition-returns-then-not-is_link
part_condition-returns-then-not-is_link t c =
    answers_as condition_tree c.lone_condition.result _ _ _
    (ap (λ (e : Uses). condition e c.args.behind (state_of c.args.self.now)) (opened_uses (around_of c.args.a.now) c.args.part c.in-Some.part c.opened-node.result c.in-Some.is c.opened-node.ensures.node))
    c.lone_condition.ensures

pub part_condition-part_condition-requires : goal.part_condition-part_condition-requires
part_condition-part_condition-requires t c =
    let lighter = within_lighter c.opened-node.result c.in-Some.part c.opened-node.ensures.node c.opened-node.ensures.left chain.Joined c.is_link.result c.is_link.ensures c.if-not-is_link.false
    c.chain_begins-from.result c.chain_begins-from.result c.chain_begins-from.ensures.links (omega arith) c.chain_begins-from.ensures.few in
    let first = ap weight c.last_of.ensures.form in
    let all = ap (λ (o : Option Part). weight (part_form o)) c.in-Some.is in
    omega arith

pub part_condition-operators-init : goal.part_condition-operators-init
part_condition-operators-init t c =
    let a = around_of c.args.a.now in let s = state_of c.args.self.now in
    ap (λ (b : Behind). condition (uses a (inside (take c.chain_begins-from.result c.in-Some.part.within.now))) b s) (sym (c.ending-first.ensures ∙ ap ending c.token_behind.ensures))
    ∙ ap (λ (f : Form). condition (uses a f) c.ending-first.result s) (sym c.last_of.ensures.form) ∙ c.in_ok-condition.ensures

pub part_condition-joined-requires : goal.part_condition-joined-requires
part_condition-joined-requires t c =
    let lighter = within_lighter c.opened-node.result c.in-Some.part c.opened-node.ensures.node c.opened-node.ensures.left chain.Joined c.is_link.result c.is_link.ensures c.if-not-is_link.false
    c.chain_begins-from.result (c.operators.number + 1) c.chain_begins-from.ensures.links (omega arith) (omega arith) in
    let next = ap weight (c.opened-next.ensures ∙ c.last_of-in-operators.ensures.form) in
    let all = ap (λ (o : Option Part). weight (part_form o)) c.in-Some.is in
    omega arith

pub part_condition-operators-preserved : goal.part_condition-operators-preserved
part_condition-operators-preserved t c =
    condition_turn (around_of c.args.a.now) c.in-Some.part.place c.in-Some.part.within.now c.chain_begins-from.result c.operators.number c.chain_begins-from.ensures.links (omega arith) c.operators-test.true
    (state_of c.args.self.now) (state_of c.operators.self) (state_of c.joined.new.self) (condition_tree c.operators.condition) (condition_tree c.in_ok-condition-2.condition) (node_form c.opened-next.result)
    c.token_behind-token.result c.operators.invariant (c.opened-next.ensures ∙ c.last_of-in-operators.ensures.form) c.token_behind-token.ensures c.in_ok-condition-2.ensures

pub part_condition-returns : goal.part_condition-returns
part_condition-returns t c =
    answers_as condition_tree c.joined-2.result _ _ _
    (ap (λ (o : Option Part). condition (part_uses (around_of c.args.a.now) o) c.args.behind (state_of c.args.self.now)) c.in-Some.is)
    (last_condition c.opened-node.result c.in-Some.part c.opened-node.ensures.node c.opened-node.ensures.left (around_of c.args.a.now) c.args.behind c.is_link.result c.is_link.ensures c.if-not-is_link.false
    c.operators.number c.operators-test.false condition_tree (state_of c.args.self.now) (state_of c.operators.self) (condition_tree c.operators.condition) c.joined-2.result (state_of c.joined-2.new.self)
    c.operators.invariant c.joined-2.ensures)

pub lone_condition-returns-in-Some : goal.lone_condition-returns-in-Some
lone_condition-returns-in-Some t c =
    let e = node_uses (around_of c.args.a.now) c.args.node.now in let b = c.args.behind in
    condition_decided condition_tree c.in-Some.decision (e.decision b) (own e) e.place b.ends (nullable e) (read_or_made e b.token None) (state_of c.args.self.now) (state_of c.decision.new.self)
    (decides condition_tree c.in_ok-decision.field-0 c.in-Some.decision (e.decision b) (state_of c.args.self.now) (state_of c.decision.new.self) c.in-Some.is c.in_ok-decision.ensures)

pub lone_condition-returns-in-None : goal.lone_condition-returns-in-None
lone_condition-returns-in-None t c =
    let e = node_uses (around_of c.args.a.now) c.args.node.now in let b = c.args.behind in
    let none = leaves condition_tree c.in_ok-decision.field-0 (e.decision b) (state_of c.args.self.now) (state_of c.decision.new.self) c.in-None.is c.in_ok-decision.ensures in
    answers_as condition_tree c.not_null.result _ _ _
    (condition_pointer (e.decision b) (own e) e.place b.ends (nullable e) (read_or_made e b.token None) (state_of c.args.self.now) (state_of c.decision.new.self) none.0 none.1
    (ap is_nullable (sym c.own_type.ensures) ∙ sym c.is_nullable.ensures ∙ c.if-is_nullable.true))
    c.not_null.ensures

pub lone_condition-returns-in-None-2 : goal.lone_condition-returns-in-None-2
lone_condition-returns-in-None-2 t c =
    let e = node_uses (around_of c.args.a.now) c.args.node.now in let b = c.args.behind in
    let none = leaves condition_tree c.in_ok-decision.field-0 (e.decision b) (state_of c.args.self.now) (state_of c.decision.new.self) c.in-None.is c.in_ok-decision.ensures in
    answers_as condition_tree c.non_zero.result _ _ _
    (condition_value (e.decision b) (own e) e.place b.ends (nullable e) (read_or_made e b.token None) (state_of c.args.self.now) (state_of c.decision.new.self) none.0 none.1
    (ap is_nullable (sym c.own_type.ensures) ∙ sym c.is_nullable.ensures ∙ c.if-is_nullable.false))
    c.non_zero.ensures

pub joined-returns-in-Binary : goal.joined-returns-in-Binary
joined-returns-in-Binary t c =
    let a = around_of c.args.a.now in let node = c.in-Some.node in
    answers_as condition_tree c.joined_with.result _ _ _
    (ap (λ (n : Option Node). joined_on a (node_form n) c.args.behind (condition_tree c.args.condition) (state_of c.args.self.now)) c.in-Some.is)
    (joined_between a c.in-Binary.operator (part_form c.in-Binary.left) (whole (part_view c.in-Binary.right)) (shape_form node.shape) node.place c.args.behind node.ty node.category (condition_tree c.args.condition)
    (state_of c.args.self.now) (state_of c.joined_with.new.self) c.row_between.result c.joined_with.result (ap shape_form c.in-Binary.is) c.row_between.ensures c.joined_with.ensures)

pub joined_with-returns-in_ok-right-in-Joined : goal.joined_with-returns-in_ok-right-in-Joined
joined_with-returns-in_ok-right-in-Joined t c =
    joined_answers c.args.row c.in-Joined.by (part_uses (around_of c.args.a.now) (Some c.args.right)) c.args.behind c.ending.result (condition_tree c.args.condition) (condition_tree c.in_ok-right-in-Joined.right)
    (state_of c.args.self.now) (state_of c.part_condition.new.self) c.join.result c.in-Joined.is c.ending.ensures c.in_ok-right-in-Joined.ensures c.join.ensures

pub non_zero-returns : goal.non_zero-returns
non_zero-returns t c =
    tested_behind c.args.node.now.place c.args.behind.ends (read_or_made (node_uses (around_of c.args.a.now) c.args.node.now) c.args.behind.token None) NonZero (state_of c.args.self.now) (state_of c.begin_test-before.new.self) (state_of c.read_or_made.new.self)
    (state_of c.behind_code.new.self) c.in_ok-register.register (map tree_of c.begin_test-before.result.code.items) c.begin_test-before.result.pending c.behind_code.result
    c.begin_test-before.ensures.before c.begin_test-before.ensures.pending c.begin_test-before.ensures.state c.in_ok-register.ensures c.behind_code.ensures

-- ---- what is decided by tests

pub part_decision-returns-in-Some : goal.part_decision-returns-in-Some
part_decision-returns-in-Some t c =
    answers_if_as condition_tree c.decision.result _ _ _ _
    (ap (λ (e : Uses). e.decision c.args.behind) (opened_uses (around_of c.args.a.now) c.args.part c.in-Some.part c.opened.result c.in-Some.is c.opened.ensures.node))
    c.decision.ensures

pub decision-returns-in-Paren : goal.decision-returns-in-Paren
decision-returns-in-Paren t c =
    answers_if_as condition_tree c.part_decision.result _ _ _ _
    (ap (λ (x : Shape). (uses (around_of c.args.a.now) (typed c.args.node.now.place c.args.node.now.ty c.args.node.now.category (shape_form x))).decision c.args.behind) c.in-Paren.is
    ∙ ap (λ (b : Behind). (part_uses (around_of c.args.a.now) c.in-Paren.inner).decision b) (sym c.closed_by.ensures))
    c.part_decision.ensures

pub decision-returns-in_ok-negation-in-Not : goal.decision-returns-in_ok-negation-in-Not
decision-returns-in_ok-negation-in-Not t c =
    answered_as condition_tree c.in_ok-negation-in-Not.field-0 _ _ _ _ (ap (λ (x : Shape). (uses (around_of c.args.a.now) (typed c.args.node.now.place c.args.node.now.ty c.args.node.now.category (shape_form x))).decision c.args.behind) c.in-Not.is)
    (negation_gives (condition (part_uses (around_of c.args.a.now) c.in-Not.operand) c.args.behind) (state_of c.args.self.now) (condition_tree c.in_ok-condition-in-Not.condition) (state_of c.part_condition.new.self)
    (condition_tree c.in_ok-negation-in-Not.field-0) c.in_ok-condition-in-Not.ensures c.in_ok-negation-in-Not.ensures)

pub decision-returns-in-Binary : goal.decision-returns-in-Binary
decision-returns-in-Binary t c =
    let a = around_of c.args.a.now in let n = c.args.node.now in
    answers_if_as condition_tree c.decided.result _ _ _ _
    (ap (λ (x : Shape). (uses (around_of c.args.a.now) (typed c.args.node.now.place c.args.node.now.ty c.args.node.now.category (shape_form x))).decision c.args.behind) c.in-Binary.is
    ∙ ap (λ (w : Row). (binary_uses w (part_uses a c.in-Binary.left) (part_uses a (Some c.in-Binary.right)) n.place n.ty n.category).decision c.args.behind) (sym c.row_between-row.ensures))
    c.decided.ensures

pub decided-returns-in_ok-join-in-Joined : goal.decided-returns-in_ok-join-in-Joined
decided-returns-in_ok-join-in-Joined t c =
    both_decided (around_of c.args.a.now) c.args.row c.args.node.now.place c.args.node.now.ty c.args.node.now.category c.args.behind c.args.left (Some c.args.right) c.in-Joined.by c.ending.result c.ending-in-Joined.result
    (state_of c.args.self.now) (state_of c.part_condition.new.self) (state_of c.part_condition-in-Joined.new.self) (condition_tree c.in_ok-left-in-Joined.left) (condition_tree c.in_ok-right-in-Joined.right) c.in_ok-join-in-Joined.field-0
    c.in-Joined.is c.ending.ensures c.ending-in-Joined.ensures c.in_ok-left-in-Joined.ensures c.in_ok-right-in-Joined.ensures c.in_ok-join-in-Joined.ensures

pub decided-not_null-requires : goal.decided-not_null-requires
decided-not_null-requires t c =
    let lighter = side_lighter c.in-IsNull.side c.args.left c.args.right in
    let same = ap weight (c.opened-part.ensures ∙ ap part_form c.on.ensures) in
    omega arith

pub decided-not_null-requires-in-NotNull : goal.decided-not_null-requires-in-NotNull
decided-not_null-requires-in-NotNull t c =
    let lighter = side_lighter c.in-NotNull.side c.args.left c.args.right in
    let same = ap weight (c.opened-part-in-NotNull.ensures ∙ ap part_form c.on-in-NotNull.ensures) in
    omega arith

pub decided-returns-in_ok-negation-in-IsNull : goal.decided-returns-in_ok-negation-in-IsNull
decided-returns-in_ok-negation-in-IsNull t c =
    null_decided (around_of c.args.a.now) c.args.row c.args.node.now.place c.args.node.now.ty c.args.node.now.category c.args.behind c.args.left (Some c.args.right) c.in-IsNull.side (node_form c.opened-part.result)
    (state_of c.args.self.now) (state_of c.not_null.new.self) (condition_tree c.in_ok-condition-in-IsNull.condition) c.in_ok-negation-in-IsNull.field-0
    c.in-IsNull.is (c.opened-part.ensures ∙ ap part_form c.on.ensures) c.in_ok-condition-in-IsNull.ensures c.in_ok-negation-in-IsNull.ensures

pub decided-returns-in_ok-condition-in-NotNull : goal.decided-returns-in_ok-condition-in-NotNull
decided-returns-in_ok-condition-in-NotNull t c =
    some_decided (around_of c.args.a.now) c.args.row c.args.node.now.place c.args.node.now.ty c.args.node.now.category c.args.behind c.args.left (Some c.args.right) c.in-NotNull.side (node_form c.opened-part-in-NotNull.result)
    (state_of c.args.self.now) (state_of c.not_null-in-NotNull.new.self) c.in_ok-condition-in-NotNull.condition
    c.in-NotNull.is (c.opened-part-in-NotNull.ensures ∙ ap part_form c.on-in-NotNull.ensures) c.in_ok-condition-in-NotNull.ensures

-- ---- places

pub part_operand-returns-in-Value : goal.part_operand-returns-in-Value
part_operand-returns-in-Value t c =
    answers_as operand_of c.node_operand.result _ _ _
    (ap (λ (e : Uses). operand e (state_of c.args.self.now)) (opened_uses (around_of c.args.a.now) c.args.part c.in-Some.found c.opened.result c.in-Some.is c.opened.ensures.node))
    c.node_operand.ensures

pub part_operand-returns-in-Place : goal.part_operand-returns-in-Place
part_operand-returns-in-Place t c =
    let a = around_of c.args.a.now in
    answers_as operand_of c.part_at.result _ _ _
    (place_wanted (part_uses a c.args.part) (state_of c.args.self.now) c.in-Place.ty c.in-Place.constant (ap (λ (o : Option Part). (part_uses a o).category) c.in-Some.is ∙ c.in-Place.is))
    c.part_at.ensures

pub node_operand-returns-in-Place : goal.node_operand-returns-in-Place
node_operand-returns-in-Place t c =
    answers_as operand_of c.at.result _ _ _
    (place_wanted (node_uses (around_of c.args.a.now) c.args.node.now) (state_of c.args.self.now) c.in-Place.ty c.in-Place.constant c.in-Place.is)
    c.at.ensures

pub part_at-returns-then-not-is_link : goal.part_at-returns-then-not-is_link
part_at-returns-then-not-is_link t c =
    answers_as operand_of c.at.result _ _ _
    (ap (λ (e : Uses). e.at (state_of c.args.self.now)) (opened_uses (around_of c.args.a.now) c.args.part c.in-Some.found c.opened-node.result c.in-Some.is c.opened-node.ensures.node))
    c.at.ensures

pub part_at-part_at-requires : goal.part_at-part_at-requires
part_at-part_at-requires t c =
    let lighter = within_lighter c.opened-node.result c.in-Some.found c.opened-node.ensures.node c.opened-node.ensures.left chain.Placed c.is_link.result c.is_link.ensures c.if-not-is_link.false
    c.chain_begins-from.result c.chain_begins-from.result c.chain_begins-from.ensures.links (omega arith) c.chain_begins-from.ensures.few in
    let first = ap weight c.last_of.ensures.form in
    let all = ap (λ (o : Option Part). weight (part_form o)) c.in-Some.is in
    omega arith

pub part_at-links-init : goal.part_at-links-init
part_at-links-init t c = ap (λ (f : Form). (uses (around_of c.args.a.now) f).at (state_of c.args.self.now)) (sym c.last_of.ensures.form) ∙ c.in_ok-place.ensures

pub part_at-placed_on-requires : goal.part_at-placed_on-requires
part_at-placed_on-requires t c =
    let lighter = within_lighter c.opened-node.result c.in-Some.found c.opened-node.ensures.node c.opened-node.ensures.left chain.Placed c.is_link.result c.is_link.ensures c.if-not-is_link.false
    c.chain_begins-from.result (c.links.number + 1) c.chain_begins-from.ensures.links (omega arith) (omega arith) in
    let next = ap weight (c.opened-next.ensures ∙ c.last_of-in-links.ensures.form) in
    let all = ap (λ (o : Option Part). weight (part_form o)) c.in-Some.is in
    omega arith

pub part_at-links-preserved : goal.part_at-links-preserved
part_at-links-preserved t c =
    let a = around_of c.args.a.now in let s = state_of c.args.self.now in
    link_turn chain.Placed Operand (λ f. (uses a f).at s) (λ f. (uses a f).at s) (placed_on a) (next_place a s) c.in-Some.found.within.now c.chain_begins-from.result c.links.number c.chain_begins-from.ensures.links (omega arith) c.links-test.true
    (state_of c.links.self) (state_of c.placed_on.new.self) (operand_of c.links.place) (operand_of c.in_ok-place-2.place) (node_form c.opened-next.result)
    c.links.invariant (c.opened-next.ensures ∙ c.last_of-in-links.ensures.form) c.in_ok-place-2.ensures

pub part_at-returns : goal.part_at-returns
part_at-returns t c =
    let a = around_of c.args.a.now in let s = state_of c.args.self.now in
    answers_as operand_of c.placed_on-2.result _ _ _
    (ap (λ (o : Option Part). (part_uses a o).at s) c.in-Some.is)
    (last_link chain.Placed Operand (λ f. (uses a f).at s) (λ f. (uses a f).at s) (placed_on a) (next_place a s) c.opened-node.result c.in-Some.found c.opened-node.ensures.node c.opened-node.ensures.left
    c.is_link.result c.is_link.ensures c.if-not-is_link.false c.links.number c.links-test.false operand_of (state_of c.links.self) (operand_of c.links.place) c.placed_on-2.result (state_of c.placed_on-2.new.self)
    c.links.invariant c.placed_on-2.ensures)

pub placed_on-returns-in_ok-reached-in-Member : goal.placed_on-returns-in_ok-reached-in-Member
placed_on-returns-in_ok-reached-in-Member t c =
    let a = around_of c.args.a.now in let n = c.in-Some.node in let q = operand_of c.args.place in let s = state_of c.args.self.now in
    ap (λ (o : Option Node). placed_on a (node_form o) q s) c.in-Some.is
    ∙ ap (λ (x : Shape). placed_on a (typed n.place n.ty n.category (shape_form x)) q s) c.in-Member.is
    ∙ ap (λ (o : Operand). gives o s) (sym c.in_ok-reached-in-Member.ensures)

pub placed_on-returns-in_ok-register-in-Index : goal.placed_on-returns-in_ok-register-in-Index
placed_on-returns-in_ok-register-in-Index t c =
    let a = around_of c.args.a.now in let n = c.in-Some.node in let q = operand_of c.args.place in let s = state_of c.args.self.now in
    answers_as operand_of c.element.result _ _ _
    (ap (λ (o : Option Node). placed_on a (node_form o) q s) c.in-Some.is
    ∙ ap (λ (x : Shape). placed_on a (typed n.place n.ty n.category (shape_form x)) q s) c.in-Index.is
    ∙ ap (λ (w : Gives ℕ). element n.place n.category (Owner q) (which.Index w.given) w.state) c.in_ok-register-in-Index.ensures)
    c.element.ensures

pub placed_on-returns-in-Dereference : goal.placed_on-returns-in-Dereference
placed_on-returns-in-Dereference t c =
    let a = around_of c.args.a.now in let n = c.in-Some.node in let q = operand_of c.args.place in let s = state_of c.args.self.now in
    answers_as operand_of c.element-in-Dereference.result _ _ _
    (ap (λ (o : Option Node). placed_on a (node_form o) q s) c.in-Some.is
    ∙ ap (λ (x : Shape). placed_on a (typed n.place n.ty n.category (shape_form x)) q s) c.in-Dereference.is)
    c.element-in-Dereference.ensures

pub placed_on-returns-in-Method : goal.placed_on-returns-in-Method
placed_on-returns-in-Method t c =
    let a = around_of c.args.a.now in let n = c.in-Some.node in let q = operand_of c.args.place in let s = state_of c.args.self.now in
    answers_as operand_of c.end_on.result _ _ _
    (ap (λ (o : Option Node). placed_on a (node_form o) q s) c.in-Some.is
    ∙ ap (λ (x : Shape). placed_on a (typed n.place n.ty n.category (shape_form x)) q s) c.in-Method.is)
    c.end_on.ensures

-- ---- pointers

pub part_pointing-returns-in-Some : goal.part_pointing-returns-in-Some
part_pointing-returns-in-Some t c =
    answers_as pointing_of c.node_pointing.result _ _ _
    (ap (λ (e : Uses). pointing e (state_of c.args.self.now)) (opened_uses (around_of c.args.a.now) c.args.part c.in-Some.part c.opened.result c.in-Some.is c.opened.ensures.node))
    c.node_pointing.ensures

pub part_points_to-returns-in-Some : goal.part_points_to-returns-in-Some
part_points_to-returns-in-Some t c =
    answers_as pointing_of c.points_to.result _ _ _
    (ap (λ (e : Uses). e.pointing (state_of c.args.self.now)) (opened_uses (around_of c.args.a.now) c.args.part c.in-Some.part c.opened.result c.in-Some.is c.opened.ensures.node))
    c.points_to.ensures

pub part_pointer-own_pointer-requires : goal.part_pointer-own_pointer-requires
part_pointer-own_pointer-requires t c =
    let lighter = within_lighter c.opened-node.result c.in-Some.found c.opened-node.ensures.node c.opened-node.ensures.left chain.Moved c.is_link.result c.is_link.ensures c.if-not-is_link.false
    c.chain_begins-from.result c.chain_begins-from.result c.chain_begins-from.ensures.links (omega arith) c.chain_begins-from.ensures.few in
    let first = ap weight c.last_of.ensures.form in
    let all = ap (λ (o : Option Part). weight (part_form o)) c.in-Some.is in
    omega arith

pub part_pointer-links-init : goal.part_pointer-links-init
part_pointer-links-init t c =
    ap (λ (f : Form). own_location (around_of c.args.a.now) (state_of c.args.self.now) f) (sym c.last_of.ensures.form) ∙ c.in_ok-pointer.ensures

pub part_pointer-moved_to-requires : goal.part_pointer-moved_to-requires
part_pointer-moved_to-requires t c =
    let lighter = within_lighter c.opened-node.result c.in-Some.found c.opened-node.ensures.node c.opened-node.ensures.left chain.Moved c.is_link.result c.is_link.ensures c.if-not-is_link.false
    c.chain_begins-from.result (c.links.number + 1) c.chain_begins-from.ensures.links (omega arith) (omega arith) in
    let next = ap weight (c.opened-next.ensures ∙ c.last_of-in-links.ensures.form) in
    let all = ap (λ (o : Option Part). weight (part_form o)) c.in-Some.is in
    omega arith

pub part_pointer-links-preserved : goal.part_pointer-links-preserved
part_pointer-links-preserved t c =
    let a = around_of c.args.a.now in let s = state_of c.args.self.now in
    link_turn chain.Moved Location (own_location a s) (own_location a s) (moved_to a) (next_own a s) c.in-Some.found.within.now c.chain_begins-from.result c.links.number c.chain_begins-from.ensures.links (omega arith) c.links-test.true
    (state_of c.links.self) (state_of c.moved_to.new.self) (location_of c.links.pointer) (location_of c.in_ok-pointer-2.pointer) (node_form c.opened-next.result)
    c.links.invariant (c.opened-next.ensures ∙ c.last_of-in-links.ensures.form) c.in_ok-pointer-2.ensures

pub part_pointer-returns : goal.part_pointer-returns
part_pointer-returns t c =
    let a = around_of c.args.a.now in let s = state_of c.args.self.now in
    answers_as location_of c.moved_to-2.result _ _ _
    (ap (λ (o : Option Part). pointer (part_uses a o) c.args.wanted s) c.in-Some.is)
    (last_link chain.Moved Location (own_location a s) (λ f. pointer (uses a f) c.args.wanted s) (moved_to a) (next_pointer a c.args.wanted s) c.opened-node.result c.in-Some.found c.opened-node.ensures.node c.opened-node.ensures.left
    c.is_link.result c.is_link.ensures c.if-not-is_link.false c.links.number c.links-test.false location_of (state_of c.links.self) (location_of c.links.pointer) c.moved_to-2.result (state_of c.moved_to-2.new.self)
    c.links.invariant c.moved_to-2.ensures)

pub own_pointer-returns : goal.own_pointer-returns
own_pointer-returns t c =
    let a = around_of c.args.a.now in let s = state_of c.args.self.now in
    answers_as location_of c.part_pointer.result _ _ _
    (ap (λ (u : Ty). pointer (part_uses a c.args.part) u s) (ap (λ (o : Option Part). own (part_uses a o)) c.in-Some.is ∙ sym c.own_type.ensures)) c.part_pointer.ensures

pub moved_to-returns : goal.moved_to-returns
moved_to-returns t c =
    let a = around_of c.args.a.now in let n = c.in-Some.node in
    answers_as location_of c.located.result _ _ _
    (ap (λ (o : Option Node). moved_to a (node_form o) (location_of c.args.from) (state_of c.args.self.now)) c.in-Some.is
    ∙ ap (λ (w : Gives Pointing). located n.place (own_type n.ty) w.given w.state) c.in_ok-pointing.ensures
    ∙ ap (λ (u : Ty). located n.place u (pointing_of c.in_ok-pointing.pointing) (state_of c.moved_on.new.self)) (sym c.own_type.ensures))
    c.located.ensures

pub moved_on-returns-in-Binary : goal.moved_on-returns-in-Binary
moved_on-returns-in-Binary t c =
    let a = around_of c.args.a.now in let n = c.args.node.now in let q = location_of c.args.from in let s = state_of c.args.self.now in
    answers_as pointing_of c.advanced_by.result _ _ _
    (ap (λ (x : Shape). moved_on a (typed n.place n.ty n.category (shape_form x)) q s) c.in-Binary.is
    ∙ ap (λ (w : Row). advanced_by w q (part_uses a (Some c.in-Binary.right)) n.place s) (sym c.row_between-row.ensures))
    c.advanced_by.ensures

pub moved_on-returns-in-Method : goal.moved_on-returns-in-Method
moved_on-returns-in-Method t c =
    let n = c.args.node.now in
    answers_as pointing_of c.cut_by.result _ _ _
    (ap (λ (x : Shape). moved_on (around_of c.args.a.now) (typed n.place n.ty n.category (shape_form x)) (location_of c.args.from) (state_of c.args.self.now)) c.in-Method.is) c.cut_by.ensures

pub lone_pointer-returns : goal.lone_pointer-returns
lone_pointer-returns t c =
    let a = around_of c.args.a.now in
    pointer_located (part_uses a c.args.part) c.args.wanted c.own_type.result c.register_type-ty.result c.in-Some.found.place (state_of c.args.self.now) (state_of c.part_pointing.new.self) (state_of c.located.new.self)
    (pointing_of c.in_ok-pointing.pointing) c.located.result
    (c.own_type.ensures ∙ sym (ap (λ (o : Option Part). own (part_uses a o)) c.in-Some.is)) c.register_type-ty.ensures (sym (ap (λ (o : Option Part). (part_uses a o).place) c.in-Some.is))
    c.in_ok-pointing.ensures c.located.ensures

pub not_null-returns : goal.not_null-returns
not_null-returns t c =
    let a = around_of c.args.a.now in
    answers_as condition_tree c.behind_code.result _ _ _
    (ap (λ (n : Option Node). conditions.not_null c.args.place c.args.ends (nullable (uses a (node_form n))) (state_of c.args.self.now)) c.in-Some.is)
    (tested_behind c.args.place c.args.ends (nullable (node_uses a c.in-Some.node)) NotNull (state_of c.args.self.now) (state_of c.begin_test-before.new.self) (state_of c.nullable.new.self)
    (state_of c.behind_code.new.self) (location_of c.in_ok-location.location) (map tree_of c.begin_test-before.result.code.items) c.begin_test-before.result.pending c.behind_code.result
    c.begin_test-before.ensures.before c.begin_test-before.ensures.pending c.begin_test-before.ensures.state c.in_ok-location.ensures c.behind_code.ensures)

-- ---- what has elements

pub part_base-returns-in_ok-pointer-in-View : goal.part_base-returns-in_ok-pointer-in-View
part_base-returns-in_ok-pointer-in-View t c =
    base_seen (part_uses (around_of c.args.a.now) c.args.part) c.own_type-own.result (state_of c.args.self.now) (state_of c.part_pointer.new.self) (location_of c.in_ok-pointer-in-View.pointer)
    (c.own_type-own.ensures ∙ sym (ap (λ (o : Option Part). own (part_uses (around_of c.args.a.now) o)) c.in-Some.is)) (ap has_view c.in-View.is) c.in_ok-pointer-in-View.ensures

pub part_base-returns-in_ok-pointer-in-Span : goal.part_base-returns-in_ok-pointer-in-Span
part_base-returns-in_ok-pointer-in-Span t c =
    base_seen (part_uses (around_of c.args.a.now) c.args.part) c.own_type-own.result (state_of c.args.self.now) (state_of c.part_pointer-in-Span.new.self) (location_of c.in_ok-pointer-in-Span.pointer)
    (c.own_type-own.ensures ∙ sym (ap (λ (o : Option Part). own (part_uses (around_of c.args.a.now) o)) c.in-Some.is)) (ap has_view c.in-Span.is) c.in_ok-pointer-in-Span.ensures

-- ---- pointers that are handed over

pub argument-returns-in-Pointer : goal.argument-returns-in-Pointer
argument-returns-in-Pointer t c =
    let a = around_of c.args.a.now in
    answers_as argument_of c.pointer_argument.result _ _ _
    (argument_as a (part_uses a (Some c.args.part)) c.args.ty c.args.behind (state_of c.args.self.now) c.class.result classes.Pointer c.class.ensures c.in-Pointer.is)
    c.pointer_argument.ensures

-- ---- what is decided by no test

pub decision-returns-in-Method : goal.decision-returns-in-Method
decision-returns-in-Method t c =
    let a = around_of c.args.a.now in let n = c.args.node.now in (
      ap (λ (x : Shape). (uses a (typed n.place n.ty n.category (shape_form x))).decision c.args.behind) c.in-Method.is
          ∙ method_undecided a c.in-Method.method (part_uses a c.in-Method.base) (expressions_uses a c.in-Method.arguments.now) (delimiters_view c.in-Method.delimiters.now) n.place n.ty n.category c.args.behind,
      refl,
    )

-- ---- what is given

pub value_given-arguments-requires : goal.value_given-arguments-requires
value_given-arguments-requires t c =
    let called : call_for (part_view c.args.part) c.args.ty ≡ Some (called_of c.in-Some.called) = sym c.call_for.ensures ∙ ap (option_map called_of) c.in-Some.is in
    let lighter = call_lighter (part_view c.args.part) c.args.ty (called_of c.in-Some.called) called in
    omega arith

pub value_given-returns-in_ok-arguments-in-Some : goal.value_given-returns-in_ok-arguments-in-Some
value_given-returns-in_ok-arguments-in-Some t c =
    let a = around_of c.args.a.now in
    call_given a (part_view c.args.part) c.args.ty c.args.part.place (value (part_uses a (Some c.args.part)) c.args.behind c.args.ty None) (state_of c.args.self.now) (state_of c.arguments.new.self)
    (called_of c.in-Some.called) (map (λ (l : TypedLocal). l.ty) c.parameters.result.now) (map argument_of c.in_ok-arguments-in-Some.arguments.items)
    (sym c.call_for.ensures ∙ ap (option_map called_of) c.in-Some.is) c.parameters.ensures c.in_ok-arguments-in-Some.ensures

pub value_given-returns-in_ok-register-in-None : goal.value_given-returns-in_ok-register-in-None
value_given-returns-in_ok-register-in-None t c =
    let a = around_of c.args.a.now in
    value_saved a (part_view c.args.part) c.args.ty c.args.part.place (value (part_uses a (Some c.args.part)) c.args.behind c.args.ty None) (state_of c.args.self.now) (state_of c.part_value.new.self)
    c.in_ok-register-in-None.register (sym c.call_for.ensures ∙ ap (option_map called_of) c.in-None.is) c.in_ok-register-in-None.ensures

pub given_in-returns-in_ok-last-in-Value : goal.given_in-returns-in_ok-last-in-Value
given_in-returns-in_ok-last-in-Value t c =
    let e = part_uses (around_of c.args.a.now) (Some c.args.part) in let s = state_of c.args.self.now in
    finished (given e c.args.ty c.args.behind s) (last_of c.in_ok-last-in-Value.last) (destination_of c.args.destination) (state_of c.value_given.new.self) (state_of c.built.new.self) c.built.result
    (given_as e c.args.ty c.args.behind s c.class.result classes.Value c.class.ensures c.in-Value.is ∙ c.in_ok-last-in-Value.ensures) c.built.ensures

pub given_in-returns-in_ok-pointing-in-Pointer : goal.given_in-returns-in_ok-pointing-in-Pointer
given_in-returns-in_ok-pointing-in-Pointer t c =
    let e = part_uses (around_of c.args.a.now) (Some c.args.part) in let s = state_of c.args.self.now in
    finished (given e c.args.ty c.args.behind s) (filled c.args.part.place (pointed (pointing_of c.in_ok-pointing-in-Pointer.pointing))) (destination_of c.args.destination) (state_of c.part_pointing.new.self)
    (state_of c.built-in-Pointer.new.self) c.built-in-Pointer.result
    (pointer_given e c.args.ty c.args.behind s (state_of c.part_pointing.new.self) c.class.result (pointing_of c.in_ok-pointing-in-Pointer.pointing) c.class.ensures c.in-Pointer.is c.in_ok-pointing-in-Pointer.ensures)
    c.built-in-Pointer.ensures

pub given_in-returns-in-Owner : goal.given_in-returns-in-Owner
given_in-returns-in-Owner t c =
    let e = part_uses (around_of c.args.a.now) (Some c.args.part) in let s = state_of c.args.self.now in let d = destination_of c.args.destination in
    answers_as (λ x. x) c.object_given.result _ _ _
    (ap (λ (w : Gives Remaining). w >> λ rest s. rest d s) (given_as e c.args.ty c.args.behind s c.class.result classes.Owner c.class.ensures c.in-Owner.is)) c.object_given.ensures

pub given_in-returns-in-Aggregate : goal.given_in-returns-in-Aggregate
given_in-returns-in-Aggregate t c =
    let e = part_uses (around_of c.args.a.now) (Some c.args.part) in let s = state_of c.args.self.now in let d = destination_of c.args.destination in
    answers_as (λ x. x) c.object_given-in-Aggregate.result _ _ _
    (ap (λ (w : Gives Remaining). w >> λ rest s. rest d s) (given_as e c.args.ty c.args.behind s c.class.result classes.Aggregate c.class.ensures c.in-Aggregate.is)) c.object_given-in-Aggregate.ensures

-- ---- owners and structs

pub part_object-returns-in-Some : goal.part_object-returns-in-Some
part_object-returns-in-Some t c =
    answers_as (λ x. x) c.object.result _ _ _
    (ap (λ (e : Uses). object_in e (destination_of c.args.destination) (state_of c.args.self.now)) (opened_uses (around_of c.args.a.now) c.args.part c.in-Some.part c.opened.result c.in-Some.is c.opened.ensures.node))
    c.object.ensures

pub part_replacing-returns-in-Some : goal.part_replacing-returns-in-Some
part_replacing-returns-in-Some t c =
    answers_if_as act_of c.replacing.result _ _ _ _
    (ap (λ (e : Uses). e.replacing) (opened_uses (around_of c.args.a.now) c.args.part c.in-Some.part c.opened.result c.in-Some.is c.opened.ensures.node))
    c.replacing.ensures

-- ---- member functions

pub erased-part_pointer-requires : goal.erased-part_pointer-requires
erased-part_pointer-requires t c =
    let lighter = first_lighter c.args.arguments.now c.first.result c.first.ensures in
    let same = ap (λ (o : Option Part). weight (part_form o)) c.in-Some.is in
    omega arith

pub erased-returns : goal.erased-returns
erased-returns t c =
    let a = around_of c.args.a.now in
    erased_first a (part_uses a c.args.base) c.args.arguments.now c.first.result c.in-Some.at c.first.ensures c.in-Some.is c.own_type.result (state_of c.args.self.now) (state_of c.part_operand.new.self) (state_of c.part_pointer.new.self)
    (operand_of c.in_ok-owner.owner) (location_of c.in_ok-at.at) c.own_type.ensures c.in_ok-owner.ensures c.in_ok-at.ensures

pub cut_by-part_value-requires : goal.cut_by-part_value-requires
cut_by-part_value-requires t c =
    let lighter = first_lighter c.args.arguments.now c.first.result c.first.ensures in
    let same = ap (λ (o : Option Part). weight (part_form o)) c.in-Some.is in
    omega arith

pub cut_by-size_if-requires : goal.cut_by-size_if-requires
cut_by-size_if-requires t c =
    let lighter = second_lighter c.args.arguments.now c.second.result c.second.ensures in
    omega arith

pub cut_by-returns : goal.cut_by-returns
cut_by-returns t c =
    cut_first (around_of c.args.a.now) c.args.arguments.now c.first.result c.in-Some.index c.first.ensures c.in-Some.is (delimiters_view c.args.delimiters.now) (location_of c.args.from) c.behind.result c.behind-2.result c.second.result
    (state_of c.args.self.now) (state_of c.part_value.new.self) (state_of c.size_if.new.self) c.in_ok-index.index c.in_ok-count.count
    c.behind.ensures c.in_ok-index.ensures c.behind-2.ensures c.second.ensures c.in_ok-count.ensures

pub cut-returns : goal.cut-returns
cut-returns t c =
    let a = around_of c.args.a.now in
    answers_as pointing_of c.cut_by.result _ _ _
    (cut_alone a (part_uses a c.args.base) (forms (typed_views c.args.arguments.now)) (delimiters_view c.args.delimiters.now) (state_of c.args.self.now) (state_of c.own_pointer.new.self) (location_of c.in_ok-from.from)
    (sym c.has_first.ensures ∙ c.if-not-has_first.false) c.in_ok-from.ensures)
    c.cut_by.ensures

-- ---- iterators and texts

pub advanced-returns-in_ok-from-in-Advanced : goal.advanced-returns-in_ok-from-in-Advanced
advanced-returns-in_ok-from-in-Advanced t c =
    let a = around_of c.args.a.now in let n = c.args.node.now in
    answers_as pointing_of c.advanced_by.result _ _ _
    (advanced_alone c.args.row (part_uses a c.args.left) (part_uses a (Some c.args.right)) n.place n.ty n.category (state_of c.args.self.now) (state_of c.own_pointer.new.self)
    (location_of c.in_ok-from-in-Advanced.from) (ap advances c.in-Advanced.is) c.in_ok-from-in-Advanced.ensures)
    c.advanced_by.ensures

pub advanced_by-returns-in_ok-count-in-Advanced : goal.advanced_by-returns-in_ok-count-in-Advanced
advanced_by-returns-in_ok-count-in-Advanced t c =
    let right = part_uses (around_of c.args.a.now) (Some c.args.right) in let q = location_of c.args.from in let s = state_of c.args.self.now in
    ap (λ (w : Row). advanced_by w q right c.args.place s) c.in-Advanced.is
    ∙ ap (λ (u : Ty). mapped (λ n. By (λ p. Advance p q n c.in-Advanced.direction)) (value right c.args.place u None s)) (sym c.own_type-ty.ensures)
    ∙ ap (mapped (λ n. By (λ p. Advance p q n c.in-Advanced.direction))) c.in_ok-count-in-Advanced.ensures

pub points_to-returns-in-Binary : goal.points_to-returns-in-Binary
points_to-returns-in-Binary t c =
    let a = around_of c.args.a.now in let n = c.args.node.now in
    answers_as pointing_of c.advanced.result _ _ _
    (ap (λ (x : Shape). (uses a (typed n.place n.ty n.category (shape_form x))).pointing (state_of c.args.self.now)) c.in-Binary.is
    ∙ ap (λ (w : Row). (binary_uses w (part_uses a c.in-Binary.left) (part_uses a (Some c.in-Binary.right)) n.place n.ty n.category).pointing (state_of c.args.self.now)) (sym c.row_between-row.ensures))
    c.advanced.ensures

pub compared-returns : goal.compared-returns
compared-returns t c =
    let a = around_of c.args.a.now in let n = c.args.node.now in
    compares c.args.equal (part_uses a c.args.left) (part_uses a (Some c.args.right)) n.place (own_type n.ty) c.own_type.result c.args.into
    (state_of c.args.self.now) (state_of c.seen.new.self) (state_of c.seen-2.new.self) (state_of c.viewed.new.self) (state_of c.viewed-2.new.self) (state_of c.target.new.self) (state_of c.emit.new.self)
    (seen_of c.in_ok-left.left) (seen_of c.in_ok-right.right) (location_of c.in_ok-left-2.left) (location_of c.in_ok-right-2.right) c.in_ok-into.into
    c.in_ok-left.ensures c.in_ok-right.ensures c.in_ok-left-2.ensures c.in_ok-right-2.ensures c.own_type.ensures c.in_ok-into.ensures c.in_ok-emit.ensures

pub concatenated-returns-in_ok-right-in-Concatenated : goal.concatenated-returns-in_ok-right-in-Concatenated
concatenated-returns-in_ok-right-in-Concatenated t c =
    let a = around_of c.args.a.now in let n = c.args.node.now in let left = part_uses a c.args.left in let right = part_uses a (Some c.args.right) in
    ap (λ (w : Row). (binary_uses w left right n.place n.ty n.category).object (state_of c.args.self.now)) c.in-Concatenated.is
    ∙ concatenates left right n.place n.ty n.category (state_of c.args.self.now) (state_of c.seen.new.self) (state_of c.seen-in-Concatenated.new.self) (seen_of c.in_ok-left-in-Concatenated.left) (seen_of c.in_ok-right-in-Concatenated.right)
    c.in_ok-left-in-Concatenated.ensures c.in_ok-right-in-Concatenated.ensures

pub object_last-returns-in-Binary : goal.object_last-returns-in-Binary
object_last-returns-in-Binary t c =
    let a = around_of c.args.a.now in let n = c.args.node.now in
    answers_as last_of c.concatenated.result _ _ _
    (ap (λ (x : Shape). (uses a (typed n.place n.ty n.category (shape_form x))).object (state_of c.args.self.now)) c.in-Binary.is
    ∙ ap (λ (w : Row). (binary_uses w (part_uses a c.in-Binary.left) (part_uses a (Some c.in-Binary.right)) n.place n.ty n.category).object (state_of c.args.self.now)) (sym c.row_between-row.ensures))
    c.concatenated.ensures

pub seen-seen-requires : goal.seen-seen-requires
seen-seen-requires t c =
    let lighter = within_lighter c.opened-node.result c.in-Some.found c.opened-node.ensures.node c.opened-node.ensures.left chain.Concatenated c.is_link.result c.is_link.ensures c.if-not-is_link.false
    c.chain_begins-from.result c.chain_begins-from.result c.chain_begins-from.ensures.links (omega arith) c.chain_begins-from.ensures.few in
    let first = ap weight c.last_of.ensures.form in
    let all = ap (λ (o : Option Part). weight (part_form o)) c.in-Some.is in
    omega arith

pub seen-operators-init : goal.seen-operators-init
seen-operators-init t c = ap (λ (f : Form). seen (uses (around_of c.args.a.now) f) (state_of c.args.self.now)) (sym c.last_of.ensures.form) ∙ c.in_ok-text.ensures

pub seen-text_on-requires : goal.seen-text_on-requires
seen-text_on-requires t c =
    let lighter = within_lighter c.opened-node.result c.in-Some.found c.opened-node.ensures.node c.opened-node.ensures.left chain.Concatenated c.is_link.result c.is_link.ensures c.if-not-is_link.false
    c.chain_begins-from.result (c.operators.number + 1) c.chain_begins-from.ensures.links (omega arith) (omega arith) in
    let next = ap weight (c.opened-next.ensures ∙ c.last_of-in-operators.ensures.form) in
    let all = ap (λ (o : Option Part). weight (part_form o)) c.in-Some.is in
    omega arith

pub seen-operators-preserved : goal.seen-operators-preserved
seen-operators-preserved t c =
    let a = around_of c.args.a.now in let s = state_of c.args.self.now in
    link_turn chain.Concatenated Seen (λ f. seen (uses a f) s) (λ f. seen (uses a f) s) (text_on a) (next_text a s) c.in-Some.found.within.now c.chain_begins-from.result c.operators.number c.chain_begins-from.ensures.links (omega arith)
    c.operators-test.true (state_of c.operators.self) (state_of c.text_on.new.self) (seen_of c.operators.text) (seen_of c.in_ok-text-2.text) (node_form c.opened-next.result)
    c.operators.invariant (c.opened-next.ensures ∙ c.last_of-in-operators.ensures.form) c.in_ok-text-2.ensures

pub seen-returns : goal.seen-returns
seen-returns t c =
    let a = around_of c.args.a.now in let s = state_of c.args.self.now in
    answers_as seen_of c.text_on-2.result _ _ _
    (ap (λ (o : Option Part). seen (part_uses a o) s) c.in-Some.is)
    (last_link chain.Concatenated Seen (λ f. seen (uses a f) s) (λ f. seen (uses a f) s) (text_on a) (next_text a s) c.opened-node.result c.in-Some.found c.opened-node.ensures.node c.opened-node.ensures.left
    c.is_link.result c.is_link.ensures c.if-not-is_link.false c.operators.number c.operators-test.false seen_of (state_of c.operators.self) (seen_of c.operators.text) c.text_on-2.result (state_of c.text_on-2.new.self)
    c.operators.invariant c.text_on-2.ensures)

pub text_on-returns-in_ok-local-in-Binary : goal.text_on-returns-in_ok-local-in-Binary
text_on-returns-in_ok-local-in-Binary t c =
    let a = around_of c.args.a.now in let n = c.in-Some.node in let x = seen_of c.args.left in let y = seen_of c.in_ok-right-in-Binary.right in let s = state_of c.args.self.now in
    ap (λ (o : Option Node). text_on a (node_form o) x s) c.in-Some.is
    ∙ ap (λ (z : Shape). text_on a (typed n.place n.ty n.category (shape_form z)) x s) c.in-Binary.is
    ∙ ap (λ (w : Gives Seen). mapped (λ m. InString n.place (object_named m)) (lived Plain (concatenated n.place x w.given) (temporary n.place (own_type n.ty)) w.state)) c.in_ok-right-in-Binary.ensures
    ∙ ap (λ (u : Ty). mapped (λ m. InString n.place (object_named m)) (lived Plain (concatenated n.place x y) (temporary n.place u) (state_of c.seen.new.self))) (sym c.own_type.ensures)
    ∙ ap (mapped (λ m. InString n.place (object_named m))) c.in_ok-local-in-Binary.ensures
    ∙ ap (λ (o : Operand). gives (InString n.place o) (state_of c.built.new.self)) (sym c.name-string.ensures)

pub lone_seen-returns-in_ok-string-in-Text : goal.lone_seen-returns-in_ok-string-in-Text
lone_seen-returns-in_ok-string-in-Text t c =
    let a = around_of c.args.a.now in
    seen_string (part_uses a c.args.part) c.own_type-own.result c.in-Some.found.place (state_of c.args.self.now) (state_of c.part_operand.new.self) (operand_of c.in_ok-string-in-Text.string)
    (c.own_type-own.ensures ∙ sym (ap (λ (o : Option Part). own (part_uses a o)) c.in-Some.is)) c.in-Text.is (sym (ap (λ (o : Option Part). (part_uses a o).place) c.in-Some.is)) c.in_ok-string-in-Text.ensures

pub lone_seen-returns-in_ok-register-in-Char : goal.lone_seen-returns-in_ok-register-in-Char
lone_seen-returns-in_ok-register-in-Char t c =
    let a = around_of c.args.a.now in
    seen_character (part_uses a c.args.part) c.own_type-own.result c.in-Some.found.place (state_of c.args.self.now) (state_of c.part_value.new.self) c.in_ok-register-in-Char.register
    (c.own_type-own.ensures ∙ sym (ap (λ (o : Option Part). own (part_uses a o)) c.in-Some.is)) c.in-Char.is (sym (ap (λ (o : Option Part). (part_uses a o).place) c.in-Some.is)) c.in_ok-register-in-Char.ensures

-- ---- calls

pub points_to-returns-in_ok-arguments-in-Call : goal.points_to-returns-in_ok-arguments-in-Call
points_to-returns-in_ok-arguments-in-Call t c =
    let a = around_of c.args.a.now in let n = c.args.node.now in
    ap (λ (x : Shape). (uses a (typed n.place n.ty n.category (shape_form x))).pointing (state_of c.args.self.now)) c.in-Call.is
    ∙ ap (mapped By)
    (called_given a c.in-Call.function (forms (typed_views c.in-Call.arguments.now)) (delimiters_view c.in-Call.delimiters.now) (map (λ (l : TypedLocal). l.ty) c.parameters.result.now)
    (map argument_of c.in_ok-arguments-in-Call.arguments.items) (state_of c.args.self.now) (state_of c.arguments.new.self) c.parameters.ensures c.in_ok-arguments-in-Call.ensures)

pub object_last-returns-in_ok-arguments-in-Call : goal.object_last-returns-in_ok-arguments-in-Call
object_last-returns-in_ok-arguments-in-Call t c =
    let a = around_of c.args.a.now in let n = c.args.node.now in
    ap (λ (x : Shape). (uses a (typed n.place n.ty n.category (shape_form x))).object (state_of c.args.self.now)) c.in-Call.is
    ∙ ap (mapped (filled n.place))
    (called_given a c.in-Call.function (forms (typed_views c.in-Call.arguments.now)) (delimiters_view c.in-Call.delimiters.now) (map (λ (l : TypedLocal). l.ty) c.parameters.result.now)
    (map argument_of c.in_ok-arguments-in-Call.arguments.items) (state_of c.args.self.now) (state_of c.arguments.new.self) c.parameters.ensures c.in_ok-arguments-in-Call.ensures)

pub at-returns-in_ok-register-in-Call : goal.at-returns-in_ok-register-in-Call
at-returns-in_ok-register-in-Call t c =
    let a = around_of c.args.a.now in let n = c.args.node.now in let f = called c.in-Call.function (map argument_of c.in_ok-arguments-in-Call.arguments.items) in
    ap (λ (x : Shape). (uses a (typed n.place n.ty n.category (shape_form x))).at (state_of c.args.self.now)) c.in-Call.is
    ∙ ap (λ (w : Gives (Location → Step)). mapped behind (built (Fill n.place w.given) (wanted n.place None (reference_to n.category)) w.state))
    (called_given a c.in-Call.function (forms (typed_views c.in-Call.arguments.now)) (delimiters_view c.in-Call.delimiters.now) (map (λ (l : TypedLocal). l.ty) c.parameters.result.now)
    (map argument_of c.in_ok-arguments-in-Call.arguments.items) (state_of c.args.self.now) (state_of c.arguments.new.self) c.parameters.ensures c.in_ok-arguments-in-Call.ensures)
    ∙ ap (λ (u : Ty). mapped behind (built (Fill n.place f) (wanted n.place None u) (state_of c.arguments.new.self))) (sym c.reference_to-ty.ensures)
    ∙ ap (mapped behind) c.in_ok-register-in-Call.ensures
    ∙ ap (λ (o : Operand). gives o (state_of c.built.new.self)) (sym c.through.ensures)

-- ---- what is given over, and what references are bound to

pub given_over-returns-in-Value : goal.given_over-returns-in-Value
given_over-returns-in-Value t c =
    answers_as (λ x. x) c.part_value.result _ _ _
    (given_over_as (part_uses (around_of c.args.a.now) (Some c.args.part)) c.args.ty c.args.behind (state_of c.args.self.now) c.class.result classes.Value c.class.ensures c.in-Value.is) c.part_value.ensures

pub given_over-returns-in-Pointer : goal.given_over-returns-in-Pointer
given_over-returns-in-Pointer t c =
    answers_as (λ x. x) c.given_in.result _ _ _
    (given_over_as (part_uses (around_of c.args.a.now) (Some c.args.part)) c.args.ty c.args.behind (state_of c.args.self.now) c.class.result classes.Pointer c.class.ensures c.in-Pointer.is) c.given_in.ensures

pub given_over-returns-in-Owner : goal.given_over-returns-in-Owner
given_over-returns-in-Owner t c =
    answers_as (λ x. x) c.given_in-in-Owner.result _ _ _
    (given_over_as (part_uses (around_of c.args.a.now) (Some c.args.part)) c.args.ty c.args.behind (state_of c.args.self.now) c.class.result classes.Owner c.class.ensures c.in-Owner.is) c.given_in-in-Owner.ensures

pub given_over-returns-in-Aggregate : goal.given_over-returns-in-Aggregate
given_over-returns-in-Aggregate t c =
    answers_as (λ x. x) c.given_in-in-Aggregate.result _ _ _
    (given_over_as (part_uses (around_of c.args.a.now) (Some c.args.part)) c.args.ty c.args.behind (state_of c.args.self.now) c.class.result classes.Aggregate c.class.ensures c.in-Aggregate.is) c.given_in-in-Aggregate.ensures

pub argument-returns-in_ok-given-in-Owner : goal.argument-returns-in_ok-given-in-Owner
argument-returns-in_ok-given-in-Owner t c =
    let a = around_of c.args.a.now in
    argument_as a (part_uses a (Some c.args.part)) c.args.ty c.args.behind (state_of c.args.self.now) c.class.result classes.Owner c.class.ensures c.in-Owner.is ∙ ap (mapped GivenOver) c.in_ok-given-in-Owner.ensures

pub argument-returns-in_ok-given-in-Aggregate : goal.argument-returns-in_ok-given-in-Aggregate
argument-returns-in_ok-given-in-Aggregate t c =
    let a = around_of c.args.a.now in
    argument_as a (part_uses a (Some c.args.part)) c.args.ty c.args.behind (state_of c.args.self.now) c.class.result classes.Aggregate c.class.ensures c.in-Aggregate.is ∙ ap (mapped GivenOver) c.in_ok-given-in-Aggregate.ensures

pub bound-returns-then-is_place_of : goal.bound-returns-then-is_place_of
bound-returns-then-is_place_of t c =
    let a = around_of c.args.a.now in
    place_bound a (keeps_of c.args.keeping) (part_uses a (Some c.args.part)) c.args.target c.args.behind (state_of c.args.self.now) (state_of c.part_at.new.self) (operand_of c.in_ok-place.place)
    (sym c.is_place_of.ensures ∙ c.if-is_place_of.true) c.in_ok-place.ensures

pub bound-returns : goal.bound-returns
bound-returns t c =
    let a = around_of c.args.a.now in
    temporary_bound a (keeps_of c.args.keeping) (part_uses a (Some c.args.part)) c.args.target c.type_of-ty.result c.args.behind (destination_of c.goal-goal.result) (state_of c.args.self.now) (state_of c.given_in.new.self)
    c.in_ok-local.local (operand_of c.name-place.result) (sym c.is_place_of.ensures ∙ c.if-is_place_of.false) c.type_of-ty.ensures c.goal-goal.ensures c.in_ok-local.ensures c.name-place.ensures

-- ---- lists

pub pushed-elements-init : goal.pushed-elements-init
pushed-elements-init t c = refl

pub pushed-given_over-requires : goal.pushed-given_over-requires
pushed-given_over-requires t c =
    let lighter = argument_lighter c.args.elements.now c.elements.number c.index-elements-number.result c.elements-test.true c.index-elements-number.is in
    let same = ap (λ (e : Typed). weight (whole e)) c.of-part.ensures in
    omega arith

pub pushed-elements-preserved : goal.pushed-elements-preserved
pushed-elements-preserved t c =
    pushed_turn (around_of c.args.a.now) c.args.ty c.args.local (operand_of c.name-place.result) (delimiters_view c.args.delimiters.now) c.args.elements.now c.elements.number c.index-elements-number.result c.of-part.result
    c.behind-behind.result (state_of c.elements.self) (state_of c.given_over.new.self) (state_of c.emit.new.self) _ c.in_ok-given.given c.elements-test.true c.index-elements-number.is c.of-part.ensures c.behind-behind.ensures
    c.in_ok-given.ensures c.name-place.ensures c.in_ok-emit.ensures c.elements.invariant

pub pushed-returns : goal.pushed-returns
pushed-returns t c =
    all_pushed (around_of c.args.a.now) c.args.ty (object_named c.args.local) (delimiters_view c.args.delimiters.now) c.args.elements.now c.elements.number (state_of c.elements.self) _ c.elements-test.false c.elements.invariant

pub assigned_members-members-init : goal.assigned_members-members-init
assigned_members-members-init t c = refl

pub assigned_members-part_assigned-requires : goal.assigned_members-part_assigned-requires
assigned_members-part_assigned-requires t c =
    let lighter = argument_lighter c.args.elements.now c.members.index c.index-elements-index.result c.members-test.true c.index-elements-index.is in
    let same = ap (λ (e : Typed). weight (whole e)) c.of-part.ensures in
    omega arith

pub assigned_members-members-preserved : goal.assigned_members-members-preserved
assigned_members-members-preserved t c =
    member_turn (around_of c.args.a.now) (object_named c.args.local) (delimiters_view c.args.delimiters.now) c.args.elements.now c.args.members.now c.members.index c.in_ok-member-in-Some.member c.index-elements-index.result c.of-part.result
    c.in-Some.id c.type_of-ty.result c.behind-behind.result (state_of c.members.self) (state_of c.part_assigned.new.self) _ c.members-test.true c.index-elements-index.is c.of-part.ensures c.behind-behind.ensures
    c.in-Some.ensures c.type_of-ty.ensures c.in_ok-member-in-Some.ensures c.in_ok-part_assigned-in-Some.ensures c.members.invariant

pub assigned_members-returns-in-None : goal.assigned_members-returns-in-None
assigned_members-returns-in-None t c =
    members_past (around_of c.args.a.now) (object_named c.args.local) (delimiters_view c.args.delimiters.now) c.args.elements.now c.args.members.now c.members.index (state_of c.members.self) _ c.in-None.ensures c.members.invariant

pub assigned_members-returns : goal.assigned_members-returns
assigned_members-returns t c =
    all_assigned (around_of c.args.a.now) (object_named c.args.local) (delimiters_view c.args.delimiters.now) c.args.elements.now c.args.members.now c.members.index (state_of c.members.self) _ c.members-test.false c.members.invariant

-- ---- what isn't decided, and needs a temporary

pub decision-returns-in-TextOf : goal.decision-returns-in-TextOf
decision-returns-in-TextOf t c =
    let a = around_of c.args.a.now in let n = c.args.node.now in (
      ap (λ (x : Shape). (uses a (typed n.place n.ty n.category (shape_form x))).decision c.args.behind) c.in-TextOf.is ∙ text_undecided (part_uses a c.in-TextOf.inner) n.place n.ty n.category c.args.behind,
      refl,
    )

pub replacing-returns-in-TextOf : goal.replacing-returns-in-TextOf
replacing-returns-in-TextOf t c =
    let a = around_of c.args.a.now in let n = c.args.node.now in
    answers_if_as act_of c.string_replacing.result _ _ _ _
    (ap (λ (x : Shape). (uses a (typed n.place n.ty n.category (shape_form x))).replacing) c.in-TextOf.is ∙ string_replacing (part_uses a c.in-TextOf.inner) n.place n.ty n.category)
    c.string_replacing.ensures

pub replacing-returns-in-Binary : goal.replacing-returns-in-Binary
replacing-returns-in-Binary t c =
    let a = around_of c.args.a.now in let n = c.args.node.now in (
      ap (λ (x : Shape). (uses a (typed n.place n.ty n.category (shape_form x))).replacing) c.in-Binary.is
          ∙ (operator_nameless (row_between c.in-Binary.operator (part_form c.in-Binary.left) (whole (part_view c.in-Binary.right))) (part_uses a c.in-Binary.left) (part_uses a (Some c.in-Binary.right)) n.place n.ty n.category).1,
      refl,
    )

pub replacing-returns-in-Method : goal.replacing-returns-in-Method
replacing-returns-in-Method t c =
    let a = around_of c.args.a.now in let n = c.args.node.now in (
      ap (λ (x : Shape). (uses a (typed n.place n.ty n.category (shape_form x))).replacing) c.in-Method.is
          ∙ (method_nameless a c.in-Method.method (part_uses a c.in-Method.base) (expressions_uses a c.in-Method.arguments.now) (delimiters_view c.in-Method.delimiters.now) n.place n.ty n.category).1,
      refl,
    )

-- ---- what builds owners and structs

pub object-returns-in_ok-last-in_default : goal.object-returns-in_ok-last-in_default
object-returns-in_ok-last-in_default t c =
    finished ((node_uses (around_of c.args.a.now) c.args.node.now).object (state_of c.args.self.now)) (last_of c.in_ok-last-in_default.last) (destination_of c.args.destination) (state_of c.object_last.new.self)
    (state_of c.built.new.self) c.built.result c.in_ok-last-in_default.ensures c.built.ensures

pub object-returns-in-Construct : goal.object-returns-in-Construct
object-returns-in-Construct t c =
    let a = around_of c.args.a.now in let n = c.args.node.now in let d = destination_of c.args.destination in let s = state_of c.args.self.now in
    answers_as (λ x. x) c.list.result _ _ _
    (ap (λ (x : Shape). object_in (uses a (typed n.place n.ty n.category (shape_form x))) d s) c.in-Construct.is
    ∙ ap (λ (u : Ty). list_object a u n.place (expressions_uses a c.in-Construct.elements.now) (delimiters_view c.in-Construct.delimiters.now) d s) (sym c.own_type-ty.ensures))
    c.list.ensures

pub object-returns-in-Paren : goal.object-returns-in-Paren
object-returns-in-Paren t c =
    let a = around_of c.args.a.now in let n = c.args.node.now in
    answers_as (λ x. x) c.part_object.result _ _ _
    (ap (λ (x : Shape). object_in (uses a (typed n.place n.ty n.category (shape_form x))) (destination_of c.args.destination) (state_of c.args.self.now)) c.in-Paren.is) c.part_object.ensures

pub object-returns-in-TextOf : goal.object-returns-in-TextOf
object-returns-in-TextOf t c =
    let a = around_of c.args.a.now in let n = c.args.node.now in
    answers_as (λ x. x) c.string.result _ _ _
    (ap (λ (x : Shape). object_in (uses a (typed n.place n.ty n.category (shape_form x))) (destination_of c.args.destination) (state_of c.args.self.now)) c.in-TextOf.is) c.string.ensures

pub string-returns-in-Text : goal.string-returns-in-Text
string-returns-in-Text t c =
    let a = around_of c.args.a.now in let n = c.args.node.now in let d = destination_of c.args.destination in let s = state_of c.args.self.now in
    answers_as (λ x. x) c.string_of_string.result _ _ _
    (ap (λ (o : Option Part). object_in (string_uses (part_uses a o) n.place n.ty n.category) d s) c.in-Some.is
    ∙ ap (λ (u : Ty). object_in (string_of u (part_uses a (Some c.in-Some.part)) n.place n.ty n.category) d s) (sym c.own_type-own.ensures ∙ c.in-Text.is))
    c.string_of_string.ensures

-- ---- assignments

pub part_assigned-returns-in_ok-to-in-Value : goal.part_assigned-returns-in_ok-to-in-Value
part_assigned-returns-in_ok-to-in-Value t c =
    let a = around_of c.args.a.now in let e = part_uses a (Some c.args.part) in let to = target_of a c.args.target in
    on_ok_weaker c.emit.result
    (value_assigned e c.args.ty to c.args.equals c.args.behind (state_of c.args.self.now) c.class.result c.class.ensures (state_of c.part_value.new.self) (state_of c.target_operand.new.self) (state_of c.emit.new.self)
    c.in_ok-from-in-Value.from (operand_of c.in_ok-to-in-Value.to) c.in-Value.is c.in_ok-from-in-Value.ensures c.in_ok-to-in-Value.ensures)
    c.emit.ensures

pub part_assigned-returns-in_ok-pointer-in-Pointer : goal.part_assigned-returns-in_ok-pointer-in-Pointer
part_assigned-returns-in_ok-pointer-in-Pointer t c =
    let a = around_of c.args.a.now in let e = part_uses a (Some c.args.part) in let to = target_of a c.args.target in
    on_ok_weaker c.point.result
    (pointer_assigned e c.args.ty to c.args.equals c.args.behind (state_of c.args.self.now) c.class.result c.class.ensures (state_of c.part_pointing.new.self) (state_of c.target_location.new.self) (state_of c.point.new.self)
    (pointing_of c.in_ok-pointing-in-Pointer.pointing) (location_of c.in_ok-pointer-in-Pointer.pointer) c.in-Pointer.is c.in_ok-pointing-in-Pointer.ensures c.in_ok-pointer-in-Pointer.ensures)
    c.point.ensures

pub part_assigned-returns-in_ok-act-in-Owner : goal.part_assigned-returns-in_ok-act-in-Owner
part_assigned-returns-in_ok-act-in-Owner t c =
    let a = around_of c.args.a.now in let e = part_uses a (Some c.args.part) in let to = target_of a c.args.target in
    on_ok_weaker c.acted.result
    (owner_assigned e c.args.ty to c.args.equals c.args.behind (state_of c.args.self.now) c.class.result c.class.ensures (state_of c.owner_act.new.self) (state_of c.acted.new.self)
    (act_of c.in_ok-act-in-Owner.act) c.in-Owner.is c.in_ok-act-in-Owner.ensures)
    c.acted.ensures

pub part_assigned-returns-in_ok-act-in-Aggregate : goal.part_assigned-returns-in_ok-act-in-Aggregate
part_assigned-returns-in_ok-act-in-Aggregate t c =
    let a = around_of c.args.a.now in let e = part_uses a (Some c.args.part) in let to = target_of a c.args.target in
    on_ok_weaker c.acted-in-Aggregate.result
    (struct_assigned e c.args.ty to c.args.equals c.args.behind (state_of c.args.self.now) c.class.result c.class.ensures (state_of c.struct_act.new.self) (state_of c.acted-in-Aggregate.new.self)
    (act_of c.in_ok-act-in-Aggregate.act) c.in-Aggregate.is c.in_ok-act-in-Aggregate.ensures)
    c.acted-in-Aggregate.ensures

pub acted-returns : goal.acted-returns
acted-returns t c =
    on_ok_weaker c.act.result
    (acted_on (act_of c.args.act) (target_of (around_of c.args.a.now) c.args.target) c.args.equals (state_of c.args.self.now) (state_of c.target_operand.new.self) (state_of c.act.new.self) (operand_of c.in_ok-to.to) c.in_ok-to.ensures)
    c.act.ensures

pub value_act-returns-in-Some : goal.value_act-returns-in-Some
value_act-returns-in-Some t c =
    let a = around_of c.args.a.now in let e = part_uses a (Some c.args.part) in let s = state_of c.args.self.now in
    let seen = opened_uses a (Some c.args.part) c.args.part c.opened.result refl c.opened.ensures.node in
    let by = (node_uses a c.opened.result).replacing in
    ap (λ (u : Uses). replaced_by u.replacing (temporary_of e c.args.ty) s) seen
    ∙ replaced_is act_of c.in-Some.act by (temporary_of e c.args.ty) s (state_of c.replacing.new.self)
    (decides act_of c.in_ok-act.field-0 c.in-Some.act by s (state_of c.replacing.new.self) c.in-Some.is c.in_ok-act.ensures)

pub value_act-returns : goal.value_act-returns
value_act-returns t c =
    let a = around_of c.args.a.now in let e = part_uses a (Some c.args.part) in let s = state_of c.args.self.now in
    let seen = opened_uses a (Some c.args.part) c.args.part c.opened.result refl c.opened.ensures.node in
    let by = (node_uses a c.opened.result).replacing in
    let none = leaves act_of c.in_ok-act.field-0 by s (state_of c.replacing.new.self) (nothing_there c.in_ok-act.field-0 c.in_default.not-Some) c.in_ok-act.ensures in
    ap (λ (u : Uses). replaced_by u.replacing (temporary_of e c.args.ty) s) seen
    ∙ not_replaced by (temporary_of e c.args.ty) s (state_of c.replacing.new.self) (state_of c.part_object.new.self) c.in_ok-local.local none.0 none.1 c.in_ok-local.ensures

-- ---- elements

pub indexed-returns : goal.indexed-returns
indexed-returns t c =
    let n = c.args.node.now in let i = part_uses (around_of c.args.a.now) (Some c.args.index) in
    answers_as operand_of c.element.result _ _ _
    (ap (λ (w : Gives Base). value i c.args.closing ty.Size None w.state >> λ r s. element n.place n.category w.given (which.Index r) s) c.in_ok-base.ensures
    ∙ ap (λ (w : Gives ℕ). element n.place n.category (base_of c.in_ok-base.base) (which.Index w.given) w.state) c.in_ok-register.ensures)
    c.element.ensures

pub end_of-returns : goal.end_of-returns
end_of-returns t c =
    let n = c.args.node.now in
    answers_as operand_of c.element.result _ _ _ (ap (λ (w : Gives Base). element n.place n.category w.given c.args.which w.state) c.in_ok-base.ensures) c.element.ensures

pub sized-returns : goal.sized-returns
sized-returns t c =
    ap (λ (w : Gives Base). computed c.args.into ty.Size c.args.place (λ r. Size r w.given) w.state) c.in_ok-base.ensures
    ∙ ap (λ (w : Gives ℕ). gives w.given (emit c.args.place (Size w.given (base_of c.in_ok-base.base)) w.state)) c.in_ok-into.ensures
    ∙ ap (λ (z : State). gives c.in_ok-into.into z) (sym c.in_ok-emit.ensures)

pub emptied-returns : goal.emptied-returns
emptied-returns t c =
    answers_as (λ x. x) c.eval.result _ _ _
    (ap (λ (w : Gives ℕ). computed c.args.into ty.Bool c.args.place (eval (operation.IsZero w.given)) w.state) c.in_ok-count.ensures) c.eval.ensures

pub got-returns : goal.got-returns
got-returns t c =
    ap (mapped (λ o. aimed (Get (location_in o)))) c.in_ok-owner.ensures ∙ ap (λ (l : Location). gives (aimed (Get l)) (state_of c.part_operand.new.self)) (sym c.location_in.ensures)

pub member_at-returns : goal.member_at-returns
member_at-returns t c =
    ap (mapped (with_member c.args.member)) c.in_ok-place.ensures ∙ ap (λ (o : Operand). gives o (state_of c.part_operand.new.self)) (sym c.in_ok-reached.ensures)

pub owned-returns-in_ok-given-in-Some : goal.owned-returns-in_ok-given-in-Some
owned-returns-in_ok-given-in-Some t c =
    let a = around_of c.args.a.now in let s = state_of c.args.self.now in
    ap (λ (o : Option Part). owned_operand (type_of a c.args.element) (uses_if a (part_form o)) c.args.closing s) c.in-Some.is
    ∙ ap (λ (u : Ty). mapped made.Of (given_over (part_uses a (Some c.in-Some.part)) u c.args.closing s)) (sym c.type_of.ensures)
    ∙ ap (mapped made.Of) c.in_ok-given-in-Some.ensures

pub size_if-returns-in_ok-register-in-Some : goal.size_if-returns-in_ok-register-in-Some
size_if-returns-in_ok-register-in-Some t c =
    let a = around_of c.args.a.now in
    ap (λ (o : Option Part). size_if (uses_if a (part_form o)) c.args.behind (state_of c.args.self.now)) c.in-Some.is ∙ ap (mapped Some) c.in_ok-register-in-Some.ensures

pub list-returns-then-has_none : goal.list-returns-then-has_none
list-returns-then-has_none t c =
    answers_as (λ x. x) c.live_zero.result _ _ _
    (list_of_none (around_of c.args.a.now) c.args.ty c.args.opening c.args.elements.now (delimiters_view c.args.delimiters.now) (destination_of c.args.destination) (state_of c.args.self.now) (sym c.has_none.ensures ∙ c.if-has_none.true))
    c.live_zero.ensures

pub list-returns : goal.list-returns
list-returns t c =
    list_of_some (around_of c.args.a.now) c.args.ty c.args.opening c.args.elements.now (delimiters_view c.args.delimiters.now) (destination_of c.args.destination) (state_of c.args.self.now) (state_of c.live.new.self) (state_of c.filled_in.new.self)
    c.in_ok-local.local (sym c.has_none.ensures ∙ c.if-has_none.false) c.in_ok-local.ensures c.in_ok-filled_in.ensures

-- what is done to an object of a type
pub filled_in-returns-in_ok-reserved_for-in-Vector : goal.filled_in-returns-in_ok-reserved_for-in-Vector
filled_in-returns-in_ok-reserved_for-in-Vector t c =
    on_ok_weaker c.pushed.result
    (vector_filled (around_of c.args.a.now) c.args.elements.now (delimiters_view c.args.delimiters.now) c.args.opening c.args.local c.args.ty c.type_of.result c.in-Vector.element
    (state_of c.args.self.now) (state_of c.reserved_for.new.self) (state_of c.pushed.new.self) c.in-Vector.is c.in_ok-reserved_for-in-Vector.ensures c.type_of.ensures)
    c.pushed.ensures

pub filled_in-returns-in-Struct : goal.filled_in-returns-in-Struct
filled_in-returns-in-Struct t c =
    on_ok_weaker c.assigned_members.result
    (struct_filled (around_of c.args.a.now) c.args.elements.now (delimiters_view c.args.delimiters.now) c.args.opening c.args.local c.in-Struct.number c.args.ty c.members_at-members.result.now
    (state_of c.args.self.now) (state_of c.assigned_members.new.self) c.in-Struct.is c.members_at-members.ensures)
    c.assigned_members.ensures

-- ---- objects that are copied, and strings

pub object_given-returns-in_ok-from-in-Place : goal.object_given-returns-in_ok-from-in-Place
object_given-returns-in_ok-from-in-Place t c =
    let e = part_uses (around_of c.args.a.now) (Some c.args.part) in let s = state_of c.args.self.now in
    finished (object_by e.category e.at e.object s) (lived Plain (copied (operand_of c.in_ok-from-in-Place.from))) (destination_of c.args.destination) (state_of c.part_at.new.self) (state_of c.built.new.self) c.built.result
    (ap (λ (k : Category). object_by k e.at e.object s) c.in-Place.is ∙ ap (mapped (λ from. lived Plain (copied from))) c.in_ok-from-in-Place.ensures) c.built.ensures

pub string_of_string-returns-in_ok-from-in-Place : goal.string_of_string-returns-in_ok-from-in-Place
string_of_string-returns-in_ok-from-in-Place t c =
    let e = part_uses (around_of c.args.a.now) (Some c.args.part) in let n = c.args.node.now in let s = state_of c.args.self.now in let o = operand_of c.in_ok-from-in-Place.from in
    finished ((string_of_string c.args.part.category e n.place n.ty n.category).object s) (lived Plain (copied_at n.place o)) (destination_of c.args.destination) (state_of c.part_at.new.self) (state_of c.built.new.self) c.built.result
    (string_copied c.args.part.category e n.place n.ty n.category s (state_of c.part_at.new.self) o c.in-Place.ty c.in-Place.constant c.in-Place.is c.in_ok-from-in-Place.ensures) c.built.ensures

pub string-returns-in_ok-view-in_default-own : goal.string-returns-in_ok-view-in_default-own
string-returns-in_ok-view-in_default-own t c =
    let a = around_of c.args.a.now in let e = part_uses a c.args.inner in let n = c.args.node.now in let s = state_of c.args.self.now in let l = location_of c.in_ok-view-in_default-own.view in
    finished ((string_uses e n.place n.ty n.category).object s) (lived Plain (standing n.place (set_to l))) (destination_of c.args.destination) (state_of c.part_pointer.new.self) (state_of c.built.new.self) c.built.result
    (string_of_view c.own_type-own.result e n.place n.ty n.category s (state_of c.part_pointer.new.self) l (c.own_type-own.ensures ∙ sym (ap (λ (o : Option Part). own (part_uses a o)) c.in-Some.is)) c.in_default-own.not-Text
    c.in_ok-view-in_default-own.ensures)
    c.built.ensures

pub string_replacing-returns-then-not-is_text : goal.string_replacing-returns-then-not-is_text
string_replacing-returns-then-not-is_text t c =
    let a = around_of c.args.a.now in let e = part_uses a c.args.inner in (
      nothing_replaced e c.own_type.result (c.own_type.ensures ∙ sym (ap (λ (o : Option Part). own (part_uses a o)) c.in-Some.is)) (sym c.is_text.ensures ∙ c.if-not-is_text.true),
      refl,
    )

pub string_replacing-returns-in-Value : goal.string_replacing-returns-in-Value
string_replacing-returns-in-Value t c =
    let a = around_of c.args.a.now in let e = part_uses a c.args.inner in
    answers_if_as act_of c.part_replacing.result _ _ _ _
    (string_replaced e c.own_type.result (c.own_type.ensures ∙ sym (ap (λ (o : Option Part). own (part_uses a o)) c.in-Some.is)) (sym c.is_text.ensures ∙ c.if-not-is_text.false)
    (ap (λ (o : Option Part). (part_uses a o).category) c.in-Some.is ∙ c.in-Value.is))
    c.part_replacing.ensures

pub string_replacing-returns-in-Place : goal.string_replacing-returns-in-Place
string_replacing-returns-in-Place t c =
    let a = around_of c.args.a.now in let e = part_uses a c.args.inner in (
      place_unreplaced e c.in-Place.ty c.in-Place.constant (ap (λ (o : Option Part). (part_uses a o).category) c.in-Some.is ∙ c.in-Place.is),
      refl,
    )

pub replacing-returns-in_ok-made-in-MakeUnique : goal.replacing-returns-in_ok-made-in-MakeUnique
replacing-returns-in_ok-made-in-MakeUnique t c =
    let a = around_of c.args.a.now in let n = c.args.node.now in
    answered_as act_of (action.Made n.place c.in_ok-made-in-MakeUnique.made) _ _ _ _
    (ap (λ (x : Shape). (uses a (typed n.place n.ty n.category (shape_form x))).replacing) c.in-MakeUnique.is)
    (ap (mapped (made_at n.place)) c.in_ok-made-in-MakeUnique.ensures)

-- ---- what a unique_ptr owns, and references that are handed over

pub target_of-returns-in_ok-base-in-Unique : goal.target_of-returns-in_ok-base-in-Unique
target_of-returns-in_ok-base-in-Unique t c =
    let a = around_of c.args.a.now in let e = part_uses a c.args.pointer in let n = c.args.node.now in let s = state_of c.args.self.now in
    answers_as operand_of c.element.result _ _ _
    (ap (λ (u : Ty). target_at u e n.place n.category s) (ap (λ (o : Option Part). own (part_uses a o)) c.in-Some.is ∙ sym c.own_type-own.ensures ∙ c.in-Unique.is)
    ∙ ap (λ (w : Gives Base). element n.place n.category w.given which.Target w.state) c.in_ok-base-in-Unique.ensures)
    c.element.ensures

pub pointer_argument-returns-in_ok-register-in-Reference : goal.pointer_argument-returns-in_ok-register-in-Reference
pointer_argument-returns-in_ok-register-in-Reference t c =
    let a = around_of c.args.a.now in let e = part_uses a (Some c.args.part) in let s = state_of c.args.self.now in
    ap (λ (u : Ty). pointer_argument a e u c.args.behind s) c.in-Reference.is
    ∙ ap (λ (w : Gives Remaining). w >> λ rest s. mapped (λ r. PointerOf (all_of r)) (rest (wanted c.args.part.place None (ty.Reference c.in-Reference.target c.in-Reference.constant)) s)) c.in_ok-last-in-Reference.ensures
    ∙ ap (mapped (λ r. PointerOf (all_of r))) c.in_ok-register-in-Reference.ensures
    ∙ ap (λ (l : Location). gives (PointerOf l) (state_of c.built.new.self)) (sym c.whole.ensures)

-- ---- by the category of what is used

pub node_operand-returns-in_ok-local-in-Value : goal.node_operand-returns-in_ok-local-in-Value
node_operand-returns-in_ok-local-in-Value t c =
    let e = node_uses (around_of c.args.a.now) c.args.node.now in let s = state_of c.args.self.now in
    ap (λ (k : Category). operand_by k e.at (temporary_of e (own e)) s) c.in-Value.is
    ∙ ap (λ (u : Ty). mapped object_named (temporary_of e u s)) (sym c.own_type.ensures)
    ∙ ap (mapped object_named) c.in_ok-local-in-Value.ensures
    ∙ ap (λ (o : Operand). gives o (state_of c.object.new.self)) (sym c.name.ensures)

pub owned_by-returns-in_ok-local-in-Value : goal.owned_by-returns-in_ok-local-in-Value
owned_by-returns-in_ok-local-in-Value t c =
    let e = node_uses (around_of c.args.a.now) c.args.node.now in let s = state_of c.args.self.now in
    ap (λ (k : Category). owned_by k e.at (temporary_of e (own e)) s) c.in-Value.is
    ∙ ap (λ (u : Ty). mapped (λ x. aimed (Get (all_of x))) (temporary_of e u s)) (sym c.own_type.ensures)
    ∙ ap (mapped (λ x. aimed (Get (all_of x)))) c.in_ok-local-in-Value.ensures
    ∙ ap (λ (l : Location). gives (aimed (Get l)) (state_of c.object.new.self)) (sym c.whole-owner.ensures)

pub owned_by-returns-in_ok-place-in-Place : goal.owned_by-returns-in_ok-place-in-Place
owned_by-returns-in_ok-place-in-Place t c =
    let e = node_uses (around_of c.args.a.now) c.args.node.now in let s = state_of c.args.self.now in
    ap (λ (k : Category). owned_by k e.at (temporary_of e (own e)) s) c.in-Place.is
    ∙ ap (mapped (λ o. As (location_in o))) c.in_ok-place-in-Place.ensures
    ∙ ap (λ (l : Location). gives (As l) (state_of c.at.new.self)) (sym c.location_in.ensures)

pub object_given-returns-in-Value : goal.object_given-returns-in-Value
object_given-returns-in-Value t c =
    let e = part_uses (around_of c.args.a.now) (Some c.args.part) in let s = state_of c.args.self.now in
    answers_as (λ x. x) c.part_object.result _ _ _
    (ap (λ (k : Category). object_by k e.at e.object s >> λ rest s. rest (destination_of c.args.destination) s) c.in-Value.is) c.part_object.ensures

pub string_of_string-returns-in-Value : goal.string_of_string-returns-in-Value
string_of_string-returns-in-Value t c =
    let e = part_uses (around_of c.args.a.now) (Some c.args.part) in let n = c.args.node.now in
    answers_as (λ x. x) c.part_object.result _ _ _
    (ap (λ (k : Category). object_in (string_of_string k e n.place n.ty n.category) (destination_of c.args.destination) (state_of c.args.self.now)) c.in-Value.is) c.part_object.ensures

pub owner_act-returns-in-Value : goal.owner_act-returns-in-Value
owner_act-returns-in-Value t c =
    let e = part_uses (around_of c.args.a.now) (Some c.args.part) in
    answers_as act_of c.value_act.result _ _ _
    (ap (λ (k : Category). owner_by k e c.args.ty (state_of c.args.self.now)) c.in-Value.is) c.value_act.ensures

pub owner_act-returns-in_ok-from-in-Place : goal.owner_act-returns-in_ok-from-in-Place
owner_act-returns-in_ok-from-in-Place t c =
    let e = part_uses (around_of c.args.a.now) (Some c.args.part) in
    ap (λ (k : Category). owner_by k e c.args.ty (state_of c.args.self.now)) c.in-Place.is ∙ ap (mapped copied) c.in_ok-from-in-Place.ensures

pub struct_act-returns-in_ok-local-in-Value : goal.struct_act-returns-in_ok-local-in-Value
struct_act-returns-in_ok-local-in-Value t c =
    let e = part_uses (around_of c.args.a.now) (Some c.args.part) in
    ap (λ (k : Category). struct_by k e c.args.ty (state_of c.args.self.now)) c.in-Value.is
    ∙ ap (mapped (λ x. copied (object_named x))) c.in_ok-local-in-Value.ensures
    ∙ ap (λ (o : Operand). gives (copied o) (state_of c.part_object.new.self)) (sym c.name.ensures)

pub struct_act-returns-in_ok-from-in-Place : goal.struct_act-returns-in_ok-from-in-Place
struct_act-returns-in_ok-from-in-Place t c =
    let e = part_uses (around_of c.args.a.now) (Some c.args.part) in
    ap (λ (k : Category). struct_by k e c.args.ty (state_of c.args.self.now)) c.in-Place.is ∙ ap (mapped copied) c.in_ok-from-in-Place.ensures

-- ---- by its type

pub part_base-returns-in_ok-owner-in_default-own : goal.part_base-returns-in_ok-owner-in_default-own
part_base-returns-in_ok-owner-in_default-own t c =
    let a = around_of c.args.a.now in
    base_owned (part_uses a c.args.part) c.own_type-own.result (state_of c.args.self.now) (state_of c.part_operand.new.self) (operand_of c.in_ok-owner-in_default-own.owner)
    (c.own_type-own.ensures ∙ sym (ap (λ (o : Option Part). own (part_uses a o)) c.in-Some.is)) c.in_default-own.not-View c.in_default-own.not-Span c.in_ok-owner-in_default-own.ensures

pub lone_seen-returns-in_ok-view-in_default-own : goal.lone_seen-returns-in_ok-view-in_default-own
lone_seen-returns-in_ok-view-in_default-own t c =
    let a = around_of c.args.a.now in
    seen_view (part_uses a c.args.part) c.own_type-own.result (state_of c.args.self.now) (state_of c.part_pointer.new.self) (location_of c.in_ok-view-in_default-own.view)
    (c.own_type-own.ensures ∙ sym (ap (λ (o : Option Part). own (part_uses a o)) c.in-Some.is)) c.in_default-own.not-Text c.in_default-own.not-Char c.in_ok-view-in_default-own.ensures

pub pointer_argument-returns-in_ok-location-in_default : goal.pointer_argument-returns-in_ok-location-in_default
pointer_argument-returns-in_ok-location-in_default t c =
    let a = around_of c.args.a.now in
    pointer_handed a (part_uses a (Some c.args.part)) c.args.ty c.args.behind (state_of c.args.self.now) (state_of c.part_pointer.new.self) (location_of c.in_ok-location-in_default.location) c.in_default.not-Reference c.in_ok-location-in_default.ensures

pub node_pointing-returns-in-Text : goal.node_pointing-returns-in-Text
node_pointing-returns-in-Text t c =
    let e = node_uses (around_of c.args.a.now) c.args.node.now in
    answers_as pointing_of c.whole.result _ _ _ (ap (λ (u : Ty). pointing_by u e (state_of c.args.self.now)) (sym c.own_type.ensures ∙ c.in-Text.is)) c.whole.ensures

pub node_pointing-returns-in-Vector : goal.node_pointing-returns-in-Vector
node_pointing-returns-in-Vector t c =
    let e = node_uses (around_of c.args.a.now) c.args.node.now in
    answers_as pointing_of c.whole-in-Vector.result _ _ _ (ap (λ (u : Ty). pointing_by u e (state_of c.args.self.now)) (sym c.own_type.ensures ∙ c.in-Vector.is)) c.whole-in-Vector.ensures

pub node_pointing-returns-in-Unique : goal.node_pointing-returns-in-Unique
node_pointing-returns-in-Unique t c =
    let e = node_uses (around_of c.args.a.now) c.args.node.now in
    answers_as pointing_of c.owned_by.result _ _ _ (ap (λ (u : Ty). pointing_by u e (state_of c.args.self.now)) (sym c.own_type.ensures ∙ c.in-Unique.is)) c.owned_by.ensures

-- ---- where a member lies

pub points_to-returns-in_ok-place-in-Member : goal.points_to-returns-in_ok-place-in-Member
points_to-returns-in_ok-place-in-Member t c =
    let a = around_of c.args.a.now in let n = c.args.node.now in let s = state_of c.args.self.now in
    ap (λ (x : Shape). (uses a (typed n.place n.ty n.category (shape_form x))).pointing s) c.in-Member.is
    ∙ ap (mapped (λ o. As (location_in o))) c.in_ok-place-in-Member.ensures
    ∙ ap (λ (l : Location). gives (As l) (state_of c.member_at.new.self)) (sym c.location_in.ensures)

-- ---- where an element lies

pub at-returns-in-Index : goal.at-returns-in-Index
at-returns-in-Index t c =
    let n = c.args.node.now in
    answers_as operand_of c.indexed.result _ _ _
    (ap (λ (x : Shape). (uses (around_of c.args.a.now) (typed n.place n.ty n.category (shape_form x))).at (state_of c.args.self.now)) c.in-Index.is) c.indexed.ensures
