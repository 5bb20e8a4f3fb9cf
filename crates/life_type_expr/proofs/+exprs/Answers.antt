use Rattle.std.proofs.Common.{◌≡◌, false, List, Option, Ok, map, option_map, refl, sym, ap, subst, ◌∙◌}
use Rattle.std.proofs.lemmas.List.{length-map, map-append}
use Rattle.std.proofs.lemmas.Result.{err_from_is_err_and}
use Rattle.life_tree.specs.declared.expr.AndPart.{out-AndPart}
use Rattle.life_tree.specs.declared.expr.Expr.{Expr, out-Expr}
use Rattle.life_tree.specs.declared.expr.LogicalAnd.{out-LogicalAnd}
use Rattle.life_tree.specs.declared.expr.OrPart.{out-OrPart}
use Rattle.life_tree.specs.declared.comparison.Equality.{out-Equality}
use Rattle.life_tree.specs.declared.comparison.EqualityPart.{out-EqualityPart}
use Rattle.life_tree.specs.declared.comparison.Relational.{out-Relational}
use Rattle.life_tree.specs.declared.comparison.RelationalPart.{out-RelationalPart}
use Rattle.life_tree.specs.declared.arithmetic.Additive.{out-Additive}
use Rattle.life_tree.specs.declared.arithmetic.AdditivePart.{out-AdditivePart}
use Rattle.life_tree.specs.declared.arithmetic.Multiplicative.{out-Multiplicative}
use Rattle.life_tree.specs.declared.arithmetic.MultiplicativePart.{out-MultiplicativePart}
use Rattle.life_tree.specs.declared.primary.Postfix.{out-Postfix}
use Rattle.life_tree.specs.declared.primary.Unary.{Unary}
use Rattle.life_typed.specs.Operators.{takes_literals}
use Rattle.life_typed.specs.TypedForm.{Typed, typed_view}
use Rattle.life_typed.specs.declared.typed_expr.BinaryOperator.{BinaryOperator}
use Rattle.life_typed.specs.declared.typed_expr.BinaryOperator.TheVariants as operators
use Rattle.life_names.specs.Checked.{◌>>=◌, Fails}
use Rattle.life_names.specs.Environment.{signature_view, structure_view}
use Rattle.life_type_expr.specs.Expressions.{additive_meaning, additive_operator, additive_part_meaning, and_part_meaning, arguments_meaning, called, constructed, init_list_meaning, equality_meaning, equality_operator, equality_part_meaning, expr_meaning, logical_and_meaning, multiplicative_meaning, multiplicative_operator, multiplicative_part_meaning, or_part_meaning, part_meaning, primary_meaning, relational_meaning, relational_operator, relational_part_meaning, unary_meaning}
use Rattle.life_names.specs.Found.{Finds, found_in, given}
use Rattle.life_type_expr.specs.Operands.{combination, literal_allowed, moved, pointed_to, text_made, variable, parenthesized, prefixed}
use Rattle.life_type_expr.proofs.Alternatives.{of_arrow, of_call, of_char, of_construct, of_false, of_index, of_input, of_member, of_move, of_name, of_null, of_number, of_text, of_text_of, of_true, of_unique, of_paren, of_plain, of_prefix}
use Rattle.life_type_expr.proofs.ChainLemmas.{all_of, alone, ended, turn_fails, turn_goes}
use Rattle.life_type_expr.proofs.Meanings.{additive_made, additive_part_made, and_part_made, equality_made, equality_part_made, expr_made, logical_and_made, multiplicative_made, multiplicative_part_made, or_part_made, postfix_made, relational_made, relational_part_made}
use Rattle.life_type_expr.proofs.OperandLemmas.{joined, left_fails, right_fails, right_literal}
use Rattle.life_names.proofs.Steps.{bind_fails, bind_goes, found_gives, given_fails, given_goes, gives_as}
use Rattle.life_typed.specs.declared.typed_expr.TypedExpr.{TypedExpr}
use Rattle.life_type_expr.specs.Lists.{members as targets_members, misfits, parameters as targets_parameters, read_onto}
use Rattle.life_type_expr.specs.Members.{change_fault, data_member, indexed_at, member_part}
use Rattle.life_type_expr.specs.Named.{function_named, local_named, structure_named}
use Rattle.life_type_expr.specs.TargetViews.{targets_view}
use Rattle.life_type_expr.proofs.CallLemmas.{call_answers, call_fails, closed, construct_answers, construct_fails, delimited, element_fails, list_delimited, list_listed, list_opened, listed, method_answers, method_fails, method_misses, unique_answers, unique_fails}
use Rattle.life_types.specs.declared.ty.Ty.TheVariants as ty
use Rattle.life_tree.specs.declared.expr.Arguments.{out-Arguments}
use Rattle.life_typed.specs.TypedForm.{Form, make_unique, optional_form}
use Rattle.life_type_expr.specs.Operands.{value}
use Rattle.life_type_expr.proofs.FormLemmas.{never_fails, same_found, seen_unique}
use Rattle.life_type_expr.proofs.ListLemmas.{braced_as, passed_all, passed_fails, passed_misfits, read_all, turn_fails as list_turn_fails, turn_literal, turn_reads}
use Rattle.life_names.proofs.Views.{seen_category, seen_type}
use Rattle.life_type_expr.proofs.+exprs.Goals as goal

pub chains::expr-returns-then-is_empty : goal.chains::expr-returns-then-is_empty
chains::expr-returns-then-is_empty t c =
    alone or_part_meaning c.args.environment.now (logical_and_meaning (out-Expr c.args.expr.now).first) (out-Expr c.args.expr.now).more _ c.args.types.now _ _ _ c.is_empty.ensures c.if-is_empty.true (expr_made c.args.expr.now c.args.environment.now c.args.types.now) c.logical_and.ensures

pub chains::or_chain-returns-in_err-typed : goal.chains::or_chain-returns-in_err-typed
chains::or_chain-returns-in_err-typed t c =
    let p = err_from_is_err_and c.from_residual.result c.from_residual.ensures.1 in
    rw (p.1, p.2) (bind_fails (logical_and_meaning (out-Expr c.args.expr.now).first c.args.environment.now c.args.types.now) _ c.in_err-typed.field-0.0 _ (expr_made c.args.expr.now c.args.environment.now c.args.types.now) c.in_err-typed.ensures)

pub chains::or_chain-returns-in_err-typed-2 : goal.chains::or_chain-returns-in_err-typed-2
chains::or_chain-returns-in_err-typed-2 t c =
    let p = err_from_is_err_and c.from_residual-in_err-typed-2.result c.from_residual-in_err-typed-2.ensures.1 in
    rw (p.1, p.2) (turn_fails or_part_meaning c.args.environment.now _ _ c.part-item.result _ c.in_err-typed-2.field-0.0 _ c.parts-test.true c.part-item.is (c.parts.invariant ∙ all_of or_part_meaning c.args.environment.now (logical_and_meaning (out-Expr c.args.expr.now).first) _ _ c.args.types.now _ _ c.deref-part-items.ensures.value c.in_ok-typed.ensures (expr_made c.args.expr.now c.args.environment.now c.args.types.now)) c.in_err-typed-2.ensures)

pub chains::or_chain-parts-preserved : goal.chains::or_chain-parts-preserved
chains::or_chain-parts-preserved t c =
    turn_goes or_part_meaning c.args.environment.now _ _ c.part-item.result _ _ _ c.parts-test.true c.part-item.is c.parts.invariant c.in_ok-typed-2.ensures

pub chains::or_chain-returns : goal.chains::or_chain-returns
chains::or_chain-returns t c =
    ended or_part_meaning c.args.environment.now (logical_and_meaning (out-Expr c.args.expr.now).first) _ _ _ c.args.types.now _ _ _ c.parts-test.false c.parts.invariant c.deref-part-items.ensures.value c.in_ok-typed.ensures (expr_made c.args.expr.now c.args.environment.now c.args.types.now)

pub chains::logical_and-returns-then-is_empty : goal.chains::logical_and-returns-then-is_empty
chains::logical_and-returns-then-is_empty t c =
    alone and_part_meaning c.args.environment.now (equality_meaning (out-LogicalAnd c.args.expr.now).first) (out-LogicalAnd c.args.expr.now).more _ c.args.types.now _ _ _ c.is_empty.ensures c.if-is_empty.true (logical_and_made c.args.expr.now c.args.environment.now c.args.types.now) c.equality.ensures

pub chains::and_chain-returns-in_err-typed : goal.chains::and_chain-returns-in_err-typed
chains::and_chain-returns-in_err-typed t c =
    let p = err_from_is_err_and c.from_residual.result c.from_residual.ensures.1 in
    rw (p.1, p.2) (bind_fails (equality_meaning (out-LogicalAnd c.args.expr.now).first c.args.environment.now c.args.types.now) _ c.in_err-typed.field-0.0 _ (logical_and_made c.args.expr.now c.args.environment.now c.args.types.now) c.in_err-typed.ensures)

pub chains::and_chain-returns-in_err-typed-2 : goal.chains::and_chain-returns-in_err-typed-2
chains::and_chain-returns-in_err-typed-2 t c =
    let p = err_from_is_err_and c.from_residual-in_err-typed-2.result c.from_residual-in_err-typed-2.ensures.1 in
    rw (p.1, p.2) (turn_fails and_part_meaning c.args.environment.now _ _ c.part-item.result _ c.in_err-typed-2.field-0.0 _ c.parts-test.true c.part-item.is (c.parts.invariant ∙ all_of and_part_meaning c.args.environment.now (equality_meaning (out-LogicalAnd c.args.expr.now).first) _ _ c.args.types.now _ _ c.deref-part-items.ensures.value c.in_ok-typed.ensures (logical_and_made c.args.expr.now c.args.environment.now c.args.types.now)) c.in_err-typed-2.ensures)

pub chains::and_chain-parts-preserved : goal.chains::and_chain-parts-preserved
chains::and_chain-parts-preserved t c =
    turn_goes and_part_meaning c.args.environment.now _ _ c.part-item.result _ _ _ c.parts-test.true c.part-item.is c.parts.invariant c.in_ok-typed-2.ensures

pub chains::and_chain-returns : goal.chains::and_chain-returns
chains::and_chain-returns t c =
    ended and_part_meaning c.args.environment.now (equality_meaning (out-LogicalAnd c.args.expr.now).first) _ _ _ c.args.types.now _ _ _ c.parts-test.false c.parts.invariant c.deref-part-items.ensures.value c.in_ok-typed.ensures (logical_and_made c.args.expr.now c.args.environment.now c.args.types.now)

pub chains::equality-returns-then-is_empty : goal.chains::equality-returns-then-is_empty
chains::equality-returns-then-is_empty t c =
    alone equality_part_meaning c.args.environment.now (relational_meaning (out-Equality c.args.expr.now).first) (out-Equality c.args.expr.now).more _ c.args.types.now _ _ _ c.is_empty.ensures c.if-is_empty.true (equality_made c.args.expr.now c.args.environment.now c.args.types.now) c.relational.ensures

pub chains::equality_chain-returns-in_err-typed : goal.chains::equality_chain-returns-in_err-typed
chains::equality_chain-returns-in_err-typed t c =
    let p = err_from_is_err_and c.from_residual.result c.from_residual.ensures.1 in
    rw (p.1, p.2) (bind_fails (relational_meaning (out-Equality c.args.expr.now).first c.args.environment.now c.args.types.now) _ c.in_err-typed.field-0.0 _ (equality_made c.args.expr.now c.args.environment.now c.args.types.now) c.in_err-typed.ensures)

pub chains::equality_chain-returns-in_err-typed-2 : goal.chains::equality_chain-returns-in_err-typed-2
chains::equality_chain-returns-in_err-typed-2 t c =
    let p = err_from_is_err_and c.from_residual-in_err-typed-2.result c.from_residual-in_err-typed-2.ensures.1 in
    rw (p.1, p.2) (turn_fails equality_part_meaning c.args.environment.now _ _ c.part-item.result _ c.in_err-typed-2.field-0.0 _ c.parts-test.true c.part-item.is (c.parts.invariant ∙ all_of equality_part_meaning c.args.environment.now (relational_meaning (out-Equality c.args.expr.now).first) _ _ c.args.types.now _ _ c.deref-part-items.ensures.value c.in_ok-typed.ensures (equality_made c.args.expr.now c.args.environment.now c.args.types.now)) c.in_err-typed-2.ensures)

pub chains::equality_chain-parts-preserved : goal.chains::equality_chain-parts-preserved
chains::equality_chain-parts-preserved t c =
    turn_goes equality_part_meaning c.args.environment.now _ _ c.part-item.result _ _ _ c.parts-test.true c.part-item.is c.parts.invariant c.in_ok-typed-2.ensures

pub chains::equality_chain-returns : goal.chains::equality_chain-returns
chains::equality_chain-returns t c =
    ended equality_part_meaning c.args.environment.now (relational_meaning (out-Equality c.args.expr.now).first) _ _ _ c.args.types.now _ _ _ c.parts-test.false c.parts.invariant c.deref-part-items.ensures.value c.in_ok-typed.ensures (equality_made c.args.expr.now c.args.environment.now c.args.types.now)

pub chains::relational-returns-then-is_empty : goal.chains::relational-returns-then-is_empty
chains::relational-returns-then-is_empty t c =
    alone relational_part_meaning c.args.environment.now (additive_meaning (out-Relational c.args.expr.now).first) (out-Relational c.args.expr.now).more _ c.args.types.now _ _ _ c.is_empty.ensures c.if-is_empty.true (relational_made c.args.expr.now c.args.environment.now c.args.types.now) c.additive.ensures

pub chains::relational_chain-returns-in_err-typed : goal.chains::relational_chain-returns-in_err-typed
chains::relational_chain-returns-in_err-typed t c =
    let p = err_from_is_err_and c.from_residual.result c.from_residual.ensures.1 in
    rw (p.1, p.2) (bind_fails (additive_meaning (out-Relational c.args.expr.now).first c.args.environment.now c.args.types.now) _ c.in_err-typed.field-0.0 _ (relational_made c.args.expr.now c.args.environment.now c.args.types.now) c.in_err-typed.ensures)

pub chains::relational_chain-returns-in_err-typed-2 : goal.chains::relational_chain-returns-in_err-typed-2
chains::relational_chain-returns-in_err-typed-2 t c =
    let p = err_from_is_err_and c.from_residual-in_err-typed-2.result c.from_residual-in_err-typed-2.ensures.1 in
    rw (p.1, p.2) (turn_fails relational_part_meaning c.args.environment.now _ _ c.part-item.result _ c.in_err-typed-2.field-0.0 _ c.parts-test.true c.part-item.is (c.parts.invariant ∙ all_of relational_part_meaning c.args.environment.now (additive_meaning (out-Relational c.args.expr.now).first) _ _ c.args.types.now _ _ c.deref-part-items.ensures.value c.in_ok-typed.ensures (relational_made c.args.expr.now c.args.environment.now c.args.types.now)) c.in_err-typed-2.ensures)

pub chains::relational_chain-parts-preserved : goal.chains::relational_chain-parts-preserved
chains::relational_chain-parts-preserved t c =
    turn_goes relational_part_meaning c.args.environment.now _ _ c.part-item.result _ _ _ c.parts-test.true c.part-item.is c.parts.invariant c.in_ok-typed-2.ensures

pub chains::relational_chain-returns : goal.chains::relational_chain-returns
chains::relational_chain-returns t c =
    ended relational_part_meaning c.args.environment.now (additive_meaning (out-Relational c.args.expr.now).first) _ _ _ c.args.types.now _ _ _ c.parts-test.false c.parts.invariant c.deref-part-items.ensures.value c.in_ok-typed.ensures (relational_made c.args.expr.now c.args.environment.now c.args.types.now)

pub chains::additive-returns-then-is_empty : goal.chains::additive-returns-then-is_empty
chains::additive-returns-then-is_empty t c =
    alone additive_part_meaning c.args.environment.now (multiplicative_meaning (out-Additive c.args.expr.now).first) (out-Additive c.args.expr.now).more _ c.args.types.now _ _ _ c.is_empty.ensures c.if-is_empty.true (additive_made c.args.expr.now c.args.environment.now c.args.types.now) c.multiplicative.ensures

pub chains::additive_chain-returns-in_err-typed : goal.chains::additive_chain-returns-in_err-typed
chains::additive_chain-returns-in_err-typed t c =
    let p = err_from_is_err_and c.from_residual.result c.from_residual.ensures.1 in
    rw (p.1, p.2) (bind_fails (multiplicative_meaning (out-Additive c.args.expr.now).first c.args.environment.now c.args.types.now) _ c.in_err-typed.field-0.0 _ (additive_made c.args.expr.now c.args.environment.now c.args.types.now) c.in_err-typed.ensures)

pub chains::additive_chain-returns-in_err-typed-2 : goal.chains::additive_chain-returns-in_err-typed-2
chains::additive_chain-returns-in_err-typed-2 t c =
    let p = err_from_is_err_and c.from_residual-in_err-typed-2.result c.from_residual-in_err-typed-2.ensures.1 in
    rw (p.1, p.2) (turn_fails additive_part_meaning c.args.environment.now _ _ c.part-item.result _ c.in_err-typed-2.field-0.0 _ c.parts-test.true c.part-item.is (c.parts.invariant ∙ all_of additive_part_meaning c.args.environment.now (multiplicative_meaning (out-Additive c.args.expr.now).first) _ _ c.args.types.now _ _ c.deref-part-items.ensures.value c.in_ok-typed.ensures (additive_made c.args.expr.now c.args.environment.now c.args.types.now)) c.in_err-typed-2.ensures)

pub chains::additive_chain-parts-preserved : goal.chains::additive_chain-parts-preserved
chains::additive_chain-parts-preserved t c =
    turn_goes additive_part_meaning c.args.environment.now _ _ c.part-item.result _ _ _ c.parts-test.true c.part-item.is c.parts.invariant c.in_ok-typed-2.ensures

pub chains::additive_chain-returns : goal.chains::additive_chain-returns
chains::additive_chain-returns t c =
    ended additive_part_meaning c.args.environment.now (multiplicative_meaning (out-Additive c.args.expr.now).first) _ _ _ c.args.types.now _ _ _ c.parts-test.false c.parts.invariant c.deref-part-items.ensures.value c.in_ok-typed.ensures (additive_made c.args.expr.now c.args.environment.now c.args.types.now)

pub chains::multiplicative-returns-then-is_empty : goal.chains::multiplicative-returns-then-is_empty
chains::multiplicative-returns-then-is_empty t c =
    alone multiplicative_part_meaning c.args.environment.now (unary_meaning (out-Multiplicative c.args.expr.now).first) (out-Multiplicative c.args.expr.now).more _ c.args.types.now _ _ _ c.is_empty.ensures c.if-is_empty.true (multiplicative_made c.args.expr.now c.args.environment.now c.args.types.now) c.unary.ensures

pub chains::multiplicative_chain-returns-in_err-typed : goal.chains::multiplicative_chain-returns-in_err-typed
chains::multiplicative_chain-returns-in_err-typed t c =
    let p = err_from_is_err_and c.from_residual.result c.from_residual.ensures.1 in
    rw (p.1, p.2) (bind_fails (unary_meaning (out-Multiplicative c.args.expr.now).first c.args.environment.now c.args.types.now) _ c.in_err-typed.field-0.0 _ (multiplicative_made c.args.expr.now c.args.environment.now c.args.types.now) c.in_err-typed.ensures)

pub chains::multiplicative_chain-returns-in_err-typed-2 : goal.chains::multiplicative_chain-returns-in_err-typed-2
chains::multiplicative_chain-returns-in_err-typed-2 t c =
    let p = err_from_is_err_and c.from_residual-in_err-typed-2.result c.from_residual-in_err-typed-2.ensures.1 in
    rw (p.1, p.2) (turn_fails multiplicative_part_meaning c.args.environment.now _ _ c.part-item.result _ c.in_err-typed-2.field-0.0 _ c.parts-test.true c.part-item.is (c.parts.invariant ∙ all_of multiplicative_part_meaning c.args.environment.now (unary_meaning (out-Multiplicative c.args.expr.now).first) _ _ c.args.types.now _ _ c.deref-part-items.ensures.value c.in_ok-typed.ensures (multiplicative_made c.args.expr.now c.args.environment.now c.args.types.now)) c.in_err-typed-2.ensures)

pub chains::multiplicative_chain-parts-preserved : goal.chains::multiplicative_chain-parts-preserved
chains::multiplicative_chain-parts-preserved t c =
    turn_goes multiplicative_part_meaning c.args.environment.now _ _ c.part-item.result _ _ _ c.parts-test.true c.part-item.is c.parts.invariant c.in_ok-typed-2.ensures

pub chains::multiplicative_chain-returns : goal.chains::multiplicative_chain-returns
chains::multiplicative_chain-returns t c =
    ended multiplicative_part_meaning c.args.environment.now (unary_meaning (out-Multiplicative c.args.expr.now).first) _ _ _ c.args.types.now _ _ _ c.parts-test.false c.parts.invariant c.deref-part-items.ensures.value c.in_ok-typed.ensures (multiplicative_made c.args.expr.now c.args.environment.now c.args.types.now)

pub primaries::postfix-returns-then-is_empty : goal.primaries::postfix-returns-then-is_empty
primaries::postfix-returns-then-is_empty t c =
    alone part_meaning c.args.environment.now (primary_meaning (out-Postfix c.args.postfix.now).primary) (out-Postfix c.args.postfix.now).parts _ c.args.types.now _ _ _ c.is_empty.ensures c.if-is_empty.true (postfix_made c.args.postfix.now c.args.environment.now c.args.types.now) c.primary.ensures

pub primaries::postfix_chain-returns-in_err-typed : goal.primaries::postfix_chain-returns-in_err-typed
primaries::postfix_chain-returns-in_err-typed t c =
    let p = err_from_is_err_and c.from_residual.result c.from_residual.ensures.1 in
    rw (p.1, p.2) (bind_fails (primary_meaning (out-Postfix c.args.postfix.now).primary c.args.environment.now c.args.types.now) _ c.in_err-typed.field-0.0 _ (postfix_made c.args.postfix.now c.args.environment.now c.args.types.now) c.in_err-typed.ensures)

pub primaries::postfix_chain-returns-in_err-typed-2 : goal.primaries::postfix_chain-returns-in_err-typed-2
primaries::postfix_chain-returns-in_err-typed-2 t c =
    let p = err_from_is_err_and c.from_residual-in_err-typed-2.result c.from_residual-in_err-typed-2.ensures.1 in
    rw (p.1, p.2) (turn_fails part_meaning c.args.environment.now _ _ c.next-item.result _ c.in_err-typed-2.field-0.0 _ c.parts-test.true c.next-item.is (c.parts.invariant ∙ all_of part_meaning c.args.environment.now (primary_meaning (out-Postfix c.args.postfix.now).primary) _ _ c.args.types.now _ _ c.deref-next-items.ensures.value c.in_ok-typed.ensures (postfix_made c.args.postfix.now c.args.environment.now c.args.types.now)) c.in_err-typed-2.ensures)

pub primaries::postfix_chain-parts-preserved : goal.primaries::postfix_chain-parts-preserved
primaries::postfix_chain-parts-preserved t c =
    turn_goes part_meaning c.args.environment.now _ _ c.next-item.result _ _ _ c.parts-test.true c.next-item.is c.parts.invariant c.in_ok-typed-2.ensures

pub primaries::postfix_chain-returns : goal.primaries::postfix_chain-returns
primaries::postfix_chain-returns t c =
    ended part_meaning c.args.environment.now (primary_meaning (out-Postfix c.args.postfix.now).primary) _ _ _ c.args.types.now _ _ _ c.parts-test.false c.parts.invariant c.deref-next-items.ensures.value c.in_ok-typed.ensures (postfix_made c.args.postfix.now c.args.environment.now c.args.types.now)

pub chains::or_part-returns-in_err-literal_allowed : goal.chains::or_part-returns-in_err-literal_allowed
chains::or_part-returns-in_err-literal_allowed t c =
    let p = err_from_is_err_and c.from_residual.result c.from_residual.ensures.1 in
    rw (p.1, p.2) (left_fails operators.Or (out-OrPart c.args.part.now).place (logical_and_meaning (out-OrPart c.args.part.now).operand) (typed_view c.args.left) c.args.environment.now c.args.types.now _ (or_part_made c.args.part.now (typed_view c.args.left) c.args.environment.now c.args.types.now) c.takes_literals.result c.takes_literals.ensures c.in_err-literal_allowed.field-0.0 c.in_err-literal_allowed.ensures)

pub chains::or_part-returns-in_err-right : goal.chains::or_part-returns-in_err-right
chains::or_part-returns-in_err-right t c =
    let p = err_from_is_err_and c.from_residual-in_err-right.result c.from_residual-in_err-right.ensures.1 in
    rw (p.1, p.2) (right_fails operators.Or (out-OrPart c.args.part.now).place (logical_and_meaning (out-OrPart c.args.part.now).operand) (typed_view c.args.left) c.args.environment.now c.args.types.now _ (or_part_made c.args.part.now (typed_view c.args.left) c.args.environment.now c.args.types.now) c.takes_literals.result c.takes_literals.ensures c.in_err-right.field-0.0 c.in_ok-literal_allowed.ensures c.in_err-right.ensures)

pub chains::or_part-returns-in_err-literal_allowed-2 : goal.chains::or_part-returns-in_err-literal_allowed-2
chains::or_part-returns-in_err-literal_allowed-2 t c =
    let p = err_from_is_err_and c.from_residual-in_err-literal_allowed-2.result c.from_residual-in_err-literal_allowed-2.ensures.1 in
    rw (p.1, p.2) (right_literal operators.Or (out-OrPart c.args.part.now).place (logical_and_meaning (out-OrPart c.args.part.now).operand) (typed_view c.args.left) c.args.environment.now c.args.types.now _ (or_part_made c.args.part.now (typed_view c.args.left) c.args.environment.now c.args.types.now) c.takes_literals.result c.takes_literals.ensures c.takes_literals-2.result c.in_err-literal_allowed-2.field-0.0 _ c.takes_literals-2.ensures c.in_ok-literal_allowed.ensures c.in_ok-right.ensures c.in_err-literal_allowed-2.ensures)

pub chains::or_part-returns : goal.chains::or_part-returns
chains::or_part-returns t c =
    joined operators.Or (out-OrPart c.args.part.now).place (logical_and_meaning (out-OrPart c.args.part.now).operand) (typed_view c.args.left) c.args.environment.now c.args.types.now _ (or_part_made c.args.part.now (typed_view c.args.left) c.args.environment.now c.args.types.now) c.takes_literals.result c.takes_literals.ensures typed_view c.takes_literals-2.result _ c.combination.result c.takes_literals-2.ensures c.in_ok-literal_allowed.ensures c.in_ok-right.ensures c.in_ok-literal_allowed-2.ensures c.combination.ensures

pub chains::and_part-returns-in_err-literal_allowed : goal.chains::and_part-returns-in_err-literal_allowed
chains::and_part-returns-in_err-literal_allowed t c =
    let p = err_from_is_err_and c.from_residual.result c.from_residual.ensures.1 in
    rw (p.1, p.2) (left_fails operators.And (out-AndPart c.args.part.now).place (equality_meaning (out-AndPart c.args.part.now).operand) (typed_view c.args.left) c.args.environment.now c.args.types.now _ (and_part_made c.args.part.now (typed_view c.args.left) c.args.environment.now c.args.types.now) c.takes_literals.result c.takes_literals.ensures c.in_err-literal_allowed.field-0.0 c.in_err-literal_allowed.ensures)

pub chains::and_part-returns-in_err-right : goal.chains::and_part-returns-in_err-right
chains::and_part-returns-in_err-right t c =
    let p = err_from_is_err_and c.from_residual-in_err-right.result c.from_residual-in_err-right.ensures.1 in
    rw (p.1, p.2) (right_fails operators.And (out-AndPart c.args.part.now).place (equality_meaning (out-AndPart c.args.part.now).operand) (typed_view c.args.left) c.args.environment.now c.args.types.now _ (and_part_made c.args.part.now (typed_view c.args.left) c.args.environment.now c.args.types.now) c.takes_literals.result c.takes_literals.ensures c.in_err-right.field-0.0 c.in_ok-literal_allowed.ensures c.in_err-right.ensures)

pub chains::and_part-returns-in_err-literal_allowed-2 : goal.chains::and_part-returns-in_err-literal_allowed-2
chains::and_part-returns-in_err-literal_allowed-2 t c =
    let p = err_from_is_err_and c.from_residual-in_err-literal_allowed-2.result c.from_residual-in_err-literal_allowed-2.ensures.1 in
    rw (p.1, p.2) (right_literal operators.And (out-AndPart c.args.part.now).place (equality_meaning (out-AndPart c.args.part.now).operand) (typed_view c.args.left) c.args.environment.now c.args.types.now _ (and_part_made c.args.part.now (typed_view c.args.left) c.args.environment.now c.args.types.now) c.takes_literals.result c.takes_literals.ensures c.takes_literals-2.result c.in_err-literal_allowed-2.field-0.0 _ c.takes_literals-2.ensures c.in_ok-literal_allowed.ensures c.in_ok-right.ensures c.in_err-literal_allowed-2.ensures)

pub chains::and_part-returns : goal.chains::and_part-returns
chains::and_part-returns t c =
    joined operators.And (out-AndPart c.args.part.now).place (equality_meaning (out-AndPart c.args.part.now).operand) (typed_view c.args.left) c.args.environment.now c.args.types.now _ (and_part_made c.args.part.now (typed_view c.args.left) c.args.environment.now c.args.types.now) c.takes_literals.result c.takes_literals.ensures typed_view c.takes_literals-2.result _ c.combination.result c.takes_literals-2.ensures c.in_ok-literal_allowed.ensures c.in_ok-right.ensures c.in_ok-literal_allowed-2.ensures c.combination.ensures

pub chains::equality_part-returns-in_err-literal_allowed : goal.chains::equality_part-returns-in_err-literal_allowed
chains::equality_part-returns-in_err-literal_allowed t c =
    let p = err_from_is_err_and c.from_residual.result c.from_residual.ensures.1 in
    rw (p.1, p.2) (left_fails (equality_operator (out-EqualityPart c.args.part.now).operator) (out-EqualityPart c.args.part.now).place (relational_meaning (out-EqualityPart c.args.part.now).operand) (typed_view c.args.left) c.args.environment.now c.args.types.now _ (equality_part_made c.args.part.now (typed_view c.args.left) c.args.environment.now c.args.types.now) c.takes_literals.result (c.takes_literals.ensures ∙ ap takes_literals c.equality_operator-operator.ensures) c.in_err-literal_allowed.field-0.0 c.in_err-literal_allowed.ensures)

pub chains::equality_part-returns-in_err-right : goal.chains::equality_part-returns-in_err-right
chains::equality_part-returns-in_err-right t c =
    let p = err_from_is_err_and c.from_residual-in_err-right.result c.from_residual-in_err-right.ensures.1 in
    rw (p.1, p.2) (right_fails (equality_operator (out-EqualityPart c.args.part.now).operator) (out-EqualityPart c.args.part.now).place (relational_meaning (out-EqualityPart c.args.part.now).operand) (typed_view c.args.left) c.args.environment.now c.args.types.now _ (equality_part_made c.args.part.now (typed_view c.args.left) c.args.environment.now c.args.types.now) c.takes_literals.result (c.takes_literals.ensures ∙ ap takes_literals c.equality_operator-operator.ensures) c.in_err-right.field-0.0 c.in_ok-literal_allowed.ensures c.in_err-right.ensures)

pub chains::equality_part-returns-in_err-literal_allowed-2 : goal.chains::equality_part-returns-in_err-literal_allowed-2
chains::equality_part-returns-in_err-literal_allowed-2 t c =
    let p = err_from_is_err_and c.from_residual-in_err-literal_allowed-2.result c.from_residual-in_err-literal_allowed-2.ensures.1 in
    rw (p.1, p.2) (right_literal (equality_operator (out-EqualityPart c.args.part.now).operator) (out-EqualityPart c.args.part.now).place (relational_meaning (out-EqualityPart c.args.part.now).operand) (typed_view c.args.left) c.args.environment.now c.args.types.now _ (equality_part_made c.args.part.now (typed_view c.args.left) c.args.environment.now c.args.types.now) c.takes_literals.result (c.takes_literals.ensures ∙ ap takes_literals c.equality_operator-operator.ensures) c.takes_literals-2.result c.in_err-literal_allowed-2.field-0.0 _ (c.takes_literals-2.ensures ∙ ap takes_literals c.equality_operator-operator.ensures) c.in_ok-literal_allowed.ensures c.in_ok-right.ensures c.in_err-literal_allowed-2.ensures)

pub chains::equality_part-returns : goal.chains::equality_part-returns
chains::equality_part-returns t c =
    joined (equality_operator (out-EqualityPart c.args.part.now).operator) (out-EqualityPart c.args.part.now).place (relational_meaning (out-EqualityPart c.args.part.now).operand) (typed_view c.args.left) c.args.environment.now c.args.types.now _ (equality_part_made c.args.part.now (typed_view c.args.left) c.args.environment.now c.args.types.now) c.takes_literals.result (c.takes_literals.ensures ∙ ap takes_literals c.equality_operator-operator.ensures) typed_view c.takes_literals-2.result _ c.combination.result (c.takes_literals-2.ensures ∙ ap takes_literals c.equality_operator-operator.ensures) c.in_ok-literal_allowed.ensures c.in_ok-right.ensures c.in_ok-literal_allowed-2.ensures (subst (λ (o : BinaryOperator). Finds typed_view c.combination.result (combination o (out-EqualityPart c.args.part.now).place (typed_view c.args.left) (typed_view c.in_ok-right.right))) c.equality_operator-operator.ensures c.combination.ensures)

pub chains::relational_part-returns-in_err-literal_allowed : goal.chains::relational_part-returns-in_err-literal_allowed
chains::relational_part-returns-in_err-literal_allowed t c =
    let p = err_from_is_err_and c.from_residual.result c.from_residual.ensures.1 in
    rw (p.1, p.2) (left_fails (relational_operator (out-RelationalPart c.args.part.now).operator) (out-RelationalPart c.args.part.now).place (additive_meaning (out-RelationalPart c.args.part.now).operand) (typed_view c.args.left) c.args.environment.now c.args.types.now _ (relational_part_made c.args.part.now (typed_view c.args.left) c.args.environment.now c.args.types.now) c.takes_literals.result (c.takes_literals.ensures ∙ ap takes_literals c.relational_operator-operator.ensures) c.in_err-literal_allowed.field-0.0 c.in_err-literal_allowed.ensures)

pub chains::relational_part-returns-in_err-right : goal.chains::relational_part-returns-in_err-right
chains::relational_part-returns-in_err-right t c =
    let p = err_from_is_err_and c.from_residual-in_err-right.result c.from_residual-in_err-right.ensures.1 in
    rw (p.1, p.2) (right_fails (relational_operator (out-RelationalPart c.args.part.now).operator) (out-RelationalPart c.args.part.now).place (additive_meaning (out-RelationalPart c.args.part.now).operand) (typed_view c.args.left) c.args.environment.now c.args.types.now _ (relational_part_made c.args.part.now (typed_view c.args.left) c.args.environment.now c.args.types.now) c.takes_literals.result (c.takes_literals.ensures ∙ ap takes_literals c.relational_operator-operator.ensures) c.in_err-right.field-0.0 c.in_ok-literal_allowed.ensures c.in_err-right.ensures)

pub chains::relational_part-returns-in_err-literal_allowed-2 : goal.chains::relational_part-returns-in_err-literal_allowed-2
chains::relational_part-returns-in_err-literal_allowed-2 t c =
    let p = err_from_is_err_and c.from_residual-in_err-literal_allowed-2.result c.from_residual-in_err-literal_allowed-2.ensures.1 in
    rw (p.1, p.2) (right_literal (relational_operator (out-RelationalPart c.args.part.now).operator) (out-RelationalPart c.args.part.now).place (additive_meaning (out-RelationalPart c.args.part.now).operand) (typed_view c.args.left) c.args.environment.now c.args.types.now _ (relational_part_made c.args.part.now (typed_view c.args.left) c.args.environment.now c.args.types.now) c.takes_literals.result (c.takes_literals.ensures ∙ ap takes_literals c.relational_operator-operator.ensures) c.takes_literals-2.result c.in_err-literal_allowed-2.field-0.0 _ (c.takes_literals-2.ensures ∙ ap takes_literals c.relational_operator-operator.ensures) c.in_ok-literal_allowed.ensures c.in_ok-right.ensures c.in_err-literal_allowed-2.ensures)

pub chains::relational_part-returns : goal.chains::relational_part-returns
chains::relational_part-returns t c =
    joined (relational_operator (out-RelationalPart c.args.part.now).operator) (out-RelationalPart c.args.part.now).place (additive_meaning (out-RelationalPart c.args.part.now).operand) (typed_view c.args.left) c.args.environment.now c.args.types.now _ (relational_part_made c.args.part.now (typed_view c.args.left) c.args.environment.now c.args.types.now) c.takes_literals.result (c.takes_literals.ensures ∙ ap takes_literals c.relational_operator-operator.ensures) typed_view c.takes_literals-2.result _ c.combination.result (c.takes_literals-2.ensures ∙ ap takes_literals c.relational_operator-operator.ensures) c.in_ok-literal_allowed.ensures c.in_ok-right.ensures c.in_ok-literal_allowed-2.ensures (subst (λ (o : BinaryOperator). Finds typed_view c.combination.result (combination o (out-RelationalPart c.args.part.now).place (typed_view c.args.left) (typed_view c.in_ok-right.right))) c.relational_operator-operator.ensures c.combination.ensures)

pub chains::additive_part-returns-in_err-literal_allowed : goal.chains::additive_part-returns-in_err-literal_allowed
chains::additive_part-returns-in_err-literal_allowed t c =
    let p = err_from_is_err_and c.from_residual.result c.from_residual.ensures.1 in
    rw (p.1, p.2) (left_fails (additive_operator (out-AdditivePart c.args.part.now).operator) (out-AdditivePart c.args.part.now).place (multiplicative_meaning (out-AdditivePart c.args.part.now).operand) (typed_view c.args.left) c.args.environment.now c.args.types.now _ (additive_part_made c.args.part.now (typed_view c.args.left) c.args.environment.now c.args.types.now) c.takes_literals.result (c.takes_literals.ensures ∙ ap takes_literals c.additive_operator-operator.ensures) c.in_err-literal_allowed.field-0.0 c.in_err-literal_allowed.ensures)

pub chains::additive_part-returns-in_err-right : goal.chains::additive_part-returns-in_err-right
chains::additive_part-returns-in_err-right t c =
    let p = err_from_is_err_and c.from_residual-in_err-right.result c.from_residual-in_err-right.ensures.1 in
    rw (p.1, p.2) (right_fails (additive_operator (out-AdditivePart c.args.part.now).operator) (out-AdditivePart c.args.part.now).place (multiplicative_meaning (out-AdditivePart c.args.part.now).operand) (typed_view c.args.left) c.args.environment.now c.args.types.now _ (additive_part_made c.args.part.now (typed_view c.args.left) c.args.environment.now c.args.types.now) c.takes_literals.result (c.takes_literals.ensures ∙ ap takes_literals c.additive_operator-operator.ensures) c.in_err-right.field-0.0 c.in_ok-literal_allowed.ensures c.in_err-right.ensures)

pub chains::additive_part-returns-in_err-literal_allowed-2 : goal.chains::additive_part-returns-in_err-literal_allowed-2
chains::additive_part-returns-in_err-literal_allowed-2 t c =
    let p = err_from_is_err_and c.from_residual-in_err-literal_allowed-2.result c.from_residual-in_err-literal_allowed-2.ensures.1 in
    rw (p.1, p.2) (right_literal (additive_operator (out-AdditivePart c.args.part.now).operator) (out-AdditivePart c.args.part.now).place (multiplicative_meaning (out-AdditivePart c.args.part.now).operand) (typed_view c.args.left) c.args.environment.now c.args.types.now _ (additive_part_made c.args.part.now (typed_view c.args.left) c.args.environment.now c.args.types.now) c.takes_literals.result (c.takes_literals.ensures ∙ ap takes_literals c.additive_operator-operator.ensures) c.takes_literals-2.result c.in_err-literal_allowed-2.field-0.0 _ (c.takes_literals-2.ensures ∙ ap takes_literals c.additive_operator-operator.ensures) c.in_ok-literal_allowed.ensures c.in_ok-right.ensures c.in_err-literal_allowed-2.ensures)

pub chains::additive_part-returns : goal.chains::additive_part-returns
chains::additive_part-returns t c =
    joined (additive_operator (out-AdditivePart c.args.part.now).operator) (out-AdditivePart c.args.part.now).place (multiplicative_meaning (out-AdditivePart c.args.part.now).operand) (typed_view c.args.left) c.args.environment.now c.args.types.now _ (additive_part_made c.args.part.now (typed_view c.args.left) c.args.environment.now c.args.types.now) c.takes_literals.result (c.takes_literals.ensures ∙ ap takes_literals c.additive_operator-operator.ensures) typed_view c.takes_literals-2.result _ c.combination.result (c.takes_literals-2.ensures ∙ ap takes_literals c.additive_operator-operator.ensures) c.in_ok-literal_allowed.ensures c.in_ok-right.ensures c.in_ok-literal_allowed-2.ensures (subst (λ (o : BinaryOperator). Finds typed_view c.combination.result (combination o (out-AdditivePart c.args.part.now).place (typed_view c.args.left) (typed_view c.in_ok-right.right))) c.additive_operator-operator.ensures c.combination.ensures)

pub chains::multiplicative_part-returns-in_err-literal_allowed : goal.chains::multiplicative_part-returns-in_err-literal_allowed
chains::multiplicative_part-returns-in_err-literal_allowed t c =
    let p = err_from_is_err_and c.from_residual.result c.from_residual.ensures.1 in
    rw (p.1, p.2) (left_fails (multiplicative_operator (out-MultiplicativePart c.args.part.now).operator) (out-MultiplicativePart c.args.part.now).place (unary_meaning (out-MultiplicativePart c.args.part.now).operand) (typed_view c.args.left) c.args.environment.now c.args.types.now _ (multiplicative_part_made c.args.part.now (typed_view c.args.left) c.args.environment.now c.args.types.now) c.takes_literals.result (c.takes_literals.ensures ∙ ap takes_literals c.multiplicative_operator-operator.ensures) c.in_err-literal_allowed.field-0.0 c.in_err-literal_allowed.ensures)

pub chains::multiplicative_part-returns-in_err-right : goal.chains::multiplicative_part-returns-in_err-right
chains::multiplicative_part-returns-in_err-right t c =
    let p = err_from_is_err_and c.from_residual-in_err-right.result c.from_residual-in_err-right.ensures.1 in
    rw (p.1, p.2) (right_fails (multiplicative_operator (out-MultiplicativePart c.args.part.now).operator) (out-MultiplicativePart c.args.part.now).place (unary_meaning (out-MultiplicativePart c.args.part.now).operand) (typed_view c.args.left) c.args.environment.now c.args.types.now _ (multiplicative_part_made c.args.part.now (typed_view c.args.left) c.args.environment.now c.args.types.now) c.takes_literals.result (c.takes_literals.ensures ∙ ap takes_literals c.multiplicative_operator-operator.ensures) c.in_err-right.field-0.0 c.in_ok-literal_allowed.ensures c.in_err-right.ensures)

pub chains::multiplicative_part-returns-in_err-literal_allowed-2 : goal.chains::multiplicative_part-returns-in_err-literal_allowed-2
chains::multiplicative_part-returns-in_err-literal_allowed-2 t c =
    let p = err_from_is_err_and c.from_residual-in_err-literal_allowed-2.result c.from_residual-in_err-literal_allowed-2.ensures.1 in
    rw (p.1, p.2) (right_literal (multiplicative_operator (out-MultiplicativePart c.args.part.now).operator) (out-MultiplicativePart c.args.part.now).place (unary_meaning (out-MultiplicativePart c.args.part.now).operand) (typed_view c.args.left) c.args.environment.now c.args.types.now _ (multiplicative_part_made c.args.part.now (typed_view c.args.left) c.args.environment.now c.args.types.now) c.takes_literals.result (c.takes_literals.ensures ∙ ap takes_literals c.multiplicative_operator-operator.ensures) c.takes_literals-2.result c.in_err-literal_allowed-2.field-0.0 _ (c.takes_literals-2.ensures ∙ ap takes_literals c.multiplicative_operator-operator.ensures) c.in_ok-literal_allowed.ensures c.in_ok-right.ensures c.in_err-literal_allowed-2.ensures)

pub chains::multiplicative_part-returns : goal.chains::multiplicative_part-returns
chains::multiplicative_part-returns t c =
    joined (multiplicative_operator (out-MultiplicativePart c.args.part.now).operator) (out-MultiplicativePart c.args.part.now).place (unary_meaning (out-MultiplicativePart c.args.part.now).operand) (typed_view c.args.left) c.args.environment.now c.args.types.now _ (multiplicative_part_made c.args.part.now (typed_view c.args.left) c.args.environment.now c.args.types.now) c.takes_literals.result (c.takes_literals.ensures ∙ ap takes_literals c.multiplicative_operator-operator.ensures) typed_view c.takes_literals-2.result _ c.combination.result (c.takes_literals-2.ensures ∙ ap takes_literals c.multiplicative_operator-operator.ensures) c.in_ok-literal_allowed.ensures c.in_ok-right.ensures c.in_ok-literal_allowed-2.ensures (subst (λ (o : BinaryOperator). Finds typed_view c.combination.result (combination o (out-MultiplicativePart c.args.part.now).place (typed_view c.args.left) (typed_view c.in_ok-right.right))) c.multiplicative_operator-operator.ensures c.combination.ensures)

pub primaries::unary-returns-in_err-e-in-Prefix : goal.primaries::unary-returns-in_err-e-in-Prefix
primaries::unary-returns-in_err-e-in-Prefix t c =
    let p = err_from_is_err_and c.from_residual.result c.from_residual.ensures.1 in
    rw (p.1, p.2) (bind_fails (unary_meaning c.in-Prefix.operand.value c.args.environment.now c.args.types.now) (prefixed c.in-Prefix.operator c.in-Prefix.place) c.in_err-e-in-Prefix.field-0.0 _ (of_prefix c.args.unary.now c.in-Prefix.operator c.in-Prefix.place c.in-Prefix.operand c.args.environment.now c.args.types.now c.in-Prefix.is) (subst (λ (x : Unary). Fails c.in_err-e-in-Prefix.field-0.0 (unary_meaning x c.args.environment.now c.args.types.now)) c.deref.ensures c.in_err-e-in-Prefix.ensures))

pub primaries::unary-returns-in_ok-e-in-Prefix : goal.primaries::unary-returns-in_ok-e-in-Prefix
primaries::unary-returns-in_ok-e-in-Prefix t c =
    gives_as typed_view c.unary.new.types c.prefixed.result _ _ (bind_goes (unary_meaning c.in-Prefix.operand.value c.args.environment.now c.args.types.now) (prefixed c.in-Prefix.operator c.in-Prefix.place) _ _ (of_prefix c.args.unary.now c.in-Prefix.operator c.in-Prefix.place c.in-Prefix.operand c.args.environment.now c.args.types.now c.in-Prefix.is) (subst (λ (x : Unary). unary_meaning x c.args.environment.now c.args.types.now ≡ Ok (typed_view c.in_ok-e-in-Prefix.e, c.unary.new.types)) c.deref.ensures c.in_ok-e-in-Prefix.ensures)) c.prefixed.ensures

pub primaries::unary-returns-in-Plain : goal.primaries::unary-returns-in-Plain
primaries::unary-returns-in-Plain t c =
    gives_as typed_view c.postfix.new.types c.postfix.result _ _ (of_plain c.args.unary.now c.in-Plain.operand c.args.environment.now c.args.types.now c.in-Plain.is) c.postfix.ensures

pub primaries::part-returns-in_err-literal_allowed-in-Member : goal.primaries::part-returns-in_err-literal_allowed-in-Member
primaries::part-returns-in_err-literal_allowed-in-Member t c =
    let p = err_from_is_err_and c.from_residual.result c.from_residual.ensures.1 in
    rw (p.1, p.2) (given_fails (literal_allowed false (typed_view c.args.base)) (λ _. member_part c.in-Member.name (option_map arguments_meaning c.in-Member.arguments) (typed_view c.args.base) c.args.environment.now c.args.types.now) c.in_err-literal_allowed-in-Member.field-0.0 _ (of_member c.args.part.now c.in-Member.dot c.in-Member.name c.in-Member.arguments (typed_view c.args.base) c.args.environment.now c.args.types.now c.in-Member.is) c.in_err-literal_allowed-in-Member.ensures)

pub primaries::part-returns-in_ok-literal_allowed-in-Member : goal.primaries::part-returns-in_ok-literal_allowed-in-Member
primaries::part-returns-in_ok-literal_allowed-in-Member t c =
    gives_as typed_view c.member.new.types c.member.result _ _ (given_goes (literal_allowed false (typed_view c.args.base)) (λ _. member_part c.in-Member.name (option_map arguments_meaning c.in-Member.arguments) (typed_view c.args.base) c.args.environment.now c.args.types.now) tt _ (of_member c.args.part.now c.in-Member.dot c.in-Member.name c.in-Member.arguments (typed_view c.args.base) c.args.environment.now c.args.types.now c.in-Member.is) c.in_ok-literal_allowed-in-Member.ensures) c.member.ensures

pub primaries::part-returns-in_err-literal_allowed-in-Arrow : goal.primaries::part-returns-in_err-literal_allowed-in-Arrow
primaries::part-returns-in_err-literal_allowed-in-Arrow t c =
    let p = err_from_is_err_and c.from_residual-in_err-literal_allowed-in-Arrow.result c.from_residual-in_err-literal_allowed-in-Arrow.ensures.1 in
    rw (p.1, p.2) (given_fails (literal_allowed false (typed_view c.args.base)) (λ _. given (pointed_to c.args.types.now c.in-Arrow.name.place (typed_view c.args.base)) (λ target. member_part c.in-Arrow.name (option_map arguments_meaning c.in-Arrow.arguments) target c.args.environment.now c.args.types.now)) c.in_err-literal_allowed-in-Arrow.field-0.0 _ (of_arrow c.args.part.now c.in-Arrow.arrow c.in-Arrow.name c.in-Arrow.arguments (typed_view c.args.base) c.args.environment.now c.args.types.now c.in-Arrow.is) c.in_err-literal_allowed-in-Arrow.ensures)

pub primaries::part-returns-in_err-target-in-Arrow : goal.primaries::part-returns-in_err-target-in-Arrow
primaries::part-returns-in_err-target-in-Arrow t c =
    let p = err_from_is_err_and c.from_residual-in_err-target-in-Arrow.result c.from_residual-in_err-target-in-Arrow.ensures.1 in
    rw (p.1, p.2) (given_fails (pointed_to c.args.types.now c.in-Arrow.name.place (typed_view c.args.base)) (λ target. member_part c.in-Arrow.name (option_map arguments_meaning c.in-Arrow.arguments) target c.args.environment.now c.args.types.now) c.in_err-target-in-Arrow.field-0.0 _ (given_goes (literal_allowed false (typed_view c.args.base)) (λ _. given (pointed_to c.args.types.now c.in-Arrow.name.place (typed_view c.args.base)) (λ target. member_part c.in-Arrow.name (option_map arguments_meaning c.in-Arrow.arguments) target c.args.environment.now c.args.types.now)) tt _ (of_arrow c.args.part.now c.in-Arrow.arrow c.in-Arrow.name c.in-Arrow.arguments (typed_view c.args.base) c.args.environment.now c.args.types.now c.in-Arrow.is) c.in_ok-literal_allowed-in-Arrow.ensures) c.in_err-target-in-Arrow.ensures)

pub primaries::part-returns-in_ok-target-in-Arrow : goal.primaries::part-returns-in_ok-target-in-Arrow
primaries::part-returns-in_ok-target-in-Arrow t c =
    gives_as typed_view c.member-in-Arrow.new.types c.member-in-Arrow.result _ _ (given_goes (pointed_to c.args.types.now c.in-Arrow.name.place (typed_view c.args.base)) (λ target. member_part c.in-Arrow.name (option_map arguments_meaning c.in-Arrow.arguments) target c.args.environment.now c.args.types.now) (typed_view c.in_ok-target-in-Arrow.target) _ (given_goes (literal_allowed false (typed_view c.args.base)) (λ _. given (pointed_to c.args.types.now c.in-Arrow.name.place (typed_view c.args.base)) (λ target. member_part c.in-Arrow.name (option_map arguments_meaning c.in-Arrow.arguments) target c.args.environment.now c.args.types.now)) tt _ (of_arrow c.args.part.now c.in-Arrow.arrow c.in-Arrow.name c.in-Arrow.arguments (typed_view c.args.base) c.args.environment.now c.args.types.now c.in-Arrow.is) c.in_ok-literal_allowed-in-Arrow.ensures) c.in_ok-target-in-Arrow.ensures) c.member-in-Arrow.ensures

pub primaries::part-returns-in_err-literal_allowed-in-Index : goal.primaries::part-returns-in_err-literal_allowed-in-Index
primaries::part-returns-in_err-literal_allowed-in-Index t c =
    let p = err_from_is_err_and c.from_residual-in_err-literal_allowed-in-Index.result c.from_residual-in_err-literal_allowed-in-Index.ensures.1 in
    rw (p.1, p.2) (given_fails (literal_allowed false (typed_view c.args.base)) (λ _. (expr_meaning c.in-Index.index.value c.args.environment.now c.args.types.now) >>= (λ z. given (literal_allowed false z.0) (λ _. found_in z.1 (indexed_at z.1 c.in-Index.opening (typed_view c.args.base) z.0 c.in-Index.closing)))) c.in_err-literal_allowed-in-Index.field-0.0 _ (of_index c.args.part.now c.in-Index.opening c.in-Index.closing c.in-Index.index (typed_view c.args.base) c.args.environment.now c.args.types.now c.in-Index.is) c.in_err-literal_allowed-in-Index.ensures)

pub primaries::part-returns-in_err-position-in-Index : goal.primaries::part-returns-in_err-position-in-Index
primaries::part-returns-in_err-position-in-Index t c =
    let p = err_from_is_err_and c.from_residual-in_err-position-in-Index.result c.from_residual-in_err-position-in-Index.ensures.1 in
    rw (p.1, p.2) (bind_fails (expr_meaning c.in-Index.index.value c.args.environment.now c.args.types.now) (λ z. given (literal_allowed false z.0) (λ _. found_in z.1 (indexed_at z.1 c.in-Index.opening (typed_view c.args.base) z.0 c.in-Index.closing))) c.in_err-position-in-Index.field-0.0 _ (given_goes (literal_allowed false (typed_view c.args.base)) (λ _. (expr_meaning c.in-Index.index.value c.args.environment.now c.args.types.now) >>= (λ z. given (literal_allowed false z.0) (λ _. found_in z.1 (indexed_at z.1 c.in-Index.opening (typed_view c.args.base) z.0 c.in-Index.closing)))) tt _ (of_index c.args.part.now c.in-Index.opening c.in-Index.closing c.in-Index.index (typed_view c.args.base) c.args.environment.now c.args.types.now c.in-Index.is) c.in_ok-literal_allowed-in-Index.ensures) (subst (λ (x : Expr). Fails c.in_err-position-in-Index.field-0.0 (expr_meaning x c.args.environment.now c.args.types.now)) c.deref.ensures c.in_err-position-in-Index.ensures))

pub primaries::part-returns-in_err-literal_allowed-in-Index-2 : goal.primaries::part-returns-in_err-literal_allowed-in-Index-2
primaries::part-returns-in_err-literal_allowed-in-Index-2 t c =
    let p = err_from_is_err_and c.from_residual-in_err-literal_allowed-in-Index-2.result c.from_residual-in_err-literal_allowed-in-Index-2.ensures.1 in
    rw (p.1, p.2) (given_fails (literal_allowed false (typed_view c.in_ok-position-in-Index.position)) (λ _. found_in c.expr.new.types (indexed_at c.expr.new.types c.in-Index.opening (typed_view c.args.base) (typed_view c.in_ok-position-in-Index.position) c.in-Index.closing)) c.in_err-literal_allowed-in-Index-2.field-0.0 _ (bind_goes (expr_meaning c.in-Index.index.value c.args.environment.now c.args.types.now) (λ z. given (literal_allowed false z.0) (λ _. found_in z.1 (indexed_at z.1 c.in-Index.opening (typed_view c.args.base) z.0 c.in-Index.closing))) (typed_view c.in_ok-position-in-Index.position, c.expr.new.types) _ (given_goes (literal_allowed false (typed_view c.args.base)) (λ _. (expr_meaning c.in-Index.index.value c.args.environment.now c.args.types.now) >>= (λ z. given (literal_allowed false z.0) (λ _. found_in z.1 (indexed_at z.1 c.in-Index.opening (typed_view c.args.base) z.0 c.in-Index.closing)))) tt _ (of_index c.args.part.now c.in-Index.opening c.in-Index.closing c.in-Index.index (typed_view c.args.base) c.args.environment.now c.args.types.now c.in-Index.is) c.in_ok-literal_allowed-in-Index.ensures) (subst (λ (x : Expr). expr_meaning x c.args.environment.now c.args.types.now ≡ Ok (typed_view c.in_ok-position-in-Index.position, c.expr.new.types)) c.deref.ensures c.in_ok-position-in-Index.ensures)) c.in_err-literal_allowed-in-Index-2.ensures)

pub primaries::part-returns-in_ok-literal_allowed-in-Index-2 : goal.primaries::part-returns-in_ok-literal_allowed-in-Index-2
primaries::part-returns-in_ok-literal_allowed-in-Index-2 t c =
    found_gives typed_view c.expr.new.types c.indexed_at.result (indexed_at c.expr.new.types c.in-Index.opening (typed_view c.args.base) (typed_view c.in_ok-position-in-Index.position) c.in-Index.closing) _ (given_goes (literal_allowed false (typed_view c.in_ok-position-in-Index.position)) (λ _. found_in c.expr.new.types (indexed_at c.expr.new.types c.in-Index.opening (typed_view c.args.base) (typed_view c.in_ok-position-in-Index.position) c.in-Index.closing)) tt _ (bind_goes (expr_meaning c.in-Index.index.value c.args.environment.now c.args.types.now) (λ z. given (literal_allowed false z.0) (λ _. found_in z.1 (indexed_at z.1 c.in-Index.opening (typed_view c.args.base) z.0 c.in-Index.closing))) (typed_view c.in_ok-position-in-Index.position, c.expr.new.types) _ (given_goes (literal_allowed false (typed_view c.args.base)) (λ _. (expr_meaning c.in-Index.index.value c.args.environment.now c.args.types.now) >>= (λ z. given (literal_allowed false z.0) (λ _. found_in z.1 (indexed_at z.1 c.in-Index.opening (typed_view c.args.base) z.0 c.in-Index.closing)))) tt _ (of_index c.args.part.now c.in-Index.opening c.in-Index.closing c.in-Index.index (typed_view c.args.base) c.args.environment.now c.args.types.now c.in-Index.is) c.in_ok-literal_allowed-in-Index.ensures) (subst (λ (x : Expr). expr_meaning x c.args.environment.now c.args.types.now ≡ Ok (typed_view c.in_ok-position-in-Index.position, c.expr.new.types)) c.deref.ensures c.in_ok-position-in-Index.ensures)) c.in_ok-literal_allowed-in-Index-2.ensures) c.indexed_at.ensures

pub primaries::member-returns-in-None : goal.primaries::member-returns-in-None
primaries::member-returns-in-None t c =
    rw c.in-None.is (found_gives typed_view c.args.types.now c.data_member.result (data_member c.args.name c.args.environment.now c.args.types.now (typed_view c.args.base)) _ refl c.data_member.ensures)

pub primaries::member-returns-in-Some : goal.primaries::member-returns-in-Some
primaries::member-returns-in-Some t c =
    rw c.in-Some.is c.method.ensures

pub primaries::method-returns-in_err-called : goal.primaries::method-returns-in_err-called
primaries::method-returns-in_err-called t c =
    let p = err_from_is_err_and c.from_residual.result c.from_residual.ensures.1 in
    rw (p.1, p.2) (method_misses c.args.name (arguments_meaning c.args.arguments.now) (typed_view c.args.base) c.args.environment.now c.args.types.now _ (seen_type c.args.base) c.in_err-called.field-0.0 c.in_err-called.ensures)

pub primaries::method-returns-in_err-list : goal.primaries::method-returns-in_err-list
primaries::method-returns-in_err-list t c =
    let p = err_from_is_err_and c.from_residual-in_err-list.result c.from_residual-in_err-list.ensures.1 in
    rw (p.1, p.2) (method_fails c.args.name (arguments_meaning c.args.arguments.now) (typed_view c.args.base) c.args.environment.now c.args.types.now _ (seen_type c.args.base) c.in_ok-called.called c.in_ok-called.ensures c.change_fault-fault.result (c.change_fault-fault.ensures ∙ ap (change_fault c.in_ok-called.called.method) (sym (seen_category c.args.base))) _ (listed c.args.arguments.now ∙ ap (map expr_meaning) (sym c.deref.ensures.value)) _ refl c.in_err-list.field-0.0 c.in_err-list.ensures)

pub primaries::method-returns : goal.primaries::method-returns
primaries::method-returns t c =
    method_answers c.args.name (arguments_meaning c.args.arguments.now) (typed_view c.args.base) c.args.environment.now c.args.types.now _ (seen_type c.args.base) c.in_ok-called.called c.in_ok-called.ensures c.change_fault-fault.result (c.change_fault-fault.ensures ∙ ap (change_fault c.in_ok-called.called.method) (sym (seen_category c.args.base))) _ (listed c.args.arguments.now ∙ ap (map expr_meaning) (sym c.deref.ensures.value)) _ (delimited c.args.arguments.now _ _ c.in_ok-delimiters.ensures c.deref-2.ensures.value) typed_view (map typed_view c.in_ok-list.list.items, c.passed.new.types) c.answered.result c.in_ok-list.ensures c.answered.ensures

pub primaries::primary-returns-in-Number : goal.primaries::primary-returns-in-Number
primaries::primary-returns-in-Number t c =
    of_number c.args.primary.now c.in-Number.n c.in-Number.place c.args.environment.now c.args.types.now c.in-Number.is ∙ ap (λ (v : Typed). Ok (v, c.args.types.now)) (sym c.number_literal.ensures)

pub primaries::primary-returns-in-Char : goal.primaries::primary-returns-in-Char
primaries::primary-returns-in-Char t c =
    of_char c.args.primary.now c.in-Char.c c.in-Char.place c.args.environment.now c.args.types.now c.in-Char.is ∙ ap (λ (v : Typed). Ok (v, c.args.types.now)) (sym c.char_literal.ensures)

pub primaries::primary-returns-in-Text : goal.primaries::primary-returns-in-Text
primaries::primary-returns-in-Text t c =
    of_text c.args.primary.now c.in-Text.number c.in-Text.place c.args.environment.now c.args.types.now c.in-Text.is ∙ ap (λ (v : Typed). Ok (v, c.args.types.now)) (sym c.text_literal.ensures)

pub primaries::primary-returns-in-True : goal.primaries::primary-returns-in-True
primaries::primary-returns-in-True t c =
    of_true c.args.primary.now c.in-True.place c.args.environment.now c.args.types.now c.in-True.is ∙ ap (λ (v : Typed). Ok (v, c.args.types.now)) (sym c.bool_literal.ensures)

pub primaries::primary-returns-in-False : goal.primaries::primary-returns-in-False
primaries::primary-returns-in-False t c =
    of_false c.args.primary.now c.in-False.place c.args.environment.now c.args.types.now c.in-False.is ∙ ap (λ (v : Typed). Ok (v, c.args.types.now)) (sym c.bool_literal-in-False.ensures)

pub primaries::primary-returns-in-Null : goal.primaries::primary-returns-in-Null
primaries::primary-returns-in-Null t c =
    of_null c.args.primary.now c.in-Null.place c.args.environment.now c.args.types.now c.in-Null.is ∙ ap (λ (v : Typed). Ok (v, c.args.types.now)) (sym c.null_literal.ensures)

pub primaries::primary-returns-in-Input : goal.primaries::primary-returns-in-Input
primaries::primary-returns-in-Input t c =
    of_input c.args.primary.now c.in-Input.name c.in-Input.opening c.in-Input.closing c.args.environment.now c.args.types.now c.in-Input.is ∙ ap (λ (v : Typed). Ok (v, c.args.types.now)) (sym c.input_read.ensures)

pub primaries::primary-returns-in_err-number-in-Name : goal.primaries::primary-returns-in_err-number-in-Name
primaries::primary-returns-in_err-number-in-Name t c =
    let p = err_from_is_err_and c.from_residual.result c.from_residual.ensures.1 in
    rw (p.1, p.2) (given_fails (local_named c.in-Name.name c.args.environment.now) (λ l. Ok (variable c.args.types.now c.in-Name.name.place l, c.args.types.now)) c.in_err-number-in-Name.field-0.0 _ (of_name c.args.primary.now c.in-Name.name c.args.environment.now c.args.types.now c.in-Name.is) c.in_err-number-in-Name.ensures)

pub primaries::primary-returns-in_ok-number-in-Name : goal.primaries::primary-returns-in_ok-number-in-Name
primaries::primary-returns-in_ok-number-in-Name t c =
    given_goes (local_named c.in-Name.name c.args.environment.now) (λ l. Ok (variable c.args.types.now c.in-Name.name.place l, c.args.types.now)) _ _ (of_name c.args.primary.now c.in-Name.name c.args.environment.now c.args.types.now c.in-Name.is) c.in_ok-number-in-Name.ensures ∙ ap (λ (v : Typed). Ok (v, c.args.types.now)) (sym c.variable.ensures)

pub primaries::primary-returns-in_err-number-in-Call : goal.primaries::primary-returns-in_err-number-in-Call
primaries::primary-returns-in_err-number-in-Call t c =
    let p = err_from_is_err_and c.from_residual-in_err-number-in-Call.result c.from_residual-in_err-number-in-Call.ensures.1 in
    rw (p.1, p.2) (given_fails (function_named c.in-Call.name c.args.environment.now) (λ f. called c.in-Call.name.place (arguments_meaning c.in-Call.arguments) f c.args.environment.now c.args.types.now) c.in_err-number-in-Call.field-0.0 _ (of_call c.args.primary.now c.in-Call.name c.in-Call.arguments c.args.environment.now c.args.types.now c.in-Call.is) c.in_err-number-in-Call.ensures)

pub primaries::primary-returns-in_ok-number-in-Call : goal.primaries::primary-returns-in_ok-number-in-Call
primaries::primary-returns-in_ok-number-in-Call t c =
    gives_as typed_view c.call.new.types c.call.result _ _ (given_goes (function_named c.in-Call.name c.args.environment.now) (λ f. called c.in-Call.name.place (arguments_meaning c.in-Call.arguments) f c.args.environment.now c.args.types.now) _ _ (of_call c.args.primary.now c.in-Call.name c.in-Call.arguments c.args.environment.now c.args.types.now c.in-Call.is) c.in_ok-number-in-Call.ensures) c.call.ensures

pub primaries::primary-returns-in_err-number-in-Construct : goal.primaries::primary-returns-in_err-number-in-Construct
primaries::primary-returns-in_err-number-in-Construct t c =
    let p = err_from_is_err_and c.from_residual-in_err-number-in-Construct.result c.from_residual-in_err-number-in-Construct.ensures.1 in
    rw (p.1, p.2) (given_fails (structure_named c.in-Construct.name c.args.environment.now) (λ s. constructed (init_list_meaning c.in-Construct.list) s c.args.environment.now c.args.types.now) c.in_err-number-in-Construct.field-0.0 _ (of_construct c.args.primary.now c.in-Construct.name c.in-Construct.list c.args.environment.now c.args.types.now c.in-Construct.is) c.in_err-number-in-Construct.ensures)

pub primaries::primary-returns-in_ok-number-in-Construct : goal.primaries::primary-returns-in_ok-number-in-Construct
primaries::primary-returns-in_ok-number-in-Construct t c =
    gives_as typed_view c.construct.new.types c.construct.result _ _ (given_goes (structure_named c.in-Construct.name c.args.environment.now) (λ s. constructed (init_list_meaning c.in-Construct.list) s c.args.environment.now c.args.types.now) _ _ (of_construct c.args.primary.now c.in-Construct.name c.in-Construct.list c.args.environment.now c.args.types.now c.in-Construct.is) c.in_ok-number-in-Construct.ensures) c.construct.ensures

pub primaries::primary-returns-in_err-e-in-Paren : goal.primaries::primary-returns-in_err-e-in-Paren
primaries::primary-returns-in_err-e-in-Paren t c =
    let p = err_from_is_err_and c.from_residual-in_err-e-in-Paren.result c.from_residual-in_err-e-in-Paren.ensures.1 in
    rw (p.1, p.2) (bind_fails (expr_meaning c.in-Paren.inner.value c.args.environment.now c.args.types.now) (λ y. found_in y.1 (parenthesized c.in-Paren.closing y.0)) c.in_err-e-in-Paren.field-0.0 _ (of_paren c.args.primary.now c.in-Paren.opening c.in-Paren.closing c.in-Paren.inner c.args.environment.now c.args.types.now c.in-Paren.is) (subst (λ (x : Expr). Fails c.in_err-e-in-Paren.field-0.0 (expr_meaning x c.args.environment.now c.args.types.now)) c.deref.ensures c.in_err-e-in-Paren.ensures))

pub primaries::primary-returns-in_ok-e-in-Paren : goal.primaries::primary-returns-in_ok-e-in-Paren
primaries::primary-returns-in_ok-e-in-Paren t c =
    found_gives typed_view c.expr.new.types c.parenthesized.result (parenthesized c.in-Paren.closing (typed_view c.in_ok-e-in-Paren.e)) _ (bind_goes (expr_meaning c.in-Paren.inner.value c.args.environment.now c.args.types.now) (λ y. found_in y.1 (parenthesized c.in-Paren.closing y.0)) (typed_view c.in_ok-e-in-Paren.e, c.expr.new.types) _ (of_paren c.args.primary.now c.in-Paren.opening c.in-Paren.closing c.in-Paren.inner c.args.environment.now c.args.types.now c.in-Paren.is) (subst (λ (x : Expr). expr_meaning x c.args.environment.now c.args.types.now ≡ Ok (typed_view c.in_ok-e-in-Paren.e, c.expr.new.types)) c.deref.ensures c.in_ok-e-in-Paren.ensures)) c.parenthesized.ensures

pub primaries::primary-returns-in_err-e-in-TextOf : goal.primaries::primary-returns-in_err-e-in-TextOf
primaries::primary-returns-in_err-e-in-TextOf t c =
    let p = err_from_is_err_and c.from_residual-in_err-e-in-TextOf.result c.from_residual-in_err-e-in-TextOf.ensures.1 in
    rw (p.1, p.2) (bind_fails (expr_meaning c.in-TextOf.inner.value c.args.environment.now c.args.types.now) (λ y. found_in y.1 (text_made c.in-TextOf.name.word c.in-TextOf.closing y.0)) c.in_err-e-in-TextOf.field-0.0 _ (of_text_of c.args.primary.now c.in-TextOf.name c.in-TextOf.opening c.in-TextOf.closing c.in-TextOf.inner c.args.environment.now c.args.types.now c.in-TextOf.is) (subst (λ (x : Expr). Fails c.in_err-e-in-TextOf.field-0.0 (expr_meaning x c.args.environment.now c.args.types.now)) c.deref-in-TextOf.ensures c.in_err-e-in-TextOf.ensures))

pub primaries::primary-returns-in_ok-e-in-TextOf : goal.primaries::primary-returns-in_ok-e-in-TextOf
primaries::primary-returns-in_ok-e-in-TextOf t c =
    found_gives typed_view c.expr-in-TextOf.new.types c.text_made.result (text_made c.in-TextOf.name.word c.in-TextOf.closing (typed_view c.in_ok-e-in-TextOf.e)) _ (bind_goes (expr_meaning c.in-TextOf.inner.value c.args.environment.now c.args.types.now) (λ y. found_in y.1 (text_made c.in-TextOf.name.word c.in-TextOf.closing y.0)) (typed_view c.in_ok-e-in-TextOf.e, c.expr-in-TextOf.new.types) _ (of_text_of c.args.primary.now c.in-TextOf.name c.in-TextOf.opening c.in-TextOf.closing c.in-TextOf.inner c.args.environment.now c.args.types.now c.in-TextOf.is) (subst (λ (x : Expr). expr_meaning x c.args.environment.now c.args.types.now ≡ Ok (typed_view c.in_ok-e-in-TextOf.e, c.expr-in-TextOf.new.types)) c.deref-in-TextOf.ensures c.in_ok-e-in-TextOf.ensures)) c.text_made.ensures

pub primaries::primary-returns-in_err-number-in-Move : goal.primaries::primary-returns-in_err-number-in-Move
primaries::primary-returns-in_err-number-in-Move t c =
    let p = err_from_is_err_and c.from_residual-in_err-number-in-Move.result c.from_residual-in_err-number-in-Move.ensures.1 in
    rw (p.1, p.2) (given_fails (local_named c.in-Move.variable c.args.environment.now) (λ l. found_in c.args.types.now (moved c.args.types.now c.in-Move.name.word l)) c.in_err-number-in-Move.field-0.0 _ (of_move c.args.primary.now c.in-Move.name c.in-Move.opening c.in-Move.closing c.in-Move.variable c.args.environment.now c.args.types.now c.in-Move.is) c.in_err-number-in-Move.ensures)

pub primaries::primary-returns-in_ok-number-in-Move : goal.primaries::primary-returns-in_ok-number-in-Move
primaries::primary-returns-in_ok-number-in-Move t c =
    found_gives typed_view c.args.types.now c.moved.result (moved c.args.types.now c.in-Move.name.word (c.in_ok-number-in-Move.number, c.in_ok-number-in-Move.local)) _ (given_goes (local_named c.in-Move.variable c.args.environment.now) (λ l. found_in c.args.types.now (moved c.args.types.now c.in-Move.name.word l)) _ _ (of_move c.args.primary.now c.in-Move.name c.in-Move.opening c.in-Move.closing c.in-Move.variable c.args.environment.now c.args.types.now c.in-Move.is) c.in_ok-number-in-Move.ensures) c.moved.ensures

pub primaries::primary-returns-in-MakeUnique : goal.primaries::primary-returns-in-MakeUnique
primaries::primary-returns-in-MakeUnique t c =
    gives_as typed_view c.make_unique.new.types c.make_unique.result _ _ (of_unique c.args.primary.now c.in-MakeUnique.name c.in-MakeUnique.element c.in-MakeUnique.arguments c.args.environment.now c.args.types.now c.in-MakeUnique.is) c.make_unique.ensures

pub primaries::call-returns-in_err-list : goal.primaries::call-returns-in_err-list
primaries::call-returns-in_err-list t c =
    let p = err_from_is_err_and c.from_residual.result c.from_residual.ensures.1 in
    rw (p.1, p.2) (call_fails c.args.place (arguments_meaning c.args.arguments.now) (c.args.function, signature_view c.args.signature.now) c.args.environment.now c.args.types.now (targets_parameters c.deref.result.now) (ap targets_parameters c.deref.ensures.value) _ (listed c.args.arguments.now ∙ ap (map expr_meaning) (sym c.deref-2.ensures.value)) c.in_err-list.field-0.0 c.in_err-list.ensures)

pub primaries::call-returns : goal.primaries::call-returns
primaries::call-returns t c =
    call_answers c.args.place (arguments_meaning c.args.arguments.now) (c.args.function, signature_view c.args.signature.now) c.args.environment.now c.args.types.now (targets_parameters c.deref.result.now) (ap targets_parameters c.deref.ensures.value) _ (listed c.args.arguments.now ∙ ap (map expr_meaning) (sym c.deref-2.ensures.value)) (map typed_view c.in_ok-list.list.items, c.passed.new.types) _ (delimited c.args.arguments.now _ _ c.in_ok-delimiters.ensures c.deref-3.ensures.value) c.in_ok-list.ensures ∙ ap (λ (v : Typed). Ok (v, c.passed.new.types)) (sym c.call_made.ensures)

pub primaries::construct-returns-in_err-elements : goal.primaries::construct-returns-in_err-elements
primaries::construct-returns-in_err-elements t c =
    let p = err_from_is_err_and c.from_residual.result c.from_residual.ensures.1 in
    rw (p.1, p.2) (construct_fails (init_list_meaning c.args.list.now) (c.args.number, structure_view c.args.structure.now) c.args.environment.now c.args.types.now (targets_members c.deref.result.now) (ap targets_members c.deref.ensures.value) c.in_err-elements.field-0.0 c.in_err-elements.ensures)

pub primaries::construct-returns : goal.primaries::construct-returns
primaries::construct-returns t c =
    construct_answers (init_list_meaning c.args.list.now) (c.args.number, structure_view c.args.structure.now) c.args.environment.now c.args.types.now (targets_members c.deref.result.now) (ap targets_members c.deref.ensures.value) (map typed_view c.in_ok-elements.elements.items, c.braced.new.types) _ _ (list_opened c.args.list.now) (list_delimited c.args.list.now _ _ c.in_ok-delimiters.ensures c.deref-2.ensures.value) c.in_ok-elements.ensures ∙ ap (λ (v : Typed). Ok (v, c.braced.new.types)) (sym c.struct_made.ensures)

pub primaries::make_unique-returns-in_err-id : goal.primaries::make_unique-returns-in_err-id
primaries::make_unique-returns-in_err-id t c =
    let p = err_from_is_err_and c.from_residual.result c.from_residual.ensures.1 in
    rw (p.1, p.2) (element_fails c.args.place c.args.element.now (arguments_meaning c.args.arguments.now) c.args.environment.now c.args.types.now _ refl c.in_err-id.field-0.0 c.in_err-id.ensures)

pub primaries::make_unique-returns-in_err-list : goal.primaries::make_unique-returns-in_err-list
primaries::make_unique-returns-in_err-list t c =
    let p = err_from_is_err_and c.from_residual-in_err-list.result c.from_residual-in_err-list.ensures.1 in
    rw (p.1, p.2) (unique_fails c.args.place c.args.element.now (arguments_meaning c.args.arguments.now) c.args.environment.now c.args.types.now _ (listed c.args.arguments.now ∙ ap (map expr_meaning) (sym c.deref.ensures.value)) (c.in_ok-id.id, c.made_element.new.types) c.in_err-list.field-0.0 c.in_ok-id.ensures c.in_err-list.ensures)

pub primaries::make_unique-returns-in_err-first_of : goal.primaries::make_unique-returns-in_err-first_of
primaries::make_unique-returns-in_err-first_of t c =
    let p = err_from_is_err_and c.from_residual-in_err-first_of.result c.from_residual-in_err-first_of.ensures.1 in
    rw (p.1, p.2) (never_fails c.in_err-first_of.field-0.0 _ _ _ refl c.in_err-first_of.ensures)

pub primaries::make_unique-returns : goal.primaries::make_unique-returns
primaries::make_unique-returns t c =
    unique_answers c.args.place c.args.element.now (arguments_meaning c.args.arguments.now) c.args.environment.now c.args.types.now _ (listed c.args.arguments.now ∙ ap (map expr_meaning) (sym c.deref.ensures.value)) (c.in_ok-id.id, c.made_element.new.types) (map typed_view c.in_ok-list.list.items, c.passed.new.types) _ (closed c.args.arguments.now) c.in_ok-id.ensures c.in_ok-list.ensures
    ∙ ap (λ (o : Option Typed). Ok (value c.args.place (ty.Unique c.in_ok-id.id) (make_unique c.in_ok-id.id (optional_form o) (out-Arguments c.args.arguments.now).closing), c.passed.new.types)) (same_found _ _ _ refl c.in_ok-first_of.ensures)
    ∙ ap (λ (f : Form). Ok (value c.args.place (ty.Unique c.in_ok-id.id) f, c.passed.new.types)) (sym (seen_unique c.in_ok-id.id c.in_ok-first_of.field-0 (out-Arguments c.args.arguments.now).closing))
    ∙ ap (λ (v : Typed). Ok (v, c.passed.new.types)) (sym c.value.ensures)

pub primaries::read_list-returns-in_err-next : goal.primaries::read_list-returns-in_err-next
primaries::read_list-returns-in_err-next t c =
    let p = err_from_is_err_and c.from_residual.result c.from_residual.ensures.1 in
    rw (p.1, p.2) (list_turn_fails expr_meaning (targets_view c.args.targets) c.args.environment.now (map typed_view c.list.read.items) _ _ c.e-item.result _ _ c.list-test.true c.e-item.is c.list.invariant c.in_err-next.field-0.0 c.in_err-next.ensures)

pub primaries::read_list-returns-in_err-literal_allowed : goal.primaries::read_list-returns-in_err-literal_allowed
primaries::read_list-returns-in_err-literal_allowed t c =
    let p = err_from_is_err_and c.from_residual-in_err-literal_allowed.result c.from_residual-in_err-literal_allowed.ensures.1 in
    rw (p.1, p.2) (turn_literal expr_meaning (targets_view c.args.targets) c.args.environment.now (map typed_view c.list.read.items) _ _ c.e-item.result _ _ c.list-test.true c.e-item.is c.list.invariant _ (typed_view c.in_ok-next.next) c.len.result (c.len.ensures ∙ c.list.read.ok.0 ∙ sym (length-map c.list.read.items typed_view)) c.target_at-target.result c.target_at-target.ensures c.is_taken.result c.is_taken.ensures c.in_ok-next.ensures c.in_err-literal_allowed.field-0.0 c.in_err-literal_allowed.ensures)

pub primaries::read_list-list-init : goal.primaries::read_list-list-init
primaries::read_list-list-init t c =
    ap (λ (es : List TypedExpr). read_onto (targets_view c.args.targets) (map typed_view es) (map expr_meaning c.args.list.now) c.args.environment.now c.args.types.now) c.new-read.ensures.items

pub primaries::read_list-list-preserved : goal.primaries::read_list-list-preserved
primaries::read_list-list-preserved t c =
    turn_reads expr_meaning (targets_view c.args.targets) c.args.environment.now (map typed_view c.list.read.items) _ _ c.e-item.result _ _ c.list-test.true c.e-item.is c.list.invariant _ (typed_view c.in_ok-next.next) c.len.result (c.len.ensures ∙ c.list.read.ok.0 ∙ sym (length-map c.list.read.items typed_view)) c.target_at-target.result c.target_at-target.ensures c.is_taken.result c.is_taken.ensures c.in_ok-next.ensures (map typed_view c.push.new.self.items) c.in_ok-literal_allowed.ensures (ap (map typed_view) c.in_ok-push.ensures.items ∙ map-append typed_view c.list.read.items _)

pub primaries::read_list-returns : goal.primaries::read_list-returns
primaries::read_list-returns t c =
    read_all expr_meaning (targets_view c.args.targets) c.args.environment.now (map typed_view c.list.read.items) _ _ _ _ c.list-test.false c.list.invariant

pub primaries::passed-returns-in_err-read : goal.primaries::passed-returns-in_err-read
primaries::passed-returns-in_err-read t c =
    let p = err_from_is_err_and c.from_residual.result c.from_residual.ensures.1 in
    rw (p.1, p.2) (passed_fails c.args.general c.args.other c.args.place (targets_view c.args.targets) (map expr_meaning c.args.list.now) c.args.environment.now c.args.types.now c.in_err-read.field-0.0 c.in_err-read.ensures)

pub primaries::passed-returns-in_err-allowed : goal.primaries::passed-returns-in_err-allowed
primaries::passed-returns-in_err-allowed t c =
    let p = err_from_is_err_and c.from_residual-in_err-allowed.result c.from_residual-in_err-allowed.ensures.1 in
    rw (p.1, p.2) (passed_misfits c.args.general c.args.other c.args.place (targets_view c.args.targets) (map expr_meaning c.args.list.now) c.args.environment.now c.args.types.now (map typed_view c.in_ok-read.read.items, c.read_list.new.types) c.in_ok-read.ensures c.len.result (c.len.ensures ∙ c.in_ok-read.read.ok.0 ∙ sym (length-map c.in_ok-read.read.items typed_view)) c.count_fault.result c.count_fault.ensures c.lower_kind-lowest.result c.lower_kind-lowest.ensures c.misfits.result (c.misfits.ensures ∙ ap (λ (xs : List TypedExpr). misfits c.args.general (targets_view c.args.targets) c.read_list.new.types c.lower_kind-lowest.result 0 (map typed_view xs)) c.deref.ensures.value) c.in_err-allowed.field-0.0 c.in_err-allowed.ensures)

pub primaries::passed-returns : goal.primaries::passed-returns
primaries::passed-returns t c =
    passed_all c.args.general c.args.other c.args.place (targets_view c.args.targets) (map expr_meaning c.args.list.now) c.args.environment.now c.args.types.now (map typed_view c.in_ok-read.read.items, c.read_list.new.types) c.in_ok-read.ensures c.len.result (c.len.ensures ∙ c.in_ok-read.read.ok.0 ∙ sym (length-map c.in_ok-read.read.items typed_view)) c.count_fault.result c.count_fault.ensures c.lower_kind-lowest.result c.lower_kind-lowest.ensures c.misfits.result (c.misfits.ensures ∙ ap (λ (xs : List TypedExpr). misfits c.args.general (targets_view c.args.targets) c.read_list.new.types c.lower_kind-lowest.result 0 (map typed_view xs)) c.deref.ensures.value) c.in_ok-allowed.ensures

pub primaries::braced-returns : goal.primaries::braced-returns
primaries::braced-returns t c =
    gives_as (λ v. map typed_view v.items) c.passed.new.types c.passed.result _ _ (braced_as (targets_view c.args.targets) (init_list_meaning c.args.list.now) _ _ c.args.environment.now c.args.types.now (list_opened c.args.list.now) (list_listed c.args.list.now ∙ ap (map expr_meaning) (sym c.deref.ensures.value))) c.passed.ensures
