-- Each rule of the grammar means what its parts mean, by its step.
use Rattle.std.proofs.Common.{◌≡◌, map}
use Rattle.life_types.specs.Types.{Types}
use Rattle.life_tree.specs.declared.arithmetic.Additive.{Additive, fold_out-Additive, out-Additive}
use Rattle.life_tree.specs.declared.arithmetic.AdditivePart.{AdditivePart, fold_out-AdditivePart, out-AdditivePart}
use Rattle.life_tree.specs.declared.arithmetic.Multiplicative.{Multiplicative, fold_out-Multiplicative, out-Multiplicative}
use Rattle.life_tree.specs.declared.arithmetic.MultiplicativePart.{MultiplicativePart, fold_out-MultiplicativePart, out-MultiplicativePart}
use Rattle.life_tree.specs.declared.comparison.Equality.{Equality, fold_out-Equality, out-Equality}
use Rattle.life_tree.specs.declared.comparison.EqualityPart.{EqualityPart, fold_out-EqualityPart, out-EqualityPart}
use Rattle.life_tree.specs.declared.comparison.Relational.{Relational, fold_out-Relational, out-Relational}
use Rattle.life_tree.specs.declared.comparison.RelationalPart.{RelationalPart, fold_out-RelationalPart, out-RelationalPart}
use Rattle.life_tree.specs.declared.expr.AndPart.{AndPart, fold_out-AndPart, out-AndPart}
use Rattle.life_tree.specs.declared.expr.Arguments.{Arguments, fold_out-Arguments, out-Arguments}
use Rattle.life_tree.specs.declared.expr.Expr.{Expr, fold_out-Expr, out-Expr}
use Rattle.life_tree.specs.declared.expr.InitList.{InitList, fold_out-InitList, out-InitList}
use Rattle.life_tree.specs.declared.expr.LogicalAnd.{LogicalAnd, fold_out-LogicalAnd, out-LogicalAnd}
use Rattle.life_tree.specs.declared.expr.OrPart.{OrPart, fold_out-OrPart, out-OrPart}
use Rattle.life_tree.specs.declared.primary.Postfix.{Postfix, fold_out-Postfix, out-Postfix}
use Rattle.life_typed.specs.TypedForm.{Typed}
use Rattle.life_typed.specs.declared.typed_expr.BinaryOperator.TheVariants as operators
use Rattle.life_names.specs.Environment.{Scope}
use Rattle.life_type_expr.specs.Expressions.{additive_meaning, additive_operator, additive_part_meaning, and_part_meaning, arguments_meaning, chain, equality_meaning, equality_operator, equality_part_meaning, expr_meaning, init_list_meaning, logical_and_meaning, multiplicative_meaning, multiplicative_operator, multiplicative_part_meaning, operand_part, or_part_meaning, part_meaning, postfix_meaning, primary_meaning, relational_meaning, relational_operator, relational_part_meaning, unary_meaning}

-- ---- chains

pub expr_made : (e : Expr) (scope : Scope) (types : Types) → expr_meaning e scope types ≡ chain (logical_and_meaning (out-Expr e).first) (map or_part_meaning (out-Expr e).more.items) scope types
unfolding expr_meaning logical_and_meaning or_part_meaning
expr_made e scope types = rw fold_out-Expr

pub logical_and_made : (e : LogicalAnd) (scope : Scope) (types : Types) → logical_and_meaning e scope types ≡ chain (equality_meaning (out-LogicalAnd e).first) (map and_part_meaning (out-LogicalAnd e).more.items) scope types
unfolding logical_and_meaning equality_meaning and_part_meaning
logical_and_made e scope types = rw fold_out-LogicalAnd

pub equality_made : (e : Equality) (scope : Scope) (types : Types) → equality_meaning e scope types ≡ chain (relational_meaning (out-Equality e).first) (map equality_part_meaning (out-Equality e).more.items) scope types
unfolding equality_meaning relational_meaning equality_part_meaning
equality_made e scope types = rw fold_out-Equality

pub relational_made : (e : Relational) (scope : Scope) (types : Types) → relational_meaning e scope types ≡ chain (additive_meaning (out-Relational e).first) (map relational_part_meaning (out-Relational e).more.items) scope types
unfolding relational_meaning additive_meaning relational_part_meaning
relational_made e scope types = rw fold_out-Relational

pub additive_made : (e : Additive) (scope : Scope) (types : Types) → additive_meaning e scope types ≡ chain (multiplicative_meaning (out-Additive e).first) (map additive_part_meaning (out-Additive e).more.items) scope types
unfolding additive_meaning multiplicative_meaning additive_part_meaning
additive_made e scope types = rw fold_out-Additive

pub multiplicative_made : (e : Multiplicative) (scope : Scope) (types : Types) → multiplicative_meaning e scope types ≡ chain (unary_meaning (out-Multiplicative e).first) (map multiplicative_part_meaning (out-Multiplicative e).more.items) scope types
unfolding multiplicative_meaning unary_meaning multiplicative_part_meaning
multiplicative_made e scope types = rw fold_out-Multiplicative

pub postfix_made : (e : Postfix) (scope : Scope) (types : Types) → postfix_meaning e scope types ≡ chain (primary_meaning (out-Postfix e).primary) (map part_meaning (out-Postfix e).parts.items) scope types
unfolding postfix_meaning primary_meaning part_meaning
postfix_made e scope types = rw fold_out-Postfix

-- ---- their parts

pub or_part_made : (p : OrPart) (left : Typed) (scope : Scope) (types : Types) → or_part_meaning p left scope types ≡ operand_part operators.Or (out-OrPart p).place (logical_and_meaning (out-OrPart p).operand) left scope types
unfolding or_part_meaning logical_and_meaning
or_part_made p left scope types = rw fold_out-OrPart

pub and_part_made : (p : AndPart) (left : Typed) (scope : Scope) (types : Types) → and_part_meaning p left scope types ≡ operand_part operators.And (out-AndPart p).place (equality_meaning (out-AndPart p).operand) left scope types
unfolding and_part_meaning equality_meaning
and_part_made p left scope types = rw fold_out-AndPart

pub equality_part_made : (p : EqualityPart) (left : Typed) (scope : Scope) (types : Types) → equality_part_meaning p left scope types ≡ operand_part (equality_operator (out-EqualityPart p).operator) (out-EqualityPart p).place (relational_meaning (out-EqualityPart p).operand) left scope types
unfolding equality_part_meaning relational_meaning
equality_part_made p left scope types = rw fold_out-EqualityPart

pub relational_part_made : (p : RelationalPart) (left : Typed) (scope : Scope) (types : Types) → relational_part_meaning p left scope types ≡ operand_part (relational_operator (out-RelationalPart p).operator) (out-RelationalPart p).place (additive_meaning (out-RelationalPart p).operand) left scope types
unfolding relational_part_meaning additive_meaning
relational_part_made p left scope types = rw fold_out-RelationalPart

pub additive_part_made : (p : AdditivePart) (left : Typed) (scope : Scope) (types : Types) → additive_part_meaning p left scope types ≡ operand_part (additive_operator (out-AdditivePart p).operator) (out-AdditivePart p).place (multiplicative_meaning (out-AdditivePart p).operand) left scope types
unfolding additive_part_meaning multiplicative_meaning
additive_part_made p left scope types = rw fold_out-AdditivePart

pub multiplicative_part_made : (p : MultiplicativePart) (left : Typed) (scope : Scope) (types : Types) → multiplicative_part_meaning p left scope types ≡ operand_part (multiplicative_operator (out-MultiplicativePart p).operator) (out-MultiplicativePart p).place (unary_meaning (out-MultiplicativePart p).operand) left scope types
unfolding multiplicative_part_meaning unary_meaning
multiplicative_part_made p left scope types = rw fold_out-MultiplicativePart

-- ---- lists

pub arguments_made : (a : Arguments) → arguments_meaning a ≡ record { opening = (out-Arguments a).opening; list = map expr_meaning (out-Arguments a).list.items; delimiters = record { commas = (out-Arguments a).commas.items; closing = (out-Arguments a).closing } }
unfolding arguments_meaning expr_meaning
arguments_made a = rw fold_out-Arguments

pub init_list_made : (l : InitList) → init_list_meaning l ≡ record { opening = (out-InitList l).opening; list = map expr_meaning (out-InitList l).list.items; delimiters = record { commas = (out-InitList l).commas.items; closing = (out-InitList l).closing } }
unfolding init_list_meaning expr_meaning
init_list_made l = rw fold_out-InitList
