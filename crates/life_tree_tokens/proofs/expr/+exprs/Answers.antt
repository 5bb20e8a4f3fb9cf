use Rattle.std.proofs.Common.{◌≡◌, ◌++◌, [], ◌∷◌, refl, map}
use Rattle.life_tree_tokens.proofs.Written.{ended, joined, listed}
use Rattle.life_tree.specs.Separated.{separated_keys}
use Rattle.life_tree.specs.Tree.{keys_of}
use Rattle.life_tree.specs.Views.{additive_part_tree, additive_tree, and_part_tree, arguments_tree, equality_part_tree, equality_tree, expr_tree, init_list_tree, list_tree, logical_and_tree, multiplicative_part_tree, multiplicative_tree, or_part_tree, postfix_part_tree, postfix_tree, primary_tree, relational_part_tree, relational_tree, separated_tree, unary_tree}
use Rattle.life_tree.specs.declared.fixed.TheConstants.{LEFT_BRACE, LEFT_PAREN, RIGHT_BRACE, RIGHT_PAREN}
use Rattle.life_tree.specs.declared.key.TokenKey.TheVariants.{Fixed}
use Rattle.life_tree.specs.declared.expr.Expr.{Expr, fold_out-Expr, out-Expr}
use Rattle.life_tree.specs.declared.expr.LogicalAnd.{LogicalAnd, fold_out-LogicalAnd, out-LogicalAnd}
use Rattle.life_tree.specs.declared.comparison.Equality.{Equality, fold_out-Equality, out-Equality}
use Rattle.life_tree.specs.declared.comparison.Relational.{Relational, fold_out-Relational, out-Relational}
use Rattle.life_tree.specs.declared.arithmetic.Additive.{Additive, fold_out-Additive, out-Additive}
use Rattle.life_tree.specs.declared.arithmetic.Multiplicative.{Multiplicative, fold_out-Multiplicative, out-Multiplicative}
use Rattle.life_tree.specs.declared.primary.Postfix.{Postfix, fold_out-Postfix, out-Postfix}
use Rattle.life_tree.specs.declared.expr.Arguments.{Arguments, fold_out-Arguments, out-Arguments}
use Rattle.life_tree.specs.declared.expr.InitList.{InitList, fold_out-InitList, out-InitList}
use Rattle.life_tree_tokens.proofs.expr.+exprs.Goals as goal

-- ---- the tokens of a value, by its fields

expr_keys : (e : Expr) → keys_of (expr_tree e) ≡ keys_of (logical_and_tree (out-Expr e).first) ++ keys_of (list_tree (map or_part_tree (out-Expr e).more.items))
expr_keys e = rw fold_out-Expr

logical_and_keys : (e : LogicalAnd) → keys_of (logical_and_tree e) ≡ keys_of (equality_tree (out-LogicalAnd e).first) ++ keys_of (list_tree (map and_part_tree (out-LogicalAnd e).more.items))
logical_and_keys e = rw fold_out-LogicalAnd

equality_keys : (e : Equality) → keys_of (equality_tree e) ≡ keys_of (relational_tree (out-Equality e).first) ++ keys_of (list_tree (map equality_part_tree (out-Equality e).more.items))
equality_keys e = rw fold_out-Equality

relational_keys : (e : Relational) → keys_of (relational_tree e) ≡ keys_of (additive_tree (out-Relational e).first) ++ keys_of (list_tree (map relational_part_tree (out-Relational e).more.items))
relational_keys e = rw fold_out-Relational

additive_keys : (e : Additive) → keys_of (additive_tree e) ≡ keys_of (multiplicative_tree (out-Additive e).first) ++ keys_of (list_tree (map additive_part_tree (out-Additive e).more.items))
additive_keys e = rw fold_out-Additive

multiplicative_keys : (e : Multiplicative) → keys_of (multiplicative_tree e) ≡ keys_of (unary_tree (out-Multiplicative e).first) ++ keys_of (list_tree (map multiplicative_part_tree (out-Multiplicative e).more.items))
multiplicative_keys e = rw fold_out-Multiplicative

postfix_keys : (e : Postfix) → keys_of (postfix_tree e) ≡ keys_of (primary_tree (out-Postfix e).primary) ++ keys_of (list_tree (map postfix_part_tree (out-Postfix e).parts.items))
postfix_keys e = rw fold_out-Postfix

arguments_keys : (e : Arguments) → keys_of (arguments_tree e) ≡ Fixed LEFT_PAREN ∷ (keys_of (separated_tree (out-Arguments e).commas.items (map expr_tree (out-Arguments e).list.items)) ++ Fixed RIGHT_PAREN ∷ [])
arguments_keys e = rw fold_out-Arguments

init_list_keys : (e : InitList) → keys_of (init_list_tree e) ≡ Fixed LEFT_BRACE ∷ (keys_of (separated_tree (out-InitList e).commas.items (map expr_tree (out-InitList e).list.items)) ++ Fixed RIGHT_BRACE ∷ [])
init_list_keys e = rw fold_out-InitList

-- ---- what is open

pub write_expr-returns : goal.write_expr-returns
write_expr-returns t c = ended (λ items. keys_of (list_tree (map or_part_tree items))) (λ items. keys_of (list_tree (map or_part_tree items))) _ _ _ _ _ _ _ _
    c.parts-test.false refl c.parts.invariant c.deref-part-items.ensures.value c.in_ok-write_logical_and.ensures (expr_keys c.args.expr.now)

pub write_logical_and-returns : goal.write_logical_and-returns
write_logical_and-returns t c = ended (λ items. keys_of (list_tree (map and_part_tree items))) (λ items. keys_of (list_tree (map and_part_tree items))) _ _ _ _ _ _ _ _
    c.parts-test.false refl c.parts.invariant c.deref-part-items.ensures.value c.in_ok-write_equality.ensures (logical_and_keys c.args.expr.now)

pub write_equality-returns : goal.write_equality-returns
write_equality-returns t c = ended (λ items. keys_of (list_tree (map equality_part_tree items))) (λ items. keys_of (list_tree (map equality_part_tree items))) _ _ _ _ _ _ _ _
    c.parts-test.false refl c.parts.invariant c.deref-part-items.ensures.value c.in_ok-write_relational.ensures (equality_keys c.args.expr.now)

pub write_relational-returns : goal.write_relational-returns
write_relational-returns t c = ended (λ items. keys_of (list_tree (map relational_part_tree items))) (λ items. keys_of (list_tree (map relational_part_tree items))) _ _ _ _ _ _ _ _
    c.parts-test.false refl c.parts.invariant c.deref-part-items.ensures.value c.in_ok-write_additive.ensures (relational_keys c.args.expr.now)

pub write_additive-returns : goal.write_additive-returns
write_additive-returns t c = ended (λ items. keys_of (list_tree (map additive_part_tree items))) (λ items. keys_of (list_tree (map additive_part_tree items))) _ _ _ _ _ _ _ _
    c.parts-test.false refl c.parts.invariant c.deref-part-items.ensures.value c.in_ok-write_multiplicative.ensures (additive_keys c.args.expr.now)

pub write_multiplicative-returns : goal.write_multiplicative-returns
write_multiplicative-returns t c = ended (λ items. keys_of (list_tree (map multiplicative_part_tree items))) (λ items. keys_of (list_tree (map multiplicative_part_tree items))) _ _ _ _ _ _ _ _
    c.parts-test.false refl c.parts.invariant c.deref-part-items.ensures.value c.in_ok-write_unary.ensures (multiplicative_keys c.args.expr.now)

pub write_postfix-returns : goal.write_postfix-returns
write_postfix-returns t c = ended (λ items. keys_of (list_tree (map postfix_part_tree items))) (λ items. keys_of (list_tree (map postfix_part_tree items))) _ _ _ _ _ _ _ _
    c.parts-test.false refl c.parts.invariant c.deref-part-items.ensures.value c.in_ok-write_primary.ensures (postfix_keys c.args.postfix.now)

pub write_separated-returns : goal.write_separated-returns
write_separated-returns t c = listed c.write_commas.result (λ items. separated_keys c.list.started c.list.rest.now (map expr_tree items)) _ _ _
    (keys_of (separated_tree c.args.commas.now.items (map expr_tree c.args.exprs.now))) c.args.keys.now.items _ _
    c.list-test.false refl c.list.invariant c.write_commas.ensures

pub write_arguments-returns : goal.write_arguments-returns
write_arguments-returns t c = joined c.write_fixed-2.result (Fixed LEFT_PAREN ∷ []) _ (Fixed RIGHT_PAREN ∷ []) _ _ _ _ _
    c.in_ok-write_fixed.ensures (rw c.deref.ensures.value at c.in_ok-write_separated.ensures) (arguments_keys c.args.arguments.now) c.write_fixed-2.ensures

pub write_init_list-returns : goal.write_init_list-returns
write_init_list-returns t c = joined c.write_fixed-2.result (Fixed LEFT_BRACE ∷ []) _ (Fixed RIGHT_BRACE ∷ []) _ _ _ _ _
    c.in_ok-write_fixed.ensures (rw c.deref.ensures.value at c.in_ok-write_separated.ensures) (init_list_keys c.args.list.now) c.write_fixed-2.ensures
