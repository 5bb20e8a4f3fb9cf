-- The readers of types and expressions look at no token but the next, if those inside a construct do.
use Rattle.std.proofs.Common.{ℕ, false, refl}
use Rattle.life_expr.specs.Heads.{rule_may_be_empty}
use Rattle.life_expr.specs.Readers.{Readers, argument_with, base_with, unqualified_with, type_with, args_with, list_with, primary_parts, primary_with, part_with, postfix_parts, postfix_with, unary_with, term_with, sum_with, order_with, equal_with, both_with, expr_with}
use Rattle.life_parse.proofs.Looks.{Law}
use Rattle.life_parse.proofs.LooksForms.{Laws, Law-any, Law-no_reader, Law-derived}
use Rattle.life_tree.specs.Rules as rules

module _ (n : ℕ) (inside : Readers) (i : Laws inside) where
  pub Law-argument : Law false (argument_with n inside)
  unfolding argument_with
  Law-argument = Law-derived n inside inside i i rules.argument refl

  pub Law-base : Law false (base_with n inside)
  unfolding base_with
  Law-base = Law-derived n inside _ i (λ r. Law-any (rule_may_be_empty r) _ Law-argument) rules.base refl

  pub Law-unqualified : Law false (unqualified_with n inside)
  unfolding unqualified_with
  Law-unqualified = Law-derived n inside _ i (λ r. Law-any (rule_may_be_empty r) _ Law-base) rules.unqualified refl

  pub Law-type : Law false (type_with n inside)
  unfolding type_with
  Law-type = Law-derived n inside _ i (λ r. Law-any (rule_may_be_empty r) _ Law-unqualified) rules.type_name refl

  pub Law-args : Law false (args_with n inside)
  unfolding args_with
  Law-args = Law-derived n inside inside i i rules.args refl

  pub Law-list : Law false (list_with n inside)
  unfolding list_with
  Law-list = Law-derived n inside inside i i rules.list refl

  pub primary_laws : Laws (primary_parts n inside)
  primary_laws rules.args = Law-args
  primary_laws rules.list = Law-list
  primary_laws rules.argument = Law-argument
  primary_laws _ = Law-no_reader _

  pub Law-primary : Law false (primary_with n inside)
  unfolding primary_with
  Law-primary = Law-derived n inside (primary_parts n inside) i primary_laws rules.primary refl

  pub Law-part : Law false (part_with n inside)
  unfolding part_with
  Law-part = Law-derived n inside _ i (λ r. Law-any (rule_may_be_empty r) _ Law-args) rules.part refl

  pub postfix_laws : Laws (postfix_parts n inside)
  postfix_laws rules.primary = Law-primary
  postfix_laws rules.part = Law-part
  postfix_laws _ = Law-no_reader _

  pub Law-postfix : Law false (postfix_with n inside)
  unfolding postfix_with
  Law-postfix = Law-derived n inside (postfix_parts n inside) i postfix_laws rules.postfix refl

  pub Law-unary : Law false (unary_with n inside)
  unfolding unary_with
  Law-unary = Law-derived n inside _ i (λ r. Law-any (rule_may_be_empty r) _ Law-postfix) rules.unary refl

  pub Law-term : Law false (term_with n inside)
  unfolding term_with
  Law-term = Law-derived n inside _ i (λ r. Law-any (rule_may_be_empty r) _ Law-unary) rules.term refl

  pub Law-sum : Law false (sum_with n inside)
  unfolding sum_with
  Law-sum = Law-derived n inside _ i (λ r. Law-any (rule_may_be_empty r) _ Law-term) rules.sum refl

  pub Law-order : Law false (order_with n inside)
  unfolding order_with
  Law-order = Law-derived n inside _ i (λ r. Law-any (rule_may_be_empty r) _ Law-sum) rules.order refl

  pub Law-equal : Law false (equal_with n inside)
  unfolding equal_with
  Law-equal = Law-derived n inside _ i (λ r. Law-any (rule_may_be_empty r) _ Law-order) rules.equal refl

  pub Law-both : Law false (both_with n inside)
  unfolding both_with
  Law-both = Law-derived n inside _ i (λ r. Law-any (rule_may_be_empty r) _ Law-equal) rules.both refl

  pub Law-expr : Law false (expr_with n inside)
  unfolding expr_with
  Law-expr = Law-derived n inside _ i (λ r. Law-any (rule_may_be_empty r) _ Law-both) rules.expr refl
