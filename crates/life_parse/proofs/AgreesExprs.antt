-- Where more may be open, the readers of types and expressions read the same, if those inside a construct do.
use Rattle.std.proofs.Common.{ℕ, ◌≤◌}
use Rattle.life_expr.specs.Readers.{Readers, no_reader, argument_with, base_with, unqualified_with, type_with, args_with, list_with, primary_parts, primary_with, part_with, postfix_parts, postfix_with, unary_with, term_with, sum_with, order_with, equal_with, both_with, expr_with}
use Rattle.life_parse.proofs.Agrees.{Agrees, AllAgree, Agrees-self, Agrees-derived}
use Rattle.life_tree.specs.Rules as rules

module _ (n k : ℕ) (inside inside' : Readers) (le : n ≤ k) (i : AllAgree inside inside') where
  pub Agrees-argument : Agrees (argument_with n inside) (argument_with k inside')
  unfolding argument_with
  Agrees-argument = Agrees-derived n k inside inside' inside inside' le i i rules.argument

  pub Agrees-base : Agrees (base_with n inside) (base_with k inside')
  unfolding base_with
  Agrees-base = Agrees-derived n k inside inside' _ _ le i (λ r. Agrees-argument) rules.base

  pub Agrees-unqualified : Agrees (unqualified_with n inside) (unqualified_with k inside')
  unfolding unqualified_with
  Agrees-unqualified = Agrees-derived n k inside inside' _ _ le i (λ r. Agrees-base) rules.unqualified

  pub Agrees-type : Agrees (type_with n inside) (type_with k inside')
  unfolding type_with
  Agrees-type = Agrees-derived n k inside inside' _ _ le i (λ r. Agrees-unqualified) rules.type_name

  pub Agrees-args : Agrees (args_with n inside) (args_with k inside')
  unfolding args_with
  Agrees-args = Agrees-derived n k inside inside' inside inside' le i i rules.args

  pub Agrees-list : Agrees (list_with n inside) (list_with k inside')
  unfolding list_with
  Agrees-list = Agrees-derived n k inside inside' inside inside' le i i rules.list

  primary_agree : AllAgree (primary_parts n inside) (primary_parts k inside')
  primary_agree rules.args = Agrees-args
  primary_agree rules.list = Agrees-list
  primary_agree rules.argument = Agrees-argument
  primary_agree _ = Agrees-self no_reader

  pub Agrees-primary : Agrees (primary_with n inside) (primary_with k inside')
  unfolding primary_with
  Agrees-primary = Agrees-derived n k inside inside' (primary_parts n inside) (primary_parts k inside') le i primary_agree rules.primary

  pub Agrees-part : Agrees (part_with n inside) (part_with k inside')
  unfolding part_with
  Agrees-part = Agrees-derived n k inside inside' _ _ le i (λ r. Agrees-args) rules.part

  postfix_agree : AllAgree (postfix_parts n inside) (postfix_parts k inside')
  postfix_agree rules.primary = Agrees-primary
  postfix_agree rules.part = Agrees-part
  postfix_agree _ = Agrees-self no_reader

  pub Agrees-postfix : Agrees (postfix_with n inside) (postfix_with k inside')
  unfolding postfix_with
  Agrees-postfix = Agrees-derived n k inside inside' (postfix_parts n inside) (postfix_parts k inside') le i postfix_agree rules.postfix

  pub Agrees-unary : Agrees (unary_with n inside) (unary_with k inside')
  unfolding unary_with
  Agrees-unary = Agrees-derived n k inside inside' _ _ le i (λ r. Agrees-postfix) rules.unary

  pub Agrees-term : Agrees (term_with n inside) (term_with k inside')
  unfolding term_with
  Agrees-term = Agrees-derived n k inside inside' _ _ le i (λ r. Agrees-unary) rules.term

  pub Agrees-sum : Agrees (sum_with n inside) (sum_with k inside')
  unfolding sum_with
  Agrees-sum = Agrees-derived n k inside inside' _ _ le i (λ r. Agrees-term) rules.sum

  pub Agrees-order : Agrees (order_with n inside) (order_with k inside')
  unfolding order_with
  Agrees-order = Agrees-derived n k inside inside' _ _ le i (λ r. Agrees-sum) rules.order

  pub Agrees-equal : Agrees (equal_with n inside) (equal_with k inside')
  unfolding equal_with
  Agrees-equal = Agrees-derived n k inside inside' _ _ le i (λ r. Agrees-order) rules.equal

  pub Agrees-both : Agrees (both_with n inside) (both_with k inside')
  unfolding both_with
  Agrees-both = Agrees-derived n k inside inside' _ _ le i (λ r. Agrees-equal) rules.both

  pub Agrees-expr : Agrees (expr_with n inside) (expr_with k inside')
  unfolding expr_with
  Agrees-expr = Agrees-derived n k inside inside' _ _ le i (λ r. Agrees-both) rules.expr
