-- Each expression that is read has a token, and so has each part of one that a loop reads.
use Rattle.std.proofs.Common.{ℕ, zero, suc, false}
use Rattle.life_expr.specs.Exprs.{comma_form, named_form, parenthesized_form, std_form, input_form, or_form, and_form, equality_form, relational_form, additive_form, multiplicative_form, or_part_with, and_part_with, equality_part_with, relational_part_with, additive_part_with, multiplicative_part_with, later_expression_with}
use Rattle.life_expr.specs.Readers.{Readers, argument_with, base_with, unqualified_with, type_with, args_with, list_with, primary_parts, primary_with, part_with, postfix_parts, postfix_with, unary_with, term_with, sum_with, order_with, equal_with, both_with, expr_with, rule_with, below}
use Rattle.life_expr.specs.Types.{std_base}
use Rattle.life_expr.proofs.Loop.{Shrinks}
use Rattle.life_expr.proofs.Shrinks.{AllTake, Takes, form_takes, derived_takes, takes_shrinks}
use Rattle.life_tree.specs.Grammar.{◌then◌, ◌or◌, namespaced, rule}
use Rattle.life_tree.specs.Rules as rules
use Rattle.life_tree.specs.declared.fixed.TheConstants as fixed

-- the readers one construct further in, which the rules of types and expressions ask for
pub record InsideTakes (inside : Readers) : Type 0 where
  pub type_name : Takes false (inside rules.type_name)
  pub expr : Takes false (inside rules.expr)
  pub unary : Takes false (inside rules.unary)

module _ (n : ℕ) (inside : Readers) (i : InsideTakes inside) where
  pub argument_takes : Takes false (argument_with n inside)
  unfolding argument_with
  argument_takes = derived_takes n inside inside rules.argument (i.type_name, tt)

  pub base_takes : Takes false (base_with n inside)
  unfolding base_with
  base_takes =
      let a = argument_takes in
      let of_std : AllTake inside (λ r. argument_with n inside) std_base = (tt, (tt, (tt, ((tt, (a, ((tt, (tt, tt)), tt))), (tt, a))))) in
      derived_takes n inside (λ r. argument_with n inside) rules.base (tt, (tt, (tt, (tt, (tt, ((tt, (tt, of_std)), (tt, (tt, (tt, a)))))))))

  pub unqualified_takes : Takes false (unqualified_with n inside)
  unfolding unqualified_with
  unqualified_takes = derived_takes n inside (λ r. base_with n inside) rules.unqualified (base_takes, ((tt, tt), tt))

  pub type_takes : Takes false (type_with n inside)
  unfolding type_with
  type_takes = derived_takes n inside (λ r. unqualified_with n inside) rules.type_name ((tt, tt), unqualified_takes)

  pub args_takes : Takes false (args_with n inside)
  unfolding args_with
  args_takes = derived_takes n inside inside rules.args (((i.expr, (tt, i.expr)), tt), tt)

  pub list_takes : Takes false (list_with n inside)
  unfolding list_with
  list_takes = derived_takes n inside inside rules.list (((i.expr, (tt, i.expr)), tt), tt)

  pub primary_takes : Takes false (primary_with n inside)
  unfolding primary_with
  primary_takes =
      let named : AllTake inside (primary_parts n inside) named_form = (tt, ((args_takes, list_takes), tt)) in
      let of_std : AllTake inside (primary_parts n inside) std_form = ((tt, (tt, tt)), ((tt, (i.expr, tt)), (tt, (argument_takes, args_takes)))) in
      let last : AllTake inside (primary_parts n inside) (parenthesized_form or namespaced fixed.STD std_form or input_form) =
      ((i.expr, tt), ((tt, (tt, of_std)), (tt, (tt, (tt, tt))))) in
      derived_takes n inside (primary_parts n inside) rules.primary (tt, (tt, (tt, (tt, (tt, (tt, (named, last)))))))

  pub part_takes : Takes false (part_with n inside)
  unfolding part_with
  part_takes =
      let a = args_takes in
      derived_takes n inside (λ r. args_with n inside) rules.part ((tt, (tt, (a, tt))), ((tt, (tt, (a, tt))), (i.expr, tt)))

  pub postfix_takes : Takes false (postfix_with n inside)
  unfolding postfix_with
  postfix_takes = derived_takes n inside (postfix_parts n inside) rules.postfix (primary_takes, part_takes)

  pub unary_takes : Takes false (unary_with n inside)
  unfolding unary_with
  unary_takes = derived_takes n inside (λ r. postfix_with n inside) rules.unary (i.unary, (i.unary, (i.unary, (i.unary, postfix_takes))))

  pub term_takes : Takes false (term_with n inside)
  unfolding term_with
  term_takes = derived_takes n inside (λ r. unary_with n inside) rules.term (unary_takes, ((tt, (tt, tt)), unary_takes))

  pub sum_takes : Takes false (sum_with n inside)
  unfolding sum_with
  sum_takes = derived_takes n inside (λ r. term_with n inside) rules.sum (term_takes, ((tt, tt), term_takes))

  pub order_takes : Takes false (order_with n inside)
  unfolding order_with
  order_takes = derived_takes n inside (λ r. sum_with n inside) rules.order (sum_takes, ((tt, (tt, (tt, tt))), sum_takes))

  pub equal_takes : Takes false (equal_with n inside)
  unfolding equal_with
  equal_takes = derived_takes n inside (λ r. order_with n inside) rules.equal (order_takes, ((tt, tt), order_takes))

  pub both_takes : Takes false (both_with n inside)
  unfolding both_with
  both_takes = derived_takes n inside (λ r. equal_with n inside) rules.both (equal_takes, (tt, equal_takes))

  pub expr_takes : Takes false (expr_with n inside)
  unfolding expr_with
  expr_takes = derived_takes n inside (λ r. both_with n inside) rules.expr (both_takes, (tt, both_takes))

pub shrinks_below : (n : ℕ) → InsideTakes (below n)
unfolding below rule_with
shrinks_below zero = record { type_name = λ ts t rest e. absurd cc; expr = λ ts t rest e. absurd cc; unary = λ ts t rest e. absurd cc }
shrinks_below (suc n) =
    let i = shrinks_below n in
    record {
      type_name = λ ts t rest e. type_takes n (below n) i ts t rest e;
      expr = λ ts t rest e. expr_takes n (below n) i ts t rest e;
      unary = λ ts t rest e. unary_takes n (below n) i ts t rest e;
    }

-- ---- what the loops read

module _ (n : ℕ) where
  pub or_part_shrinks : Shrinks (or_part_with n (below n))
  or_part_shrinks = takes_shrinks _ (form_takes n (below n) (λ r. both_with n (below n)) (or_form then rule rules.both) (tt, both_takes n (below n) (shrinks_below n)))

  pub and_part_shrinks : Shrinks (and_part_with n (below n))
  and_part_shrinks = takes_shrinks _ (form_takes n (below n) (λ r. equal_with n (below n)) (and_form then rule rules.equal) (tt, equal_takes n (below n) (shrinks_below n)))

  pub equality_part_shrinks : Shrinks (equality_part_with n (below n))
  equality_part_shrinks = takes_shrinks _ (form_takes n (below n) (λ r. order_with n (below n)) (equality_form then rule rules.order) ((tt, tt), order_takes n (below n) (shrinks_below n)))

  pub relational_part_shrinks : Shrinks (relational_part_with n (below n))
  relational_part_shrinks =
      takes_shrinks _ (form_takes n (below n) (λ r. sum_with n (below n)) (relational_form then rule rules.sum) ((tt, (tt, (tt, tt))), sum_takes n (below n) (shrinks_below n)))

  pub additive_part_shrinks : Shrinks (additive_part_with n (below n))
  additive_part_shrinks = takes_shrinks _ (form_takes n (below n) (λ r. term_with n (below n)) (additive_form then rule rules.term) ((tt, tt), term_takes n (below n) (shrinks_below n)))

  pub multiplicative_part_shrinks : Shrinks (multiplicative_part_with n (below n))
  multiplicative_part_shrinks =
      takes_shrinks _ (form_takes n (below n) (λ r. unary_with n (below n)) (multiplicative_form then rule rules.unary) ((tt, (tt, tt)), unary_takes n (below n) (shrinks_below n)))

  pub part_shrinks : Shrinks (λ us. part_with n (below n) us)
  part_shrinks = takes_shrinks _ (part_takes n (below n) (shrinks_below n))

  pub later_expression_shrinks : Shrinks (later_expression_with (below n))
  later_expression_shrinks = takes_shrinks _ (form_takes 0 (below n) (below n) (comma_form then rule rules.expr) (tt, (shrinks_below n).expr))
