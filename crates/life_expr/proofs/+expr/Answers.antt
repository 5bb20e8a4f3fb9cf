use Rattle.std.proofs.Common.{◌≡◌, map, true, false}
use Rattle.std.proofs.lemmas.Result.{err_from_is_err_and}
use Rattle.life_expr.proofs.Below.{below_rule}
use Rattle.life_expr.proofs.Chained.{expr_alone}
use Rattle.life_expr.proofs.ExprShrinks.{additive_part_shrinks, and_part_shrinks, equality_part_shrinks, later_expression_shrinks, multiplicative_part_shrinks, or_part_shrinks, part_shrinks, relational_part_shrinks}
use Rattle.life_expr.proofs.Loop.{ends, fails, goes_on, reads_on}
use Rattle.life_expr.proofs.+expr.Goals as goal
use Rattle.life_expr.specs.Exprs as spec
use Rattle.life_expr.specs.Exprs.{additive_form, and_form, comma_form, equality_form, multiplicative_form, or_form, relational_form, starts_operator}
use Rattle.life_expr.specs.Heads.{heads}
use Rattle.life_expr.specs.Read.{starts}
use Rattle.life_expr.specs.Readers.{below}
use Rattle.life_tree.proofs.SeparatedTrees.{as_many_more, one_more}
use Rattle.life_tree.specs.Grammar.{rule}
use Rattle.life_tree.specs.Rules as rules
use Rattle.life_tree.specs.Tree.{◌⨾◌}
use Rattle.life_tree.specs.Views.{additive_part_tree, and_part_tree, at, equality_part_tree, expr_tree, later_trees, multiplicative_part_tree, or_part_tree, postfix_part_tree, relational_part_tree, unary_tree}
use Rattle.life_tree.specs.declared.fixed.TheConstants.{COMMA}

pub lists::expr_below-returns : goal.lists::expr_below-returns
unfolding Rattle.life_expr.specs.Readers.rule_with
lists::expr_below-returns t c = rw (← below_rule c.args.left rules.expr c.args.tokens.now c.requires) c.expr.ensures

pub operands::unary_below-returns : goal.operands::unary_below-returns
unfolding Rattle.life_expr.specs.Readers.rule_with
operands::unary_below-returns t c = rw (← below_rule c.args.left rules.unary c.args.tokens.now c.requires) c.unary.ensures

pub chains::expr-returns : goal.chains::expr-returns
chains::expr-returns t c =
    let h : starts_operator c.in_ok-first.rest.now ≡ false = cc in
    expr_alone c.args.left (below c.args.left) (unary_tree c.in_ok-first.first) (expr_tree c.alone.result) c.args.tokens.now c.in_ok-first.rest.now c.in_ok-first.ensures h c.alone.ensures

pub chains::or_parts-returns-in_err-next : goal.chains::or_parts-returns-in_err-next
chains::or_parts-returns-in_err-next t c =
    let e = err_from_is_err_and c.from_residual-in_err-next.result c.from_residual-in_err-next.ensures.1 in
    let h : starts (heads or_form) c.list.rest.now ≡ true = cc in
    rw (e.1, e.2) (fails (heads or_form) (or_part_shrinks c.args.left) (map or_part_tree c.list.list.items) c.list.rest.now (spec.or_parts_with c.args.left (below c.args.left) c.args.tokens.now) c.in_err-next.field-0.0 c.list.invariant h c.in_err-next.ensures)

pub chains::or_parts-list-smaller : goal.chains::or_parts-list-smaller
chains::or_parts-list-smaller t c = (or_part_shrinks c.args.left).shrinks c.list.rest.now (or_part_tree c.in_ok-next.next) c.in_ok-next.after.now c.in_ok-next.ensures

pub chains::or_parts-list-preserved : goal.chains::or_parts-list-preserved
chains::or_parts-list-preserved t c =
    let h : starts (heads or_form) c.list.rest.now ≡ true = cc in
    goes_on (heads or_form) (or_part_shrinks c.args.left) or_part_tree c.list.list.items c.push.new.self.items c.in_ok-next.next c.list.rest.now c.in_ok-next.after.now (spec.or_parts_with c.args.left (below c.args.left) c.args.tokens.now) c.in_ok-push.ensures.items c.list.invariant h c.in_ok-next.ensures

pub chains::or_parts-returns : goal.chains::or_parts-returns
chains::or_parts-returns t c =
    let h : starts (heads or_form) c.list.rest.now ≡ false = cc in
    ends (heads or_form) (or_part_shrinks c.args.left) (map or_part_tree c.list.list.items) c.list.rest.now (spec.or_parts_with c.args.left (below c.args.left) c.args.tokens.now) c.list.invariant h

pub chains::and_parts-returns-in_err-next : goal.chains::and_parts-returns-in_err-next
chains::and_parts-returns-in_err-next t c =
    let e = err_from_is_err_and c.from_residual-in_err-next.result c.from_residual-in_err-next.ensures.1 in
    let h : starts (heads and_form) c.list.rest.now ≡ true = cc in
    rw (e.1, e.2) (fails (heads and_form) (and_part_shrinks c.args.left) (map and_part_tree c.list.list.items) c.list.rest.now (spec.and_parts_with c.args.left (below c.args.left) c.args.tokens.now) c.in_err-next.field-0.0 c.list.invariant h c.in_err-next.ensures)

pub chains::and_parts-list-smaller : goal.chains::and_parts-list-smaller
chains::and_parts-list-smaller t c = (and_part_shrinks c.args.left).shrinks c.list.rest.now (and_part_tree c.in_ok-next.next) c.in_ok-next.after.now c.in_ok-next.ensures

pub chains::and_parts-list-preserved : goal.chains::and_parts-list-preserved
chains::and_parts-list-preserved t c =
    let h : starts (heads and_form) c.list.rest.now ≡ true = cc in
    goes_on (heads and_form) (and_part_shrinks c.args.left) and_part_tree c.list.list.items c.push.new.self.items c.in_ok-next.next c.list.rest.now c.in_ok-next.after.now (spec.and_parts_with c.args.left (below c.args.left) c.args.tokens.now) c.in_ok-push.ensures.items c.list.invariant h c.in_ok-next.ensures

pub chains::and_parts-returns : goal.chains::and_parts-returns
chains::and_parts-returns t c =
    let h : starts (heads and_form) c.list.rest.now ≡ false = cc in
    ends (heads and_form) (and_part_shrinks c.args.left) (map and_part_tree c.list.list.items) c.list.rest.now (spec.and_parts_with c.args.left (below c.args.left) c.args.tokens.now) c.list.invariant h

pub chains::equality_parts-returns-in_err-next : goal.chains::equality_parts-returns-in_err-next
chains::equality_parts-returns-in_err-next t c =
    let e = err_from_is_err_and c.from_residual-in_err-next.result c.from_residual-in_err-next.ensures.1 in
    let h : starts (heads equality_form) c.list.rest.now ≡ true = cc in
    rw (e.1, e.2) (fails (heads equality_form) (equality_part_shrinks c.args.left) (map equality_part_tree c.list.list.items) c.list.rest.now (spec.equality_parts_with c.args.left (below c.args.left) c.args.tokens.now) c.in_err-next.field-0.0 c.list.invariant h c.in_err-next.ensures)

pub chains::equality_parts-list-smaller : goal.chains::equality_parts-list-smaller
chains::equality_parts-list-smaller t c = (equality_part_shrinks c.args.left).shrinks c.list.rest.now (equality_part_tree c.in_ok-next.next) c.in_ok-next.after.now c.in_ok-next.ensures

pub chains::equality_parts-list-preserved : goal.chains::equality_parts-list-preserved
chains::equality_parts-list-preserved t c =
    let h : starts (heads equality_form) c.list.rest.now ≡ true = cc in
    goes_on (heads equality_form) (equality_part_shrinks c.args.left) equality_part_tree c.list.list.items c.push.new.self.items c.in_ok-next.next c.list.rest.now c.in_ok-next.after.now (spec.equality_parts_with c.args.left (below c.args.left) c.args.tokens.now) c.in_ok-push.ensures.items c.list.invariant h c.in_ok-next.ensures

pub chains::equality_parts-returns : goal.chains::equality_parts-returns
chains::equality_parts-returns t c =
    let h : starts (heads equality_form) c.list.rest.now ≡ false = cc in
    ends (heads equality_form) (equality_part_shrinks c.args.left) (map equality_part_tree c.list.list.items) c.list.rest.now (spec.equality_parts_with c.args.left (below c.args.left) c.args.tokens.now) c.list.invariant h

pub chains::relational_parts-returns-in_err-next : goal.chains::relational_parts-returns-in_err-next
chains::relational_parts-returns-in_err-next t c =
    let e = err_from_is_err_and c.from_residual-in_err-next.result c.from_residual-in_err-next.ensures.1 in
    let h : starts (heads relational_form) c.list.rest.now ≡ true = cc in
    rw (e.1, e.2) (fails (heads relational_form) (relational_part_shrinks c.args.left) (map relational_part_tree c.list.list.items) c.list.rest.now (spec.relational_parts_with c.args.left (below c.args.left) c.args.tokens.now) c.in_err-next.field-0.0 c.list.invariant h c.in_err-next.ensures)

pub chains::relational_parts-list-smaller : goal.chains::relational_parts-list-smaller
chains::relational_parts-list-smaller t c = (relational_part_shrinks c.args.left).shrinks c.list.rest.now (relational_part_tree c.in_ok-next.next) c.in_ok-next.after.now c.in_ok-next.ensures

pub chains::relational_parts-list-preserved : goal.chains::relational_parts-list-preserved
chains::relational_parts-list-preserved t c =
    let h : starts (heads relational_form) c.list.rest.now ≡ true = cc in
    goes_on (heads relational_form) (relational_part_shrinks c.args.left) relational_part_tree c.list.list.items c.push.new.self.items c.in_ok-next.next c.list.rest.now c.in_ok-next.after.now (spec.relational_parts_with c.args.left (below c.args.left) c.args.tokens.now) c.in_ok-push.ensures.items c.list.invariant h c.in_ok-next.ensures

pub chains::relational_parts-returns : goal.chains::relational_parts-returns
chains::relational_parts-returns t c =
    let h : starts (heads relational_form) c.list.rest.now ≡ false = cc in
    ends (heads relational_form) (relational_part_shrinks c.args.left) (map relational_part_tree c.list.list.items) c.list.rest.now (spec.relational_parts_with c.args.left (below c.args.left) c.args.tokens.now) c.list.invariant h

pub chains::additive_parts-returns-in_err-next : goal.chains::additive_parts-returns-in_err-next
chains::additive_parts-returns-in_err-next t c =
    let e = err_from_is_err_and c.from_residual-in_err-next.result c.from_residual-in_err-next.ensures.1 in
    let h : starts (heads additive_form) c.list.rest.now ≡ true = cc in
    rw (e.1, e.2) (fails (heads additive_form) (additive_part_shrinks c.args.left) (map additive_part_tree c.list.list.items) c.list.rest.now (spec.additive_parts_with c.args.left (below c.args.left) c.args.tokens.now) c.in_err-next.field-0.0 c.list.invariant h c.in_err-next.ensures)

pub chains::additive_parts-list-smaller : goal.chains::additive_parts-list-smaller
chains::additive_parts-list-smaller t c = (additive_part_shrinks c.args.left).shrinks c.list.rest.now (additive_part_tree c.in_ok-next.next) c.in_ok-next.after.now c.in_ok-next.ensures

pub chains::additive_parts-list-preserved : goal.chains::additive_parts-list-preserved
chains::additive_parts-list-preserved t c =
    let h : starts (heads additive_form) c.list.rest.now ≡ true = cc in
    goes_on (heads additive_form) (additive_part_shrinks c.args.left) additive_part_tree c.list.list.items c.push.new.self.items c.in_ok-next.next c.list.rest.now c.in_ok-next.after.now (spec.additive_parts_with c.args.left (below c.args.left) c.args.tokens.now) c.in_ok-push.ensures.items c.list.invariant h c.in_ok-next.ensures

pub chains::additive_parts-returns : goal.chains::additive_parts-returns
chains::additive_parts-returns t c =
    let h : starts (heads additive_form) c.list.rest.now ≡ false = cc in
    ends (heads additive_form) (additive_part_shrinks c.args.left) (map additive_part_tree c.list.list.items) c.list.rest.now (spec.additive_parts_with c.args.left (below c.args.left) c.args.tokens.now) c.list.invariant h

pub chains::multiplicative_parts-returns-in_err-next : goal.chains::multiplicative_parts-returns-in_err-next
chains::multiplicative_parts-returns-in_err-next t c =
    let e = err_from_is_err_and c.from_residual-in_err-next.result c.from_residual-in_err-next.ensures.1 in
    let h : starts (heads multiplicative_form) c.list.rest.now ≡ true = cc in
    rw (e.1, e.2) (fails (heads multiplicative_form) (multiplicative_part_shrinks c.args.left) (map multiplicative_part_tree c.list.list.items) c.list.rest.now (spec.multiplicative_parts_with c.args.left (below c.args.left) c.args.tokens.now) c.in_err-next.field-0.0 c.list.invariant h c.in_err-next.ensures)

pub chains::multiplicative_parts-list-smaller : goal.chains::multiplicative_parts-list-smaller
chains::multiplicative_parts-list-smaller t c = (multiplicative_part_shrinks c.args.left).shrinks c.list.rest.now (multiplicative_part_tree c.in_ok-next.next) c.in_ok-next.after.now c.in_ok-next.ensures

pub chains::multiplicative_parts-list-preserved : goal.chains::multiplicative_parts-list-preserved
chains::multiplicative_parts-list-preserved t c =
    let h : starts (heads multiplicative_form) c.list.rest.now ≡ true = cc in
    goes_on (heads multiplicative_form) (multiplicative_part_shrinks c.args.left) multiplicative_part_tree c.list.list.items c.push.new.self.items c.in_ok-next.next c.list.rest.now c.in_ok-next.after.now (spec.multiplicative_parts_with c.args.left (below c.args.left) c.args.tokens.now) c.in_ok-push.ensures.items c.list.invariant h c.in_ok-next.ensures

pub chains::multiplicative_parts-returns : goal.chains::multiplicative_parts-returns
chains::multiplicative_parts-returns t c =
    let h : starts (heads multiplicative_form) c.list.rest.now ≡ false = cc in
    ends (heads multiplicative_form) (multiplicative_part_shrinks c.args.left) (map multiplicative_part_tree c.list.list.items) c.list.rest.now (spec.multiplicative_parts_with c.args.left (below c.args.left) c.args.tokens.now) c.list.invariant h

pub operands::parts-returns-in_err-next : goal.operands::parts-returns-in_err-next
operands::parts-returns-in_err-next t c =
    let e = err_from_is_err_and c.from_residual.result c.from_residual.ensures.1 in
    let h : starts (heads (rule rules.part)) c.list.rest.now ≡ true = cc in
    rw (e.1, e.2) (fails (heads (rule rules.part)) (part_shrinks c.args.left) (map postfix_part_tree c.list.list.items) c.list.rest.now (spec.parts_with c.args.left (below c.args.left) c.args.tokens.now) c.in_err-next.field-0.0 c.list.invariant h c.in_err-next.ensures)

pub operands::parts-list-smaller : goal.operands::parts-list-smaller
operands::parts-list-smaller t c = (part_shrinks c.args.left).shrinks c.list.rest.now (postfix_part_tree c.in_ok-next.next) c.in_ok-next.after.now c.in_ok-next.ensures

pub operands::parts-list-preserved : goal.operands::parts-list-preserved
operands::parts-list-preserved t c =
    let h : starts (heads (rule rules.part)) c.list.rest.now ≡ true = cc in
    goes_on (heads (rule rules.part)) (part_shrinks c.args.left) postfix_part_tree c.list.list.items c.push.new.self.items c.in_ok-next.next c.list.rest.now c.in_ok-next.after.now (spec.parts_with c.args.left (below c.args.left) c.args.tokens.now) c.in_ok-push.ensures.items c.list.invariant h c.in_ok-next.ensures

pub operands::parts-returns : goal.operands::parts-returns
operands::parts-returns t c =
    let h : starts (heads (rule rules.part)) c.list.rest.now ≡ false = cc in
    ends (heads (rule rules.part)) (part_shrinks c.args.left) (map postfix_part_tree c.list.list.items) c.list.rest.now (spec.parts_with c.args.left (below c.args.left) c.args.tokens.now) c.list.invariant h

pub lists::later_expressions-returns-in_err-next : goal.lists::later_expressions-returns-in_err-next
lists::later_expressions-returns-in_err-next t c =
    let e = err_from_is_err_and c.from_residual.result c.from_residual.ensures.1 in
    let h : starts (heads comma_form) c.list.rest.now ≡ true = cc in
    rw (e.1, e.2) (fails (heads comma_form) (later_expression_shrinks c.args.left) (later_trees c.list.commas.items (map expr_tree c.list.list.items)) c.list.rest.now (spec.later_expressions_with (below c.args.left) c.args.tokens.now) c.in_err-next.field-0.0 c.list.invariant.reads h c.in_err-next.ensures)

pub lists::later_expressions-list-smaller : goal.lists::later_expressions-list-smaller
lists::later_expressions-list-smaller t c = (later_expression_shrinks c.args.left).shrinks c.list.rest.now (at COMMA c.in_ok-next.comma ⨾ expr_tree c.in_ok-next.next) c.in_ok-next.after.now c.in_ok-next.ensures

pub lists::later_expressions-list-preserved : goal.lists::later_expressions-list-preserved
lists::later_expressions-list-preserved t c =
    let h : starts (heads comma_form) c.list.rest.now ≡ true = cc in
    let commas = c.in_ok-push.ensures.items in
    let items = c.in_ok-push-2.ensures.items in
    record {
      even = as_many_more expr_tree _ _ _ _ _ _ commas items c.list.invariant.even;
      reads = reads_on (heads comma_form) (later_expression_shrinks c.args.left) _ _ (at COMMA c.in_ok-next.comma ⨾ expr_tree c.in_ok-next.next) c.list.rest.now c.in_ok-next.after.now (spec.later_expressions_with (below c.args.left) c.args.tokens.now)
          (one_more expr_tree _ _ _ _ _ _ commas items c.list.invariant.even) c.list.invariant.reads h c.in_ok-next.ensures;
    }

pub lists::later_expressions-returns : goal.lists::later_expressions-returns
lists::later_expressions-returns t c =
    let h : starts (heads comma_form) c.list.rest.now ≡ false = cc in
    ends (heads comma_form) (later_expression_shrinks c.args.left) (later_trees c.list.commas.items (map expr_tree c.list.list.items)) c.list.rest.now (spec.later_expressions_with (below c.args.left) c.args.tokens.now) c.list.invariant.reads h
