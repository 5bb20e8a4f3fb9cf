use Rattle.life_stmt.proofs.Below.{below_rule}
use Rattle.life_stmt.proofs.heads.expr_inside.Goals as goal
use Rattle.life_tree.specs.Rules as rules

pub returns : goal.returns
unfolding Rattle.life_expr.specs.Readers.rule_with
returns c = rw (← below_rule c.args.left rules.expr c.args.tokens.now c.requires) c.boxed_expr.ensures
