use Rattle.life_stmt.proofs.Below.{below_rule}
use Rattle.life_stmt.proofs.targets.+targets.Goals as goal
use Rattle.life_tree.specs.Rules as rules

pub target_below-returns : goal.target_below-returns
unfolding Rattle.life_expr.specs.Readers.rule_with
target_below-returns t c = rw (← below_rule c.args.left rules.target c.args.tokens.now c.requires) c.target.ensures
