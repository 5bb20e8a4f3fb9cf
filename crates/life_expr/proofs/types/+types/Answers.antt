use Rattle.life_expr.proofs.Below.{below_rule}
use Rattle.life_expr.proofs.types.+types.Goals as goal
use Rattle.life_tree.specs.Rules as rules

pub type_below-returns : goal.type_below-returns
unfolding Rattle.life_expr.specs.Readers.rule_with
type_below-returns t c = rw (← below_rule c.args.left rules.type_name c.args.tokens.now c.requires) c.type_name.ensures
