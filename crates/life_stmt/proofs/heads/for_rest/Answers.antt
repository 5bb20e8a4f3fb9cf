use Rattle.life_stmt.proofs.StatementReads.{for_rest_reads}
use Rattle.life_stmt.proofs.heads.for_rest.Goals as goal
use Rattle.life_expr.specs.Readers.{below}

pub returns : goal.returns
returns c = rw (← for_rest_reads c.args.left (below c.args.left) c.args.tokens.now) c.for_rest_by_parts.ensures
