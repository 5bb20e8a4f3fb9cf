use Rattle.life_stmt.proofs.FunctionReads.{function_reads}
use Rattle.life_stmt.proofs.functions.function.Goals as goal
use Rattle.life_expr.specs.Readers.{below}

pub returns : goal.returns
returns c = rw (← function_reads c.args.left (below c.args.left) c.args.tokens.now) c.function_by_parts.ensures
