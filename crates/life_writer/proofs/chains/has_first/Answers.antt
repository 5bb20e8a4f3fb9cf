use Rattle.life_writer.proofs.FirstOperands.{some_first}
use Rattle.life_writer.proofs.chains.has_first.Goals as goal

pub returns-in-len1-up : goal.returns-in-len1-up
returns-in-len1-up c = some_first c.args.arguments.now c.in-len1-up.len_at_least
