use Rattle.std.proofs.Common.{◌-◌, length, arith}
use Rattle.life_writer.proofs.Seen.{last_seen}
use Rattle.life_writer.proofs.parts.last_of.Goals as goal

pub returns-clause-form : goal.returns-clause-form
returns-clause-form c = last_seen c.args.operands.now (length c.args.operands.now - 1) c.index-operands-count.result (omega arith) c.index-operands-count.is
