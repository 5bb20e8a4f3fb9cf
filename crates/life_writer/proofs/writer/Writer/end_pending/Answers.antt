use Rattle.std.proofs.Common.{sym, arith}
use Rattle.life_writer.specs.Views.{state_of}
use Rattle.life_writer.proofs.NothingEnds.{nothing_pending}
use Rattle.life_writer.proofs.writer.Writer.end_pending.Goals as goal

pub returns-then-len-before : goal.returns-then-len-before
unfolding state_of
returns-then-len-before c = sym (nothing_pending c.args.before c.args.place (state_of c.args.self.now) (omega arith))
