use Rattle.std.proofs.Common.{sym, arith}
use Rattle.life_writer.specs.Views.{state_of}
use Rattle.life_writer.proofs.NothingEnds.{nothing_living}
use Rattle.life_writer.proofs.writer.Writer.end_past.Goals as goal

pub returns-then-len-outside : goal.returns-then-len-outside
unfolding state_of
returns-then-len-outside c = sym (nothing_living c.args.outside c.args.place (state_of c.args.self.now) (omega arith))
