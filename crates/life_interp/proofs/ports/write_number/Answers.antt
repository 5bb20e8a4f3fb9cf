use Rattle.life_interp.proofs.WalkLemmas.{untouched}
use Rattle.life_interp.proofs.ports.write_number.Goals as goal

pub returns-in-Err : goal.returns-in-Err
returns-in-Err g c = untouched (g.O.Sink.taken c.args.out.now) (g.O.Sink.faults c.args.out.now)

pub returns-in-Err-format : goal.returns-in-Err-format
returns-in-Err-format g c = untouched (g.O.Sink.taken c.args.out.now) (g.O.Sink.faults c.args.out.now)
