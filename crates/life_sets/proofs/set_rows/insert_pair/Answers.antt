use Rattle.life_sets.proofs.PairLemmas.{inserted}
use Rattle.life_sets.proofs.set_rows.insert_pair.Goals as goal

pub returns-clause-added : goal.returns-clause-added
returns-clause-added c = inserted c.args.pairs.now c.insert.new.self c.args.l c.args.e c.in_ok-fresh.ensures.updates
