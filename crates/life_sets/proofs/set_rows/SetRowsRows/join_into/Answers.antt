use Rattle.life_sets.specs.PairSets.{contains_pair}
use Rattle.life_sets.proofs.PairLemmas.{among_within, joined_all}
use Rattle.life_sets.proofs.set_rows.SetRowsRows.join_into.Goals as goal

pub invariant_of-into : goal.invariant_of-into
invariant_of-into c =
    let mine = c.args.self.now in
    let into = c.args.into.now in
    record { within = among_within into.locations into.elements mine.locations mine.elements mine.pairs into.pairs c.join_pairs.new.into c.requires.locations c.requires.elements mine.within into.within c.join_pairs.ensures.among }

pub returns-clause-joined : goal.returns-clause-joined
returns-clause-joined c = λ l e. joined_all c.args.self.now.pairs (contains_pair c.args.into.now.pairs) (contains_pair c.join_pairs.new.into) c.in_ok-gained.ensures.joined l e
