use Rattle.life_sets.specs.BitSets.{contains_bit}
use Rattle.life_sets.proofs.ListedLemmas.{listed_none}
use Rattle.life_sets.proofs.bit_rows.pairs_of.Goals as goal

pub loop-l-init : goal.loop-l-init
loop-l-init c = rw c.new-all.ensures.items (listed_none (contains_bit c.args.locations c.args.elements c.args.words.now))
