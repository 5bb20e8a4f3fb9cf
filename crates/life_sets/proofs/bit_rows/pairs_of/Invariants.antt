use Rattle.life_sets.specs.BitSets.{contains_bit}
use Rattle.life_sets.specs.Listed.{IsListed}
use Rattle.life_sets.proofs.bit_rows.pairs_of.Given as goal

abbrev pub invariant-loop-l : goal.invariant-loop-l
invariant-loop-l x = IsListed (contains_bit x.locations x.elements x.words) x.l 0 x.all.items
