use Rattle.life_sets.specs.BitSets.{contains_bit}
use Rattle.life_sets.specs.Listed.{IsListed}
use Rattle.life_sets.proofs.bit_rows.push_word.Given as goal

abbrev pub invariant-loop-e : goal.invariant-loop-e
invariant-loop-e x = IsListed (contains_bit x.locations x.elements x.words) x.l x.e x.all.items
