use Rattle.std.proofs.Common.{◌*◌, min}
use Rattle.life_sets.specs.BitSets.{contains_bit}
use Rattle.life_sets.specs.Listed.{IsListed}
use Rattle.life_sets.proofs.bit_rows.push_location.Given as goal

abbrev pub invariant-loop-k : goal.invariant-loop-k
invariant-loop-k x = IsListed (contains_bit x.locations x.elements x.words) x.l (min (x.k * 64) x.elements) x.all.items
