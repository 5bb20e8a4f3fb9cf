-- The hidden iterators of a loop over a range, as definitions see them.
use Rattle.life_elab.specs.RangeForms.{Iterators}
use Rattle.life_elab.specs.declared.ranges.Iterators.{Iterators as Hidden}

abbrev pub iterators_of : Hidden → Iterators
iterators_of it = record { first = it.first; last = it.last }
