use Rattle.std.proofs.Common.{◌-◌}
use Rattle.life_sets.specs.NumberSets.{holds}
use Rattle.life_fix.proofs.ToldFacts.{Adds, IsOfBelow}
use Rattle.life_fix.proofs.told.push_elements.Given as goal

-- those of the elements so far were added
abbrev pub invariant-loop-from : goal.invariant-loop-from
invariant-loop-from l = Adds (IsOfBelow l.table l.location (holds l.elements) l.from) l.fn.facts.items l.facts.items

abbrev pub decreases-loop-from : goal.decreases-loop-from
decreases-loop-from l = l.end - l.from
