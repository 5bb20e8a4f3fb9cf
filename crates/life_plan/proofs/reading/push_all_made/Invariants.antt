use Rattle.std.proofs.Common.{◌⊎◌, ◌↔◌, ◌-◌}
use Rattle.std.specs.Prelude.{Contains}
use Rattle.life_pset.specs.declared.element.Fact.{Fact}
use Rattle.life_sets.specs.NumberSets.{holds}
use Rattle.life_plan.specs.Crossing.{crossing_in}
use Rattle.life_plan.specs.Numbered.{IsMadeBelow}
use Rattle.life_plan.proofs.reading.push_all_made.Given as goal

abbrev pub invariant-loop-from : goal.invariant-loop-from
invariant-loop-from l = (x : Fact) → Contains l.facts.items x ↔ (Contains l.fn.facts.items x ⊎ IsMadeBelow (crossing_in l.context) l.location (holds l.elements) l.from x)

abbrev pub decreases-loop-from : goal.decreases-loop-from
decreases-loop-from l = l.end - l.from
