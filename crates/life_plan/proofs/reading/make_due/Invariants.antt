use Rattle.std.proofs.Common.{◌≡◌}
use Rattle.life_sets.specs.NumberSets.{holds}
use Rattle.life_rules.specs.FactSets.{GainsSome}
use Rattle.life_plan.specs.Carried.{AreMadeUpTo}
use Rattle.life_plan.specs.Crossing.{crossing_in}
use Rattle.life_plan.specs.Noted.{Notes}
use Rattle.life_plan.specs.Numbered.{AreReadings, HaveSameLocations, MakesFrom}
use Rattle.life_plan.proofs.reading.make_due.Given as goal

abbrev pub invariant-loop-k : goal.invariant-loop-k
invariant-loop-k g l =
    let has = g.R.Rows.has in
    record {
      same : HaveSameLocations l.fn.readings.items l.readings.items;
      are : AreReadings (crossing_in l.context) l.readings.items;
      made : AreMadeUpTo (crossing_in l.context) l.k l.readings.items (holds l.due) (has l.from) (has l.into);
      some : GainsSome (has l.fn.into) (has l.into) (MakesFrom (crossing_in l.context) l.fn.readings.items (has l.from));
      noted : Notes (has l.fn.into) (has l.into) (holds l.fn.gained) (holds l.gained);
      locations : g.R.Rows.location_limit l.into ≡ g.R.Rows.location_limit l.fn.into;
      elements : g.R.Rows.element_limit l.into ≡ g.R.Rows.element_limit l.fn.into;
      gained : l.gained.limit ≡ l.fn.gained.limit;
      limit : l.elements.limit ≡ l.fn.elements.limit;
    }
