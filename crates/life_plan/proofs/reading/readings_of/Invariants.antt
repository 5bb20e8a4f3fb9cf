use Rattle.std.proofs.Common.{◌≡◌, ◌<◌, ◌↔◌, ℕ, Some, false, option_map, slice_get}
use Rattle.std.specs.Prelude.{IsTrue}
use Rattle.life_core.specs.Node.{spot_seen}
use Rattle.life_sets.specs.NumberSets.{holds}
use Rattle.life_rules.specs.Staying.{spot_reads}
use Rattle.life_plan.specs.Crossing.{crossing_in}
use Rattle.life_plan.specs.Numbered.{passes, AreSizedReadings, IsReadAt}
use Rattle.life_plan.specs.declared.reading.Reading.{Reading}
use Rattle.life_plan.proofs.reading.readings_of.Given as goal

abbrev pub invariant-loop-n : goal.invariant-loop-n
invariant-loop-n l = record {
  sized : AreSizedReadings (crossing_in l.context) l.readings.items;
  each : (n : ℕ) → IsReadAt l.readings.items n ↔ ((n < l.n) × IsTrue (passes (spot_reads (option_map spot_seen l.context.spot)) (slice_get l.context.table.now.locations n)));
  unseen : (k : ℕ) (r : Reading) → slice_get l.readings.items k ≡ Some r → (e : ℕ) → holds r.seen e ≡ false;
}
