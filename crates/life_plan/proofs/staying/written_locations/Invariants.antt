use Rattle.std.proofs.Common.{◌≡◌, false, length, option_map, slice_get}
use Rattle.life_core.specs.Node.{spot_seen}
use Rattle.life_sets.specs.NumberSets.{holds}
use Rattle.life_rules.specs.Staying.{spot_writes}
use Rattle.life_plan.specs.Numbered.{passes}
use Rattle.life_plan.specs.Tabulated.{Tabulates}
use Rattle.life_plan.proofs.staying.written_locations.Given as goal

abbrev pub invariant-loop-n : goal.invariant-loop-n
invariant-loop-n l = record {
  limit : l.set.limit ≡ length l.context.table.now.locations;
  each : Tabulates (λ n. passes (spot_writes (option_map spot_seen l.context.spot)) (slice_get l.context.table.now.locations n)) l.n (λ n. false) (holds l.set);
}
