use Rattle.std.proofs.Common.{◌≡◌, ◌<◌, ℕ, true}
use Rattle.life_sets.specs.NumberSets.{holds}
use Rattle.life_plan.proofs.edge_transfer.all_numbers.Given as goal

abbrev pub invariant-loop-n : goal.invariant-loop-n
invariant-loop-n l = record {
  each : (m : ℕ) → m < l.n → holds l.set m ≡ true;
  limit : l.set.limit ≡ l.limit;
}
