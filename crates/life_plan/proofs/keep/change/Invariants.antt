use Rattle.std.proofs.Common.{◌≡◌}
use Rattle.life_sets.specs.NumberSets.{holds}
use Rattle.life_plan.specs.Numbered.{IsChangedBy}
use Rattle.life_plan.specs.Tabulated.{Gathers}
use Rattle.life_plan.proofs.keep.change.Given as goal

abbrev pub invariant-loop-becoming : goal.invariant-loop-becoming
invariant-loop-becoming l = record {
  limit : l.after.limit ≡ l.before.limit;
  each : Gathers (IsChangedBy l.changes (holds l.before)) l.becoming-index (holds l.fn.after) (holds l.after);
}
