use Rattle.std.proofs.Common.{◌≡◌, ℕ, false, length, option_map, slice_get}
use Rattle.std.specs.Prelude.{IsTrue}
use Rattle.life_core.specs.Node.{spot_seen}
use Rattle.life_sets.specs.NumberSets.{holds}
use Rattle.life_rules.specs.Staying.{marks}
use Rattle.life_plan.specs.Numbered.{passes}
use Rattle.life_plan.specs.Tabulated.{Tabulates}
use Rattle.life_plan.proofs.marking.mark_under.Given as goal

abbrev pub invariant-loop-e : goal.invariant-loop-e
invariant-loop-e l = record {
  limit : l.mask.limit ≡ length l.context.table.now.elements;
  each : Tabulates (λ n. passes (marks (option_map spot_seen l.context.spot) l.target) (slice_get l.context.table.now.elements n)) l.e (holds l.fn.mask) (holds l.mask);
  grew : l.grew ≡ false → (n : ℕ) → IsTrue (holds l.mask n) → IsTrue (holds l.fn.mask n);
}
