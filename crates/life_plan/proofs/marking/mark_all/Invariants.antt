use Rattle.std.proofs.Common.{◌≡◌, ℕ, false, length}
use Rattle.std.specs.Prelude.{IsTrue}
use Rattle.life_sets.specs.NumberSets.{holds}
use Rattle.life_plan.specs.Crossing.{crossing_in}
use Rattle.life_plan.specs.Numbered.{MarksNumber}
use Rattle.life_plan.specs.Tabulated.{Gathers}
use Rattle.life_plan.proofs.marking.mark_all.Given as goal

abbrev pub invariant-loop-d : goal.invariant-loop-d
invariant-loop-d l = record {
  limit : l.mask.limit ≡ length l.context.table.now.elements;
  each : Gathers (λ d e. IsTrue (holds l.targets d) × MarksNumber (crossing_in l.context) d e) l.d (holds l.fn.mask) (holds l.mask);
  grew : l.grew ≡ false → (n : ℕ) → IsTrue (holds l.mask n) → IsTrue (holds l.fn.mask n);
}
