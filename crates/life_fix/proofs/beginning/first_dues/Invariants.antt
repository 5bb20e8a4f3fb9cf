use Rattle.std.proofs.Common.{◌≡◌, ◌<◌, ℕ, length}
use Rattle.life_fix.specs.Solving.{set_at, AreSized, IsFirstDue}
use Rattle.life_fix.proofs.beginning.first_dues.Given as goal

abbrev pub invariant-loop-k : goal.invariant-loop-k
invariant-loop-k l = record {
  count : length l.dues.items ≡ l.k;
  sized : AreSized (length l.flow.table.now.locations) l.dues.items;
  due : (j : ℕ) → j < l.k → IsFirstDue (length l.flow.table.now.locations) l.flow.edges.now l.plans j (set_at l.dues.items j);
}
