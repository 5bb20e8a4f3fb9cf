use Rattle.std.proofs.Common.{◌≡◌, ◌<◌, ℕ}
use Rattle.std.specs.Prelude.{IsTrue}
use Rattle.life_sets.specs.NumberSets.{holds}
use Rattle.life_fix.proofs.beginning.all_below.Given as goal

abbrev pub invariant-loop-n : goal.invariant-loop-n
invariant-loop-n l = record {
  all : (m : ℕ) → m < l.n → IsTrue (holds l.all m);
  limit : l.all.limit ≡ l.limit;
}
