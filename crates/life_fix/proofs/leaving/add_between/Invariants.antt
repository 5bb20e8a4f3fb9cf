use Rattle.std.proofs.Common.{◌≡◌, ◌≤◌, length}
use Rattle.life_sets.specs.NumberSets.{holds}
use Rattle.life_fix.specs.Solving.{set_at, AddsBetween, AreSized}
use Rattle.life_fix.proofs.leaving.add_between.Given as goal

-- those so far have the set besides
abbrev pub invariant-loop-k : goal.invariant-loop-k
invariant-loop-k l = record {
  so_far : AddsBetween l.first l.k (holds l.gained) (set_at l.fn.dues) (set_at l.dues);
  low : l.first ≤ l.k;
  high : l.k ≤ l.past;
  sized : AreSized l.gained.limit l.dues;
  count : length l.dues ≡ length l.fn.dues;
}
