use Rattle.std.proofs.Common.{◌≡◌, ◌≤◌, ◌++◌, length, map, slice_get}
use Rattle.life_core.specs.Node.{spot_seen}
use Rattle.life_fix.specs.Solving.{pairs_in}
use Rattle.life_psets.specs.Sets.{in_turn, set_seen, sets_at}
use Rattle.life_psets.proofs.sets.push_solved.Given as goal

-- the sets before the points so far were added
abbrev pub invariant-loop-index : goal.invariant-loop-index
invariant-loop-index g l = record {
  within : l.index ≤ length l.spots;
  are : map set_seen l.out.items ≡ map set_seen l.fn.out.items
      ++ in_turn l.index (λ k. sets_at l.function l.solution.table k (slice_get (map spot_seen l.spots) k) (pairs_in g.R.Rows.has (slice_get l.solution.rows k)));
}
