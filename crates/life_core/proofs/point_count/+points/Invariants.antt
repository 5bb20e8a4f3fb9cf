use Rattle.std.proofs.Common.{◌≡◌, ◌+◌, map, drop}
use Rattle.life_core.specs.Tree.{size, tree_of, trees}
use Rattle.life_core.proofs.point_count.+points.Given as goal

abbrev pub decreases-points_in : goal.decreases-points_in
decreases-points_in l = goal.size-points_in l

abbrev pub decreases-points_in_condition : goal.decreases-points_in_condition
decreases-points_in_condition l = goal.size-points_in_condition l

-- the points so far and those of what is left
abbrev pub invariant-points_in-loop-item : goal.invariant-points_in-loop-item
invariant-points_in-loop-item l = l.sum + size (trees (map tree_of (drop l.item-index l.item-items))) ≡ size (tree_of l.s)
