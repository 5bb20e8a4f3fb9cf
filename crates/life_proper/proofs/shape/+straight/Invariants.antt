use Rattle.std.proofs.Common.{◌≡◌, drop, map}
use Rattle.life_core.specs.Shape.{is_straight}
use Rattle.life_core.specs.Tree.{tree_of, trees}
use Rattle.life_proper.proofs.shape.+straight.Given as goal

abbrev pub decreases-is_straight : goal.decreases-is_straight
decreases-is_straight l = goal.size-is_straight l

-- what is left decides
abbrev pub invariant-loop-item : goal.invariant-loop-item
invariant-loop-item l = is_straight (trees (map tree_of (drop l.item-index l.item-items))) ≡ is_straight (tree_of l.s)
