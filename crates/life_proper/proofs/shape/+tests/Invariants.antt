use Rattle.std.proofs.Common.{◌≡◌, drop, map}
use Rattle.life_core.specs.Shape.{tests_straight}
use Rattle.life_core.specs.Tree.{tree_of, trees}
use Rattle.life_proper.proofs.shape.+tests.Given as goal

abbrev pub decreases-test_straight : goal.decreases-test_straight
decreases-test_straight l = goal.size-test_straight l

abbrev pub decreases-tests_straight : goal.decreases-tests_straight
decreases-tests_straight l = goal.size-tests_straight l

-- what is left decides
abbrev pub invariant-tests_straight-loop-item : goal.invariant-tests_straight-loop-item
invariant-tests_straight-loop-item l = tests_straight (trees (map tree_of (drop l.item-index l.item-items))) ≡ tests_straight (tree_of l.s)
