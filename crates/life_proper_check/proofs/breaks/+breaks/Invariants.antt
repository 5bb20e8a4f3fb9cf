use Rattle.std.proofs.Common.{◌≡◌, drop, map}
use Rattle.life_core.specs.Shape.{breaks_inside}
use Rattle.life_core.specs.Tree.{tree_of, trees}
use Rattle.life_proper_check.proofs.breaks.+breaks.Given as goal

abbrev pub decreases-breaks_inside : goal.decreases-breaks_inside
decreases-breaks_inside l = goal.size-breaks_inside l

abbrev pub decreases-condition_breaks_inside : goal.decreases-condition_breaks_inside
decreases-condition_breaks_inside l = goal.size-condition_breaks_inside l

-- what is left decides
abbrev pub invariant-breaks_inside-loop-item : goal.invariant-breaks_inside-loop-item
invariant-breaks_inside-loop-item l = breaks_inside l.in_loop (trees (map tree_of (drop l.item-index l.item-items))) ≡ breaks_inside l.in_loop (tree_of l.s)
