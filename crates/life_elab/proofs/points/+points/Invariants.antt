use Rattle.std.proofs.Common.{◌≡◌, ◌-◌, drop, map}
use Rattle.life_core.specs.Tree.{size, tree_of, trees}
use Rattle.life_elab.proofs.points.+points.Given as goal

abbrev pub decreases-room_after : goal.decreases-room_after
decreases-room_after l = goal.size-room_after l

abbrev pub decreases-room_after_condition : goal.decreases-room_after_condition
decreases-room_after_condition l = goal.size-room_after_condition l

-- the points of what is left take their room of what is left
abbrev pub invariant-room_after-loop-item : goal.invariant-room_after-loop-item
invariant-room_after-loop-item l =
    l.left - size (trees (map tree_of (drop l.item-index l.item-items))) ≡ l.room - size (tree_of l.s)
