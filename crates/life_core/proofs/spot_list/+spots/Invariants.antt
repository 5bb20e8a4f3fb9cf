use Rattle.std.proofs.Common.{◌≡◌, ◌++◌, map, drop}
use Rattle.life_core.specs.Node.{spot_seen}
use Rattle.life_core.specs.Tree.{spots, tree_of, trees}
use Rattle.life_core.proofs.spot_list.+spots.Given as goal

abbrev pub decreases-push_condition_spots : goal.decreases-push_condition_spots
decreases-push_condition_spots l = goal.size-push_condition_spots l

abbrev pub decreases-push_spots : goal.decreases-push_spots
decreases-push_spots l = goal.size-push_spots l

-- the points so far and those of what is left
abbrev pub invariant-push_spots-loop-item : goal.invariant-push_spots-loop-item
invariant-push_spots-loop-item l =
    map spot_seen l.found.items ++ spots (trees (map tree_of (drop l.item-index l.item-items)))
    ≡ map spot_seen l.fn.found.items ++ spots (tree_of l.s)
