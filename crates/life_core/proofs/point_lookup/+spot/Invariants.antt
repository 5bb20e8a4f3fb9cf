use Rattle.std.proofs.Common.{◌≡◌, ◌<◌, ◌^◌, map, drop}
use Rattle.life_core.specs.Columns.{spot_in}
use Rattle.life_core.specs.Tree.{size, tree_of, trees}
use Rattle.life_core.proofs.point_lookup.+spot.Given as goal

abbrev pub decreases-spot_in : goal.decreases-spot_in
decreases-spot_in l = goal.size-spot_in l

abbrev pub decreases-spot_in_condition : goal.decreases-spot_in_condition
decreases-spot_in_condition l = goal.size-spot_in_condition l

-- what is sought is in what is left
abbrev pub invariant-spot_in-loop-item : goal.invariant-spot_in-loop-item
invariant-spot_in-loop-item l =
    let rest = trees (map tree_of (drop l.item-index l.item-items)) in
    record { fits : size rest < 2 ^ 32; same : spot_in rest l.left ≡ spot_in (tree_of l.s) l.k }
