use Rattle.std.proofs.Common.{◌≡◌, ◌-◌, drop, map}
use Rattle.life_core.specs.Function.{function_of}
use Rattle.life_core.specs.Tree.{tree_of, trees}
use Rattle.life_pset.specs.Counts.{caused_count}
use Rattle.life_pset.proofs.caused_count.+caused.Given as goal

abbrev pub decreases-room_after_caused : goal.decreases-room_after_caused
decreases-room_after_caused l = goal.size-room_after_caused l

abbrev pub decreases-room_after_condition : goal.decreases-room_after_condition
decreases-room_after_condition l = goal.size-room_after_condition l

-- the elements of what is left take their room of what is left
abbrev pub invariant-room_after_caused-loop-item : goal.invariant-room_after_caused-loop-item
invariant-room_after_caused-loop-item l =
    let count = caused_count (function_of l.f) in
    l.left - count (trees (map tree_of (drop l.item-index l.item-items))) ≡ l.room - count (tree_of l.s)
