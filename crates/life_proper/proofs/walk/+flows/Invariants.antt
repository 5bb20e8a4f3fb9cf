use Rattle.std.proofs.Common.{◌≡◌, drop, map}
use Rattle.life_core.specs.Function.{function_of}
use Rattle.life_core.specs.Tree.{tree_of, trees}
use Rattle.life_proper.specs.Checking.{before_next, flow, joined}
use Rattle.life_proper.specs.Seen.{flow_seen, state_seen}
use Rattle.life_proper.proofs.walk.+flows.Given as goal

abbrev pub decreases-condition_flow : goal.decreases-condition_flow
decreases-condition_flow l = goal.size-condition_flow l

abbrev pub decreases-stmt_flow : goal.decreases-stmt_flow
decreases-stmt_flow l = goal.size-stmt_flow l

-- the ways so far and those of what is left
abbrev pub invariant-stmt_flow-loop-item : goal.invariant-stmt_flow-loop-item
invariant-stmt_flow-loop-item l =
    let types = l.at.types.now in
    let f = function_of l.at.function.now in
    let w = flow_seen l.ways in
    joined (before_next w) (flow types f (trees (map tree_of (drop l.item-index l.item-items))) w.next)
    ≡ flow types f (tree_of l.s) (state_seen l.fn.here)
