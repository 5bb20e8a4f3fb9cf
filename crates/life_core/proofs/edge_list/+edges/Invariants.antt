use Rattle.std.proofs.Common.{◌≡◌, ◌+◌, ◌++◌, map, drop}
use Rattle.life_core.specs.Columns.{edges_in}
use Rattle.life_core.specs.Tree.{size, tree_of, trees}
use Rattle.life_core.proofs.edge_list.+edges.Given as goal

abbrev pub decreases-push_condition_edges : goal.decreases-push_condition_edges
decreases-push_condition_edges l = goal.size-push_condition_edges l

abbrev pub decreases-push_edges : goal.decreases-push_edges
decreases-push_edges l = goal.size-push_edges l

-- the edges so far and those of what is left
abbrev pub invariant-push_edges-loop-i : goal.invariant-push_edges-loop-i
invariant-push_edges-loop-i l =
    let rest = trees (map tree_of (drop l.i l.item-items)) in
    record {
      points : l.here + size rest ≡ l.at + size (tree_of l.s);
      edges : l.edges.items ++ edges_in rest l.here l.exits ≡ l.fn.edges.items ++ edges_in (tree_of l.s) l.at l.exits;
    }
