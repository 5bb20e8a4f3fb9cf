use Rattle.std.proofs.Common.{◌≡◌, ◌+◌, ◌++◌, map, drop}
use Rattle.life_core.specs.Link.{link_seen}
use Rattle.life_core.specs.Linked.{linked}
use Rattle.life_core.specs.Tree.{size, tree_of, trees}
use Rattle.life_core.proofs.link_list.+links.Given as goal

abbrev pub decreases-push_condition_links : goal.decreases-push_condition_links
decreases-push_condition_links l = goal.size-push_condition_links l

abbrev pub decreases-push_links : goal.decreases-push_links
decreases-push_links l = goal.size-push_links l

-- the points so far and those of what is left
abbrev pub invariant-push_links-loop-i : goal.invariant-push_links-loop-i
invariant-push_links-loop-i l =
    let rest = trees (map tree_of (drop l.i l.item-items)) in
    record {
      points : l.here + size rest ≡ l.at + size (tree_of l.s);
      links : map link_seen l.found.items ++ linked rest l.here l.exits ≡ map link_seen l.fn.found.items ++ linked (tree_of l.s) l.at l.exits;
    }
