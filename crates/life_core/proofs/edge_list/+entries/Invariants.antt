use Rattle.std.proofs.Common.{◌≡◌, map, drop}
use Rattle.life_core.specs.Linked.{entry_of}
use Rattle.life_core.specs.Tree.{tree_of, trees}
use Rattle.life_core.proofs.edge_list.+entries.Given as goal

-- control goes through what was passed
abbrev pub invariant-entry_of_all-loop-item : goal.invariant-entry_of_all-loop-item
invariant-entry_of_all-loop-item l =
    entry_of (trees (map tree_of (drop l.item-index l.items))) ≡ entry_of (trees (map tree_of l.items))
