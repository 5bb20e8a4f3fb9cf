use Rattle.std.proofs.Common.{◌≡◌, false, map, drop}
use Rattle.life_type_stmt.proofs.ends.+ends.Given as goal
use Rattle.life_type_stmt.specs.Ends.{all_end, else_if_ends, item_ends, last_of}

abbrev pub invariant-all_end-more : goal.invariant-all_end-more
invariant-all_end-more l = all_end (map else_if_ends (drop l.next-index l.next-items)) ≡ all_end (map else_if_ends l.next-items)

abbrev pub invariant-block_ends-items : goal.invariant-block_ends-items
invariant-block_ends-items l = last_of l.ends (map item_ends (drop l.item-index l.item-items)) ≡ last_of false (map item_ends l.item-items)
