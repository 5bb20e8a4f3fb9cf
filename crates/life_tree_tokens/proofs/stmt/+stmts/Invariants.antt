use Rattle.std.proofs.Common.{◌≡◌, ◌++◌, map, drop}
use Rattle.life_tree.specs.Branches.{else_if_keys}
use Rattle.life_tree.specs.Tree.{keys_of}
use Rattle.life_tree.specs.Views.{block_item_tree, else_if_view, list_tree}
use Rattle.life_tree_tokens.proofs.stmt.+stmts.Given as goal

abbrev pub invariant-write_block-items : goal.invariant-write_block-items
invariant-write_block-items l =
    l.keys.items ++ keys_of (list_tree (map block_item_tree (drop l.item-index l.item-items)))
    ≡ l.initial.keys.items ++ keys_of (list_tree (map block_item_tree l.item-items))

abbrev pub invariant-write_if-branches : goal.invariant-write_if-branches
invariant-write_if-branches l =
    l.keys.items ++ else_if_keys (map else_if_view (drop l.next-index l.next-items))
    ≡ l.initial.keys.items ++ else_if_keys (map else_if_view l.next-items)
