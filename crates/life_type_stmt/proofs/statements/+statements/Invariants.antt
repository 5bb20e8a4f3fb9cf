use Rattle.std.proofs.Common.{◌≡◌, map, drop}
use Rattle.life_typed.specs.TypedStatement.{block_item_view, branch_view}
use Rattle.life_type_stmt.proofs.InTurn.{behind}
use Rattle.life_type_stmt.proofs.statements.+statements.Given as goal
use Rattle.life_type_stmt.specs.Statements.{else_if_part, in_turn, item_part, parts_of}

abbrev pub invariant-block_items-items : goal.invariant-block_items-items
invariant-block_items-items l =
    behind (map block_item_view l.found.items) (in_turn (parts_of (map item_part (drop l.item-index l.items))) l.around l.environment l.types)
    ≡ in_turn (parts_of (map item_part l.items)) l.around l.initial.environment l.initial.types

abbrev pub invariant-more_branches-more : goal.invariant-more_branches-more
invariant-more_branches-more l =
    behind (map branch_view l.found.items) (in_turn (map else_if_part (drop l.next-index l.more)) l.around l.environment l.types)
    ≡ in_turn (map else_if_part l.more) l.around l.initial.environment l.initial.types
