use Rattle.std.proofs.Common.{◌≡◌, ◌+◌, ◌*◌, map, length}
use Rattle.life_stmt.specs.Elses.{elses_before}
use Rattle.life_stmt.specs.Fronts.{mapped, before}
use Rattle.life_expr.specs.Heads.{heads_of}
use Rattle.life_expr.specs.Read.{as_many}
use Rattle.life_expr.specs.Readers.{below, else_part_with}
use Rattle.life_tree.specs.Rules as rules
use Rattle.life_tree.specs.Views.{block_item_tree, else_if_view}
use Rattle.life_stmt.proofs.statements.+stmt.Given as goal

abbrev pub decreases-statement : goal.decreases-statement
decreases-statement l = 64 * l.left + 5

abbrev pub decreases-statement_below : goal.decreases-statement_below
decreases-statement_below l = 64 * l.left + 0

abbrev pub decreases-plain : goal.decreases-plain
decreases-plain l = 64 * l.left + 4

abbrev pub decreases-while_loop : goal.decreases-while_loop
decreases-while_loop l = 64 * l.left + 1

abbrev pub decreases-for_loop : goal.decreases-for_loop
decreases-for_loop l = 64 * l.left + 1

abbrev pub decreases-branches : goal.decreases-branches
decreases-branches l = 64 * l.left + 1

abbrev pub decreases-else_if : goal.decreases-else_if
decreases-else_if l = 64 * l.left + 6

abbrev pub decreases-else_ifs : goal.decreases-else_ifs
decreases-else_ifs l = 64 * l.left + 7

abbrev pub decreases-last_else : goal.decreases-last_else
decreases-last_else l = 64 * l.left + 6

abbrev pub decreases-elses : goal.decreases-elses
decreases-elses l = 64 * l.left + 8

abbrev pub decreases-elses_below : goal.decreases-elses_below
decreases-elses_below l = 64 * l.left + 0

abbrev pub decreases-block_item : goal.decreases-block_item
decreases-block_item l = 64 * l.left + 6

abbrev pub decreases-block_item_below : goal.decreases-block_item_below
decreases-block_item_below l = 64 * l.left + 0

abbrev pub decreases-block_items : goal.decreases-block_items
decreases-block_items l = 64 * l.left + 1

abbrev pub decreases-block_by_parts : goal.decreases-block_by_parts
decreases-block_by_parts l = 64 * l.left + 2

abbrev pub decreases-block : goal.decreases-block
decreases-block l = 64 * l.left + 3

abbrev pub invariant-block_items-list : goal.invariant-block_items-list
invariant-block_items-list l = mapped (before (map block_item_tree l.list.items)) (as_many (heads_of rules.block_item) (below l.left rules.block_item) l.rest) ≡ as_many (heads_of rules.block_item) (below l.left rules.block_item) l.tokens

abbrev pub decreases-block_items-list : goal.decreases-block_items-list
decreases-block_items-list l = length l.rest

abbrev pub invariant-else_ifs-list : goal.invariant-else_ifs-list
invariant-else_ifs-list l = mapped (elses_before (map else_if_view l.list.items)) (else_part_with l.left (below l.left) l.rest) ≡ else_part_with l.left (below l.left) l.tokens

abbrev pub decreases-else_ifs-list : goal.decreases-else_ifs-list
decreases-else_ifs-list l = length l.rest
