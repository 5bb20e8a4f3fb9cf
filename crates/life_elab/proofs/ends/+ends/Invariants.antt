use Rattle.std.proofs.Common.{◌≡◌, false, drop, map}
use Rattle.life_typed.specs.TypedStatement.{block_item_view, branch_view, stmt_forms}
use Rattle.life_typed.specs.Ends.{all_end, last_ends}
use Rattle.life_elab.proofs.ends.+ends.Given as goal

abbrev pub invariant-block_ends-items : goal.invariant-block_ends-items
invariant-block_ends-items l =
    last_ends (stmt_forms (map block_item_view (drop l.item-index l.item-items))) l.ends
    ≡ last_ends (stmt_forms (map block_item_view l.item-items)) false

abbrev pub invariant-all_end-branches : goal.invariant-all_end-branches
invariant-all_end-branches l = all_end (stmt_forms (map branch_view (drop l.branch-index l.branches))) ≡ all_end (stmt_forms (map branch_view l.branches))
