use Rattle.std.proofs.Common.{◌≡◌, drop, map}
use Rattle.life_typed.specs.TypedStatement.{block_item_view, branch_view, stmt_forms}
use Rattle.life_writer.specs.Views.{around_of, state_of}
use Rattle.life_elab.specs.OpenedViews.{opened_of}
use Rattle.life_elab.specs.StatementForms.{opened_all, statement}
use Rattle.life_elab.proofs.OpenBranches.{Opening}
use Rattle.life_elab.proofs.statements.+statements.Given as goal

abbrev pub invariant-write_block_items-items : goal.invariant-write_block_items-items
invariant-write_block_items-items l =
    statement (around_of l.a) (stmt_forms (map block_item_view (drop l.item-index l.items))) (state_of l.writer)
    ≡ statement (around_of l.a) (stmt_forms (map block_item_view l.items)) (state_of l.initial.writer)

abbrev pub invariant-open_branches-branches : goal.invariant-open_branches-branches
invariant-open_branches-branches l =
    Opening (around_of l.a) (map opened_of l.opened.items) (drop l.branch-index l.branches) (state_of l.writer)
    (opened_all (around_of l.a) (stmt_forms (map branch_view l.branches)) (state_of l.initial.writer))
