use Rattle.std.proofs.Common.{List, ◌∙◌, map, refl}
use Rattle.std.proofs.lemmas.Result.{err_from_is_err_and}
use Rattle.life_tree.specs.declared.stmt.BlockItem.{BlockItem}
use Rattle.life_typed.specs.TypedStatement.{block_item_view, branch_view}
use Rattle.life_type_stmt.proofs.InTurn.{turn_broken, turn_taken, turns_taken}
use Rattle.life_type_stmt.proofs.StatementAnswers.{block_answers, branch_answers, for_answers, if_answers, range_for_answers}
use Rattle.life_type_stmt.proofs.StatementMeanings.{else_if_made}
use Rattle.life_type_stmt.proofs.statements.+statements.Goals as goal
use Rattle.life_type_stmt.specs.Statements.{else_if_part, item_part, parts_of}

pub block_items-returns-in_err-next : goal.block_items-returns-in_err-next
block_items-returns-in_err-next t c =
    let e = err_from_is_err_and c.from_residual-in_err-next.result c.from_residual-in_err-next.ensures.1 in
    rw (e.1, e.2) (turn_broken (λ (i : BlockItem). (item_part i).part) (λ (is : List BlockItem). parts_of (map item_part is)) block_item_view c.args.items.now c.items.item-index c.args.around _ _ _ _ c.item-item.result
    c.in_err-next.field-0.0 refl c.items-test.true c.item-item.is c.items.invariant c.in_err-next.ensures)

pub block_items-items-preserved : goal.block_items-items-preserved
block_items-items-preserved t c =
    turn_taken (λ (i : BlockItem). (item_part i).part) (λ (is : List BlockItem). parts_of (map item_part is)) block_item_view c.args.items.now c.items.item-index c.args.around _ _ _ _ c.item-item.result
    _ _ c.in_ok-next.next _ refl c.items-test.true c.item-item.is c.items.invariant c.in_ok-next.ensures c.in_ok-push.ensures.items

pub block_items-returns : goal.block_items-returns
block_items-returns t c =
    turns_taken (λ (i : BlockItem). (item_part i).part) (λ (is : List BlockItem). parts_of (map item_part is)) block_item_view c.args.items.now c.items.item-index c.args.around _ _ _ _ refl c.items-test.false c.items.invariant

pub more_branches-returns-in_err-next : goal.more_branches-returns-in_err-next
more_branches-returns-in_err-next t c =
    let e = err_from_is_err_and c.from_residual-in_err-next.result c.from_residual-in_err-next.ensures.1 in
    rw (e.1, e.2) (turn_broken else_if_part (map else_if_part) branch_view c.args.more.now c.more.next-index c.args.around _ _ _ _ c.next-item.result
    c.in_err-next.field-0.0 refl c.more-test.true c.next-item.is c.more.invariant (rw else_if_made c.in_err-next.ensures))

pub more_branches-more-preserved : goal.more_branches-more-preserved
more_branches-more-preserved t c =
    turn_taken else_if_part (map else_if_part) branch_view c.args.more.now c.more.next-index c.args.around _ _ _ _ c.next-item.result
    _ _ c.in_ok-next.next _ refl c.more-test.true c.next-item.is c.more.invariant (else_if_made c.next-item.result _ _ _ ∙ c.in_ok-next.ensures) c.in_ok-push.ensures.items

pub more_branches-returns : goal.more_branches-returns
more_branches-returns t c = turns_taken else_if_part (map else_if_part) branch_view c.args.more.now c.more.next-index c.args.around _ _ _ _ refl c.more-test.false c.more.invariant

pub block-returns : goal.block-returns
block-returns t c =
    block_answers c.args.block.now c.args.around _ _ _ _ _ _ _ c.in_ok-items.items c.deref.ensures.value c.in_ok-items.ensures c.deref-2.ensures.value c.forget_declared.ensures

pub branch-returns : goal.branch-returns
branch-returns t c =
    branch_answers c.args.branch.now c.args.around _ _ _ _ _ _ c.in_ok-condition.condition _ c.in_ok-body.body c.in_ok-body-2.body c.deref.ensures c.in_ok-condition.ensures
    c.deref-2.ensures c.in_ok-body.ensures c.in_ok-body-2.ensures.ok

pub if_stmt-returns : goal.if_stmt-returns
if_stmt-returns t c = if_answers c.args.stmt.now c.args.around _ _ _ _ _ _ c.in_ok-branches.branches c.in_ok-last.last c.in_ok-branches.ensures c.in_ok-last.ensures

pub for_stmt-returns : goal.for_stmt-returns
for_stmt-returns t c =
    for_answers c.args.stmt.now c.args.around _ _ _ _ _ _ _ _ _ c.in_ok-start.start c.in_ok-condition.condition c.in_ok-step.step c.in_ok-head.head _ c.in_ok-body.body c.in_ok-start.ensures c.in_ok-condition.ensures
    c.in_ok-step.ensures c.in_ok-head.ensures.ok c.deref.ensures c.in_ok-body.ensures c.forget_start.ensures

pub range_for-returns : goal.range_for-returns
range_for-returns t c =
    range_for_answers c.args.stmt.now c.args.around _ _ _ _ _ _ _ _ c.in_ok-start.start _ c.in_ok-body.body c.deref.ensures c.in_ok-start.ensures
    c.deref-2.ensures c.in_ok-body.ensures c.forget.ensures
