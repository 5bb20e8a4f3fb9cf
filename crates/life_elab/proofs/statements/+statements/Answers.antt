use Rattle.std.proofs.Common.{◌∷◌, ◌+◌, [], List, drop, map, refl, ap, sym, subst, ◌∙◌}
use Rattle.std.proofs.lemmas.List.{map-append}
use Rattle.std.proofs.lemmas.Result.{on_ok_weaker}
use Rattle.std.specs.Prelude.{slice_get}
use Rattle.life_typed.specs.TypedForm.{typed_view, whole}
use Rattle.life_typed.specs.TypedStatement.{branch_view, branching, for_of, for_start_view, optional_view, simple_view, stmt_forms, stmt_view}
use Rattle.life_typed.specs.declared.typed_stmt.TypedBranch.{TypedBranch, out-TypedBranch}
use Rattle.life_core.specs.Tree.{condition_tree, tree_of}
use Rattle.life_elab.specs.Last.{last_view}
use Rattle.life_writer.specs.ExpressionForms.{uses}
use Rattle.life_writer.specs.PartUses.{expression_uses}
use Rattle.life_writer.specs.Using.{condition}
use Rattle.life_writer.specs.Views.{around_of, state_of}
use Rattle.life_writer.specs.declared.behind.Behind.{Behind}
use Rattle.life_elab.specs.IteratorViews.{iterators_of}
use Rattle.life_elab.specs.LastTokens.{last_token}
use Rattle.life_elab.specs.OpenedViews.{opened_of}
use Rattle.life_elab.specs.RangeForms.{element_at, element_of}
use Rattle.life_elab.specs.StatementForms.{opened_all, statement}
use Rattle.life_elab.specs.Statements.{Opened, asserted, opened}
use Rattle.life_elab.proofs.LoopWriting.{for_gives, while_gives}
use Rattle.life_elab.proofs.RangeWriting.{range_gives, turn_gives}
use Rattle.life_elab.proofs.SeenStatements.{assert_seen, for_seen, if_seen, range_seen, while_seen}
use Rattle.life_elab.proofs.SimpleSteps.{followed}
use Rattle.life_elab.proofs.OpenBranches.{Opening, if_gives, opening_turn}
use Rattle.life_elab.proofs.statements.+statements.Goals as goal

pub open_branches-branches-preserved : goal.open_branches-branches-preserved
open_branches-branches-preserved t c =
    let a = around_of c.args.a.now in
    let given = c.branches.opened.items in
    let total = opened_all a (stmt_forms (map branch_view c.args.branches.now)) (state_of c.args.writer.now) in
    let more = opening_turn a (map opened_of given) c.args.branches.now c.branches.branch-index c.branch-item.result c.deref.result.now
    (state_of c.branches.writer) (opened_of c.in_ok-one.one) (state_of c.open_branch.new.writer) total
    c.branches-test.true c.branch-item.is (sym c.deref.ensures)
    (ap (λ (b : Behind). opened (condition (uses a (whole (typed_view (out-TypedBranch c.branch-item.result).condition))) b) (statement a (stmt_view c.deref.result.now)) (state_of c.branches.writer)) (sym c.ending-behind.ensures) ∙ c.in_ok-one.ensures)
    c.branches.invariant in
    subst (λ (xs : List Opened). Opening a xs (drop (c.branches.branch-index + 1) c.args.branches.now) (state_of c.open_branch.new.writer) total)
    (sym (ap (map opened_of) c.in_ok-push.ensures.items ∙ map-append opened_of given (c.in_ok-one.one ∷ [])))
    more

pub write_statement-returns-in_ok-write_last-in-If : goal.write_statement-returns-in_ok-write_last-in-If
write_statement-returns-in_ok-write_last-in-If t c =
    let st = c.args.statement.now in
    on_ok_weaker c.close_branches.result
    (if_gives (around_of c.args.a.now) (stmt_view st) (stmt_forms (map branch_view c.deref.result.now)) (last_view c.in-If.last) (state_of c.args.writer.now)
    (map opened_of c.in_ok-opened-in-If.opened.items) (state_of c.open_branches.new.writer) (state_of c.write_last.new.writer) (state_of c.close_branches.new.writer)
    (if_seen st c.in-If.branches c.in-If.last c.in-If.is ∙ ap (λ (bs : List TypedBranch). branching (stmt_forms (map branch_view bs)) (last_view c.in-If.last)) (sym c.deref.ensures.value))
    c.in_ok-opened-in-If.ensures c.in_ok-write_last-in-If.ensures)
    c.close_branches.ensures

pub write_statement-returns-in_ok-body-in-While : goal.write_statement-returns-in_ok-body-in-While
write_statement-returns-in_ok-body-in-While t c =
    let st = c.args.statement.now in
    let x = c.deref-in-While.result.now in
    on_ok_weaker c.write_loop.result
    (while_gives (around_of c.args.a.now) (stmt_view st) c.in-While.keyword (typed_view c.in-While.condition) c.in-While.closing (stmt_view x) (state_of c.args.writer.now)
    (condition_tree c.in_ok-condition-in-While.condition) (state_of c.condition.new.self) (tree_of c.in_ok-body-in-While.body) (state_of c.write_body_of_loop.new.writer)
    (tree_of c.nothing-step.result) (state_of c.write_loop.new.writer) c.ending.result
    (while_seen st c.in-While.keyword c.in-While.condition c.in-While.closing c.in-While.body x c.in-While.is (sym c.deref-in-While.ensures))
    c.ending.ensures c.in_ok-condition-in-While.ensures c.in_ok-body-in-While.ensures c.nothing-step.ensures)
    c.write_loop.ensures

pub write_statement-returns-in-For : goal.write_statement-returns-in-For
write_statement-returns-in-For t c =
    let seen = for_seen c.args.statement.now c.in-For.keyword c.in-For.head c.in-For.closing c.in-For.body c.deref-in-For.result.now c.deref-in-For-2.result.now c.in-For.is
    (sym c.deref-in-For.ensures) (sym c.deref-in-For-2.ensures) in
    on_ok_weaker c.write_for.result
    (followed (state_of c.write_for.new.writer) (ap (λ f. statement (around_of c.args.a.now) f (state_of c.args.writer.now)) (sym seen)))
    c.write_for.ensures

pub write_for-returns : goal.write_for-returns
write_for-returns t c =
    let head = c.args.head.now in
    let form = for_of c.args.keyword head c.args.closing (stmt_view c.args.body.now) in
    on_ok_weaker c.end_since.result
    (for_gives (around_of c.args.a.now) form c.args.keyword (optional_view for_start_view head.start) head.first_semicolon (optional_view typed_view head.condition)
    head.second_semicolon (optional_view simple_view head.step) c.args.closing (stmt_view c.args.body.now)
    (state_of c.args.writer.now) (state_of c.started.new.writer) (condition_tree c.in_ok-condition.condition) (state_of c.condition_or_true.new.writer)
    (tree_of c.in_ok-repeated.repeated) (state_of c.write_body_of_loop.new.writer) (tree_of c.in_ok-step.step) (state_of c.step_of_loop.new.writer)
    (state_of c.write_loop.new.writer) (state_of c.end_since.new.self) c.living_count-outside.result c.last_token.result
    refl c.living_count-outside.ensures c.in_ok-started.ensures c.in_ok-condition.ensures c.in_ok-repeated.ensures c.in_ok-step.ensures c.in_ok-write_loop.ensures
    c.last_token.ensures)
    c.end_since.ensures

pub write_statement-returns-in-Assert : goal.write_statement-returns-in-Assert
write_statement-returns-in-Assert t c =
    let st = c.args.statement.now in
    on_ok_weaker c.asserted.result
    (followed (state_of c.asserted.new.writer)
    (ap (λ (b : Behind). asserted (condition (uses (around_of c.args.a.now) (whole (typed_view c.in-Assert.condition))) b) c.in-Assert.keyword (state_of c.args.writer.now)) c.ending-in-Assert.ensures
    ∙ ap (λ f. statement (around_of c.args.a.now) f (state_of c.args.writer.now))
    (sym (assert_seen st c.in-Assert.keyword c.in-Assert.condition c.in-Assert.closing c.in-Assert.semicolon c.in-Assert.is))))
    c.asserted.ensures

-- ---- loops over ranges

pub write_statement-returns-in-RangeFor : goal.write_statement-returns-in-RangeFor
write_statement-returns-in-RangeFor t c =
    let seen = range_seen c.args.statement.now c.in-RangeFor.keyword c.in-RangeFor.local c.in-RangeFor.name c.in-RangeFor.colon c.in-RangeFor.range c.in-RangeFor.closing c.in-RangeFor.body c.deref-in-RangeFor.result.now
    c.in-RangeFor.is (sym c.deref-in-RangeFor.ensures) in
    on_ok_weaker c.write_range.result
    (followed (state_of c.write_range.new.writer) (ap (λ f. statement (around_of c.args.a.now) f (state_of c.args.writer.now)) (sym seen)))
    c.write_range.ensures

pub write_range-returns : goal.write_range-returns
write_range-returns t c =
    let a = around_of c.args.a.now in let body = stmt_view c.args.body.now in
    on_ok_weaker c.end_since.result
    (range_gives a (slice_get a.function.locals c.args.local) c.args.colon c.args.closing (last_token body c.args.closing) c.last_token-last.result (expression_uses a c.args.range.now) (statement a body)
    (state_of c.args.writer.now) (state_of c.open_range.new.writer) (iterators_of c.in_ok-iterators.iterators) (condition_tree c.in_ok-condition.condition) (state_of c.goes_on.new.writer)
    (tree_of c.in_ok-repeated.repeated) (state_of c.write_turns.new.writer) (tree_of c.in_ok-step.step) (state_of c.next_in_list.new.writer) (state_of c.write_loop.new.writer) (state_of c.end_since.new.self)
    c.living_count-outside.result c.living_count-outside.ensures c.last_token-last.ensures c.in_ok-iterators.ensures c.in_ok-condition.ensures c.in_ok-repeated.ensures c.in_ok-step.ensures c.in_ok-write_loop.ensures)
    c.end_since.ensures

pub write_turns-returns : goal.write_turns-returns
write_turns-returns t c =
    let a = around_of c.args.a.now in let it = c.args.iterator in
    turn_gives a (slice_get a.function.locals c.args.local) c.args.colon c.args.last it (element_at a.program.types c.args.colon it (element_of (expression_uses a c.args.range.now))) (statement a (stmt_view c.args.body.now))
    (state_of c.args.writer.now) (state_of c.begin_loop-around.new.self) (state_of c.begin_list-before.new.self) (state_of c.declared_from.new.writer) (state_of c.write_statement.new.writer) (state_of c.end_since.new.self)
    (state_of c.end_list-turns.new.self) (state_of c.end_loop.new.self)
    c.begin_loop-around.result c.living_count-outside.result (map tree_of c.begin_list-before.result.items) (tree_of c.end_list-turns.result)
    c.begin_loop-around.ensures.around c.begin_loop-around.ensures.state c.begin_list-before.ensures.before c.begin_list-before.ensures.state c.living_count-outside.ensures c.in_ok-declared_from.ensures c.in_ok-write_statement.ensures
    c.in_ok-end_since.ensures c.end_list-turns.ensures.list c.end_list-turns.ensures.state c.end_loop.ensures
