use Rattle.std.proofs.Common.{◌≡◌, ◌++◌, ◌∷◌, [], map, option_map, true, false, Ok, ap, sym, ◌∙◌}
use Rattle.std.proofs.lemmas.List.{map_push}
use Rattle.std.proofs.lemmas.Result.{err_from_is_err_and}
use Rattle.life_stmt.proofs.Below.{below_rule}
use Rattle.life_stmt.proofs.ElseReads.{branches_more, branches_fail, last_fails, last_given, Takes-else_if}
use Rattle.life_stmt.proofs.LoopReads.{goes_on, fails, ends, before_nothing, before_more}
use Rattle.life_stmt.proofs.ShrinksReads.{shrinks}
use Rattle.life_stmt.proofs.ShrinksRules.{Takes-below}
use Rattle.life_stmt.proofs.StatementReads.{block_reads}
use Rattle.life_stmt.specs.Elses.{else_if_kinds, else_if_with, else_if_front}
use Rattle.life_stmt.specs.Fronts.{before}
use Rattle.life_expr.specs.Heads.{heads_of}
use Rattle.life_expr.specs.Read.{as_many, starts}
use Rattle.life_expr.specs.Readers.{below, begins, else_part_with}
use Rattle.life_tree.specs.Rules as rules
use Rattle.life_tree.specs.Tree.{Tree}
use Rattle.life_tree.specs.Views.{block_item_tree, else_if_view, else_tree}
use Rattle.life_stmt.proofs.statements.+stmt.Goals as goal

pub statement_below-returns : goal.statement_below-returns
unfolding Rattle.life_expr.specs.Readers.rule_with
statement_below-returns t c = rw (← below_rule c.args.left rules.statement c.args.tokens.now c.requires) c.statement.ensures

pub block_item_below-returns : goal.block_item_below-returns
unfolding Rattle.life_expr.specs.Readers.rule_with
block_item_below-returns t c = rw (← below_rule c.args.left rules.block_item c.args.tokens.now c.requires) c.block_item.ensures

pub elses_below-returns : goal.elses_below-returns
unfolding Rattle.life_expr.specs.Readers.rule_with
elses_below-returns t c = rw (← below_rule c.args.left rules.else_part c.args.tokens.now c.requires) c.elses.ensures

pub block_items-returns-in_err-next : goal.block_items-returns-in_err-next
unfolding Rattle.life_stmt.specs.Statements.items_with
block_items-returns-in_err-next t c =
    let e = err_from_is_err_and c.from_residual.result c.from_residual.ensures.1 in
    let h : starts (heads_of rules.block_item) c.list.rest.now ≡ true = cc in
    rw (e.1, e.2) (fails (heads_of rules.block_item) (below c.args.left rules.block_item) (Takes-below c.args.left rules.block_item) c.in_err-next.field-0.0 (before (map block_item_tree c.list.list.items)) c.list.rest.now (as_many (heads_of rules.block_item) (below c.args.left rules.block_item) c.args.tokens.now) h c.in_err-next.ensures c.list.invariant)

pub block_items-list-smaller : goal.block_items-list-smaller
block_items-list-smaller t c = shrinks (below c.args.left rules.block_item) (Takes-below c.args.left rules.block_item) c.list.rest.now (block_item_tree c.in_ok-next.next) c.in_ok-next.after.now c.in_ok-next.ensures

pub block_items-list-preserved : goal.block_items-list-preserved
block_items-list-preserved t c =
    let h : starts (heads_of rules.block_item) c.list.rest.now ≡ true = cc in
    let e : map block_item_tree c.push.new.self.items ≡ map block_item_tree c.list.list.items ++ block_item_tree c.in_ok-next.next ∷ [] = rw c.in_ok-push.ensures.items (map_push _ c.list.list.items c.in_ok-next.next) in
    rw e (goes_on (heads_of rules.block_item) (below c.args.left rules.block_item) (Takes-below c.args.left rules.block_item) (before (map block_item_tree c.list.list.items)) (before (map block_item_tree c.list.list.items ++ block_item_tree c.in_ok-next.next ∷ [])) c.list.rest.now (block_item_tree c.in_ok-next.next) c.in_ok-next.after.now (as_many (heads_of rules.block_item) (below c.args.left rules.block_item) c.args.tokens.now) (λ u. before_more (map block_item_tree c.list.list.items) (block_item_tree c.in_ok-next.next) u) h c.in_ok-next.ensures c.list.invariant)

pub block_items-returns : goal.block_items-returns
unfolding Rattle.life_stmt.specs.Statements.items_with
block_items-returns t c =
    let h : starts (heads_of rules.block_item) c.list.rest.now ≡ false = cc in
    ends (heads_of rules.block_item) (below c.args.left rules.block_item) (Takes-below c.args.left rules.block_item) (before (map block_item_tree c.list.list.items)) c.list.rest.now (as_many (heads_of rules.block_item) (below c.args.left rules.block_item) c.args.tokens.now) h c.list.invariant ∙ ap (λ (t : Tree). Ok (t, c.list.rest.now)) (before_nothing (map block_item_tree c.list.list.items))

pub block-returns : goal.block-returns
block-returns t c = rw (← block_reads c.args.left (below c.args.left) c.args.tokens.now) c.block_by_parts.ensures

pub else_ifs-returns-in_err-next : goal.else_ifs-returns-in_err-next
else_ifs-returns-in_err-next t c =
    let n = c.args.left in
    let e = err_from_is_err_and c.from_residual.result c.from_residual.ensures.1 in
    let h : begins else_if_kinds c.list.rest.now ≡ true = cc in
    rw (e.1, e.2) (branches_fail n (below n) (Takes-below n) c.in_err-next.field-0.0 (map else_if_view c.list.list.items) c.list.rest.now (else_part_with n (below n) c.args.tokens.now) h c.in_err-next.ensures c.list.invariant)

pub else_ifs-list-smaller : goal.else_ifs-list-smaller
else_ifs-list-smaller t c =
    let n = c.args.left in
    shrinks (else_if_with n (below n)) (Takes-else_if n (below n) (Takes-below n)) c.list.rest.now (else_if_front (else_if_view c.in_ok-next.next)) c.in_ok-next.after.now c.in_ok-next.ensures

pub else_ifs-list-preserved : goal.else_ifs-list-preserved
else_ifs-list-preserved t c =
    let n = c.args.left in
    let h : begins else_if_kinds c.list.rest.now ≡ true = cc in
    let e : map else_if_view c.push.new.self.items ≡ map else_if_view c.list.list.items ++ else_if_view c.in_ok-next.next ∷ [] = rw c.in_ok-push.ensures.items (map_push _ c.list.list.items c.in_ok-next.next) in
    rw e (branches_more n (below n) (Takes-below n) (map else_if_view c.list.list.items) (else_if_view c.in_ok-next.next) c.list.rest.now c.in_ok-next.after.now (else_part_with n (below n) c.args.tokens.now) h c.in_ok-next.ensures c.list.invariant)

pub else_ifs-returns : goal.else_ifs-returns
else_ifs-returns t c =
    let h : begins else_if_kinds c.list.rest.now ≡ false = cc in
    record { so_far = sym c.list.invariant; no_more = h }

pub elses-returns-in_err-last : goal.elses-returns-in_err-last
elses-returns-in_err-last t c =
    let n = c.args.left in
    let e = err_from_is_err_and c.from_residual-in_err-last.result c.from_residual-in_err-last.ensures.1 in
    rw (e.1, e.2) (last_fails n (below n) (Takes-below n) c.in_err-last.field-0.0 (map else_if_view c.in_ok-more.more.items) c.args.tokens.now c.in_ok-more.rest.now c.in_ok-more.ensures c.in_err-last.ensures)

pub elses-returns : goal.elses-returns
elses-returns t c =
    let n = c.args.left in
    last_given n (below n) (Takes-below n) (map else_if_view c.in_ok-more.more.items) (option_map else_tree c.in_ok-last.last) c.args.tokens.now c.in_ok-more.rest.now c.in_ok-last.rest.now c.in_ok-more.ensures c.in_ok-last.ensures
