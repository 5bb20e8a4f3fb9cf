use Rattle.std.proofs.Common.{map}
use Rattle.std.proofs.lemmas.Result.{err_from_is_err_and}
use Rattle.life_typed.specs.TypedForm.{typed_view}
use Rattle.life_type_expr.specs.Expressions.{init_list_meaning}
use Rattle.life_type_expr.specs.TargetViews.{targets_view}
use Rattle.life_type_expr.proofs.CallLemmas.{list_answers, list_delimited, list_fails, list_opened}
use Rattle.life_type_expr.proofs.primaries.elements.Goals as goal

pub returns-in_err-elements : goal.returns-in_err-elements
returns-in_err-elements c =
    let p = err_from_is_err_and c.from_residual.result c.from_residual.ensures.1 in
    rw (p.1, p.2) (list_fails c.args.target (init_list_meaning c.args.list.now) c.args.environment.now c.args.types.now (targets_view c.list_targets-targets.result) c.list_targets-targets.ensures c.in_err-elements.field-0.0 c.in_err-elements.ensures)

pub returns : goal.returns
returns c =
    list_answers c.args.target (init_list_meaning c.args.list.now) c.args.environment.now c.args.types.now (targets_view c.list_targets-targets.result) c.list_targets-targets.ensures
    (map typed_view c.in_ok-elements.elements.items, c.braced.new.types) _ _ (list_opened c.args.list.now) (list_delimited c.args.list.now _ _ c.in_ok-of.ensures c.deref.ensures.value) c.in_ok-elements.ensures
