use Rattle.std.proofs.Common.{◌≡◌, Ok, subst}
use Rattle.std.proofs.lemmas.Result.{err_from_is_err_and}
use Rattle.life_tree.specs.declared.operator.PrefixOperator.TheVariants as prefix_operators
use Rattle.life_tree.specs.declared.simple.Target.{Target}
use Rattle.life_typed.specs.TypedForm.{typed_view}
use Rattle.life_names.specs.Checked.{Fails}
use Rattle.life_type_expr.specs.Expressions.{target_meaning}
use Rattle.life_type_expr.specs.Operands.{prefixed}
use Rattle.life_type_expr.proofs.Alternatives.{of_place, of_star}
use Rattle.life_names.proofs.Steps.{bind_fails, bind_goes, gives_as}
use Rattle.life_type_expr.proofs.primaries.+place_target.Goals as goal

pub returns-in_err-e-in-Dereference : goal.returns-in_err-e-in-Dereference
returns-in_err-e-in-Dereference t c =
    let p = err_from_is_err_and c.from_residual.result c.from_residual.ensures.1 in
    rw (p.1, p.2) (bind_fails (target_meaning c.in-Dereference.operand.value c.args.environment.now c.args.types.now) (prefixed prefix_operators.Dereference c.in-Dereference.star) c.in_err-e-in-Dereference.field-0.0 _
    (of_star c.args.target.now c.in-Dereference.star c.in-Dereference.operand c.args.environment.now c.args.types.now c.in-Dereference.is)
    (subst (λ (x : Target). Fails c.in_err-e-in-Dereference.field-0.0 (target_meaning x c.args.environment.now c.args.types.now)) c.deref.ensures c.in_err-e-in-Dereference.ensures))

pub returns-in_ok-e-in-Dereference : goal.returns-in_ok-e-in-Dereference
returns-in_ok-e-in-Dereference t c =
    gives_as typed_view c.place_target.new.types c.prefixed.result _ _
    (bind_goes (target_meaning c.in-Dereference.operand.value c.args.environment.now c.args.types.now) (prefixed prefix_operators.Dereference c.in-Dereference.star) _ _
    (of_star c.args.target.now c.in-Dereference.star c.in-Dereference.operand c.args.environment.now c.args.types.now c.in-Dereference.is)
    (subst (λ (x : Target). target_meaning x c.args.environment.now c.args.types.now ≡ Ok (typed_view c.in_ok-e-in-Dereference.e, c.place_target.new.types)) c.deref.ensures c.in_ok-e-in-Dereference.ensures))
    c.prefixed.ensures

pub returns-in-Plain : goal.returns-in-Plain
returns-in-Plain t c = gives_as typed_view c.postfix.new.types c.postfix.result _ _ (of_place c.args.target.now c.in-Plain.operand c.args.environment.now c.args.types.now c.in-Plain.is) c.postfix.ensures
