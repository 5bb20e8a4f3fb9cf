use Rattle.std.proofs.Common.{sym, ap, ◌∙◌}
use Rattle.std.proofs.lemmas.Result.{on_ok_weaker}
use Rattle.life_core.specs.Operands.{operand_of}
use Rattle.life_typed.specs.declared.typed_expr.TypedExpr.{out-TypedExpr}
use Rattle.life_writer.proofs.Seen.{type_seen}
use Rattle.life_writer.proofs.SeenExpressions.{category_seen}
use Rattle.life_writer.specs.Around.{own_type}
use Rattle.life_writer.specs.PartUses.{expression_uses}
use Rattle.life_writer.specs.Views.{around_of, state_of}
use Rattle.life_elab.proofs.SimpleChoices.{nothing_thrown, place_thrown, something_thrown}
use Rattle.life_elab.proofs.SimpleSteps.{followed}
use Rattle.life_elab.proofs.simples.thrown.Goals as goal

pub returns-in_ok-operand-in-Place : goal.returns-in_ok-operand-in-Place
returns-in_ok-operand-in-Place c =
    let x = c.args.expression.now in
    place_thrown (expression_uses (around_of c.args.a.now) x) (out-TypedExpr x).category c.in-Place.ty c.in-Place.constant c.args.behind (state_of c.args.writer.now) (state_of c.operand.new.self) (operand_of c.in_ok-operand-in-Place.field-0)
    (category_seen x) c.in-Place.is c.in_ok-operand-in-Place.ensures

pub returns-in-Value : goal.returns-in-Value
returns-in-Value c =
    let x = c.args.expression.now in
    on_ok_weaker c.alone.result
    (followed (state_of c.alone.new.self)
    (nothing_thrown (expression_uses (around_of c.args.a.now) x) (out-TypedExpr x).category c.own_type.result c.args.behind (state_of c.args.writer.now) (category_seen x) c.in-Value.is
    (c.own_type.ensures ∙ ap own_type (sym (type_seen x))) (sym c.is_void.ensures ∙ c.if-is_void.true)))
    c.alone.ensures

pub returns-in-Value-2 : goal.returns-in-Value-2
returns-in-Value-2 c =
    let x = c.args.expression.now in
    on_ok_weaker c.thrown_by.result
    (followed (state_of c.thrown_by.new.writer)
    (something_thrown (expression_uses (around_of c.args.a.now) x) (out-TypedExpr x).category c.own_type.result c.args.behind (state_of c.args.writer.now) (category_seen x) c.in-Value.is
    (c.own_type.ensures ∙ ap own_type (sym (type_seen x))) (sym c.is_void.ensures ∙ c.if-is_void.false)))
    c.thrown_by.ensures
