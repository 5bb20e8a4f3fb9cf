use Rattle.std.proofs.Common.{Bool, ap, sym, ◌∙◌}
use Rattle.life_typed.specs.Conversions.{is_const_place}
use Rattle.life_typed.specs.Statements.{range_element}
use Rattle.life_typed.specs.TypedForm.{typed_view}
use Rattle.life_typed.specs.declared.typed_expr.ExprType.{ExprType}
use Rattle.life_typed.specs.declared.typed_expr.TypedExpr.{out-TypedExpr}
use Rattle.life_writer.proofs.Seen.{type_seen}
use Rattle.life_writer.proofs.SeenExpressions.{category_seen}
use Rattle.life_elab.proofs.ranges.element_of.Goals as goal

pub returns : goal.returns
returns c =
    let x = c.args.range.now in
    c.range_element.ensures
    ∙ ap (λ (b : Bool). range_element (out-TypedExpr x).ty b) (c.is_const_place.ensures ∙ ap is_const_place (sym (category_seen x)))
    ∙ ap (λ (t : ExprType). range_element t (is_const_place (typed_view x).category)) (sym (type_seen x))
