use Rattle.std.proofs.Common.{ap, sym, ◌∙◌}
use Rattle.life_typed.specs.declared.typed_expr.TypedExpr.{out-TypedExpr}
use Rattle.life_core.specs.Operands.{operand_of}
use Rattle.life_writer.proofs.Giving.{answers_as}
use Rattle.life_writer.proofs.Seen.{type_seen}
use Rattle.life_writer.proofs.SeenExpressions.{category_seen, place_seen}
use Rattle.life_writer.specs.Around.{own_type}
use Rattle.life_writer.specs.PartUses.{expression_uses}
use Rattle.life_writer.specs.Views.{around_of, state_of}
use Rattle.life_elab.proofs.RangeWriting.{owner_made, owner_placed}
use Rattle.life_elab.proofs.ranges.owner_range.Goals as goal

pub returns-in_ok-local-in-Value : goal.returns-in_ok-local-in-Value
returns-in_ok-local-in-Value c =
    let x = c.args.range.now in let y = out-TypedExpr x in
    owner_made (expression_uses (around_of c.args.a.now) x) y.category (category_seen x) y.place c.own_type.result (state_of c.args.writer.now) (state_of c.built_by.new.self) c.in_ok-local-in-Value.local (operand_of c.name.result)
    c.in-Value.is (place_seen x) (c.own_type.ensures ∙ ap own_type (sym (type_seen x))) c.in_ok-local-in-Value.ensures c.name.ensures

pub returns-in-Place : goal.returns-in-Place
returns-in-Place c =
    let x = c.args.range.now in
    answers_as operand_of c.operand.result _ _ _
    (owner_placed (expression_uses (around_of c.args.a.now) x) (out-TypedExpr x).category (category_seen x) c.in-Place.ty c.in-Place.constant (state_of c.args.writer.now) c.in-Place.is) c.operand.ensures
