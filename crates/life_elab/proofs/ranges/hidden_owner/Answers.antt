use Rattle.std.proofs.Common.{ap, sym, ◌∙◌}
use Rattle.life_typed.specs.declared.typed_expr.TypedExpr.{out-TypedExpr}
use Rattle.life_core.specs.Operands.{operand_of}
use Rattle.life_writer.proofs.Seen.{type_seen}
use Rattle.life_writer.proofs.SeenExpressions.{category_seen}
use Rattle.life_writer.specs.Around.{own_type}
use Rattle.life_writer.specs.PartUses.{expression_uses}
use Rattle.life_writer.specs.Views.{around_of, state_of}
use Rattle.life_elab.proofs.RangeWriting.{owner_hidden}
use Rattle.life_elab.proofs.ranges.hidden_owner.Goals as goal

pub returns : goal.returns
returns c =
    let x = c.args.range.now in
    owner_hidden (expression_uses (around_of c.args.a.now) x) (out-TypedExpr x).category (category_seen x) c.args.colon c.own_type.result c.in_ok-ty.ty (state_of c.args.writer.now) (state_of c.owner_range.new.writer)
    (state_of c.range_type.new.writer) (state_of c.built.new.self) (operand_of c.in_ok-place.place) (operand_of c.through.result) c.in_ok-register.register
    (c.own_type.ensures ∙ ap own_type (sym (type_seen x))) c.in_ok-place.ensures c.in_ok-ty.ensures c.in_ok-register.ensures c.through.ensures
