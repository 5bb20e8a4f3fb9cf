use Rattle.std.proofs.Common.{sym, ap, ◌∙◌}
use Rattle.std.proofs.lemmas.Result.{on_ok_weaker}
use Rattle.life_core.specs.Operands.{location_of}
use Rattle.life_typed.specs.declared.typed_expr.TypedExpr.{out-TypedExpr}
use Rattle.life_writer.proofs.Seen.{type_seen}
use Rattle.life_writer.proofs.SeenExpressions.{place_seen}
use Rattle.life_writer.specs.Around.{own_type}
use Rattle.life_writer.specs.PartUses.{expression_uses}
use Rattle.life_writer.specs.Views.{around_of, seen_of, state_of}
use Rattle.life_elab.proofs.SimpleChoices.{text_written, value_written}
use Rattle.life_elab.proofs.SimpleSteps.{followed}
use Rattle.life_elab.proofs.statements.write_value.Goals as goal

pub returns-in_ok-register : goal.returns-in_ok-register
returns-in_ok-register c =
    let x = c.args.value.now in
    on_ok_weaker c.emit.result
    (followed (state_of c.emit.new.self)
    (value_written (expression_uses (around_of c.args.a.now) x) c.own_type-own.result (out-TypedExpr x).place c.args.behind (state_of c.args.writer.now) (state_of c.value.new.self) c.in_ok-register.register
    (c.own_type-own.ensures ∙ ap own_type (sym (type_seen x))) (sym c.is_value.ensures ∙ c.if-is_value.true) (sym (place_seen x)) c.in_ok-register.ensures))
    c.emit.ensures

pub returns-in_ok-view : goal.returns-in_ok-view
returns-in_ok-view c =
    let x = c.args.value.now in
    on_ok_weaker c.emit-else-is_value.result
    (followed (state_of c.emit-else-is_value.new.self)
    (text_written (expression_uses (around_of c.args.a.now) x) c.own_type-own.result (out-TypedExpr x).place c.args.behind (state_of c.args.writer.now) (state_of c.characters_of.new.self) (state_of c.viewed.new.self)
    (seen_of c.in_ok-characters.characters) (location_of c.in_ok-view.view)
    (c.own_type-own.ensures ∙ ap own_type (sym (type_seen x))) (sym c.is_value.ensures ∙ c.if-is_value.false) (sym (place_seen x)) c.in_ok-characters.ensures c.in_ok-view.ensures))
    c.emit-else-is_value.ensures
