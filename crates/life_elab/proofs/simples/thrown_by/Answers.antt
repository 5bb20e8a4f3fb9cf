use Rattle.std.proofs.Common.{refl, sym, ap, ◌∙◌}
use Rattle.std.proofs.lemmas.Result.{on_ok_weaker}
use Rattle.life_types.specs.declared.ty.Class.TheVariants as classes
use Rattle.life_core.specs.Operands.{location_of}
use Rattle.life_writer.proofs.Seen.{type_seen}
use Rattle.life_writer.specs.Around.{own_type}
use Rattle.life_writer.specs.PartUses.{expression_uses}
use Rattle.life_writer.specs.Views.{around_of, state_of}
use Rattle.life_elab.proofs.SimpleChoices.{object_thrown, pointer_thrown, value_thrown}
use Rattle.life_elab.proofs.SimpleSteps.{followed}
use Rattle.life_elab.proofs.simples.thrown_by.Goals as goal

pub returns-in_ok-value-in-Value : goal.returns-in_ok-value-in-Value
returns-in_ok-value-in-Value c =
    value_thrown (expression_uses (around_of c.args.a.now) c.args.expression.now) c.own_type-ty.result c.class.result c.args.behind (state_of c.args.writer.now) (state_of c.value.new.self) c.in_ok-value-in-Value.field-0
    (c.own_type-ty.ensures ∙ ap own_type (sym (type_seen c.args.expression.now))) c.class.ensures c.in-Value.is c.in_ok-value-in-Value.ensures

pub returns-in_ok-pointer-in-Pointer : goal.returns-in_ok-pointer-in-Pointer
returns-in_ok-pointer-in-Pointer c =
    pointer_thrown (expression_uses (around_of c.args.a.now) c.args.expression.now) c.own_type-ty.result c.class.result c.args.behind (state_of c.args.writer.now) (state_of c.pointer.new.self) (location_of c.in_ok-pointer-in-Pointer.field-0)
    (c.own_type-ty.ensures ∙ ap own_type (sym (type_seen c.args.expression.now))) c.class.ensures c.in-Pointer.is c.in_ok-pointer-in-Pointer.ensures

pub returns-in-Owner : goal.returns-in-Owner
returns-in-Owner c =
    let x = c.args.expression.now in
    on_ok_weaker c.thrown_object.result
    (followed (state_of c.thrown_object.new.writer)
    (object_thrown (expression_uses (around_of c.args.a.now) x) c.own_type-ty.result c.class.result classes.Owner c.args.behind (state_of c.args.writer.now) refl
    (c.own_type-ty.ensures ∙ ap own_type (sym (type_seen x))) c.class.ensures c.in-Owner.is))
    c.thrown_object.ensures

pub returns-in-Aggregate : goal.returns-in-Aggregate
returns-in-Aggregate c =
    let x = c.args.expression.now in
    on_ok_weaker c.thrown_object-in-Aggregate.result
    (followed (state_of c.thrown_object-in-Aggregate.new.writer)
    (object_thrown (expression_uses (around_of c.args.a.now) x) c.own_type-ty.result c.class.result classes.Aggregate c.args.behind (state_of c.args.writer.now) refl
    (c.own_type-ty.ensures ∙ ap own_type (sym (type_seen x))) c.class.ensures c.in-Aggregate.is))
    c.thrown_object-in-Aggregate.ensures
