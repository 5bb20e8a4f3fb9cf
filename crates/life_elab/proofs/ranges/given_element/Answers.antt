use Rattle.std.proofs.Common.{Bool, Option, Some, ap, sym, ◌∙◌}
use Rattle.std.proofs.lemmas.Result.{on_ok_weaker}
use Rattle.life_types.specs.Types.{class}
use Rattle.life_types.specs.declared.ty.TyId.{TyId}
use Rattle.life_writer.specs.Around.{type_of}
use Rattle.life_writer.specs.Views.{around_of, destination_of, state_of}
use Rattle.life_elab.specs.RangeForms.{element_at, given_element}
use Rattle.life_elab.proofs.ElementWriting.{owner_declared, pointer_declared, struct_declared, value_declared}
use Rattle.life_elab.proofs.ranges.given_element.Goals as goal

pub returns-in_ok-element_initial-in-Value : goal.returns-in_ok-element_initial-in-Value
returns-in_ok-element_initial-in-Value c =
    let a = around_of c.args.a.now in let v = c.args.variable.now in let it = c.args.iterator in let s = state_of c.args.writer.now in
    value_declared a v c.args.colon it (element_at a.program.types c.args.colon it (Some c.in-Some.element)) c.type_of-ty.result c.class.result s (state_of c.element_initial.new.writer) c.type_of-ty.ensures c.class.ensures
    (destination_of c.home-goal.result) c.home-goal.ensures c.in_ok-element_initial-in-Value.field-0 c.in-Value.is c.in_ok-element_initial-in-Value.ensures
    ∙ ap (λ (x : Option (TyId × Bool)). given_element a (class (Some (type_of a v.ty))) v c.args.colon it (element_at a.program.types c.args.colon it x) s) (sym c.in-Some.is)

pub returns-in_ok-element_initial-in-Pointer : goal.returns-in_ok-element_initial-in-Pointer
returns-in_ok-element_initial-in-Pointer c =
    let a = around_of c.args.a.now in let v = c.args.variable.now in let it = c.args.iterator in let s = state_of c.args.writer.now in
    pointer_declared a v c.args.colon it (element_at a.program.types c.args.colon it (Some c.in-Some.element)) c.type_of-ty.result c.class.result s (state_of c.element_initial-in-Pointer.new.writer) c.type_of-ty.ensures c.class.ensures
    (destination_of c.home-goal.result) c.home-goal.ensures c.in_ok-element_initial-in-Pointer.field-0 c.in-Pointer.is c.in_ok-element_initial-in-Pointer.ensures
    ∙ ap (λ (x : Option (TyId × Bool)). given_element a (class (Some (type_of a v.ty))) v c.args.colon it (element_at a.program.types c.args.colon it x) s) (sym c.in-Some.is)

pub returns-in-Owner : goal.returns-in-Owner
returns-in-Owner c =
    let a = around_of c.args.a.now in let v = c.args.variable.now in let it = c.args.iterator in let s = state_of c.args.writer.now in
    on_ok_weaker c.copied_element.result
    (owner_declared a v c.args.colon it (element_at a.program.types c.args.colon it c.args.element) c.type_of-ty.result c.class.result s (state_of c.copied_element.new.writer) c.type_of-ty.ensures c.class.ensures
    (destination_of c.home-goal.result) c.home-goal.ensures c.in-Owner.is)
    c.copied_element.ensures

pub returns-in-Aggregate : goal.returns-in-Aggregate
returns-in-Aggregate c =
    let a = around_of c.args.a.now in let v = c.args.variable.now in let it = c.args.iterator in let s = state_of c.args.writer.now in
    on_ok_weaker c.copied_element-in-Aggregate.result
    (struct_declared a v c.args.colon it (element_at a.program.types c.args.colon it c.args.element) c.type_of-ty.result c.class.result s (state_of c.copied_element-in-Aggregate.new.writer) c.type_of-ty.ensures c.class.ensures
    (destination_of c.home-goal.result) c.home-goal.ensures c.in-Aggregate.is)
    c.copied_element-in-Aggregate.ensures
