use Rattle.life_core.specs.Operands.{operand_of, source_of}
use Rattle.life_writer.specs.Views.{around_of, destination_of, state_of}
use Rattle.life_elab.proofs.ElementWriting.{owner_from_element, pointer_from_element, struct_from_element, value_from_element}
use Rattle.life_elab.proofs.ranges.element_given.Goals as goal

pub returns-in_ok-register-in-Value : goal.returns-in_ok-register-in-Value
returns-in_ok-register-in-Value c =
    let a = around_of c.args.a.now in
    value_from_element a.program.types c.args.colon c.args.iterator c.args.element c.args.ty c.class.result (destination_of c.args.destination) (state_of c.args.writer.now) (state_of c.element_value.new.writer) (state_of c.built.new.self) c.built.result c.class.ensures
    c.type_of-own.result c.in_ok-register-in-Value.register c.in-Value.is c.type_of-own.ensures c.in_ok-register-in-Value.ensures c.built.ensures

pub returns-in_ok-source-in-Pointer : goal.returns-in_ok-source-in-Pointer
returns-in_ok-source-in-Pointer c =
    let a = around_of c.args.a.now in
    pointer_from_element a.program.types c.args.colon c.args.iterator c.args.element c.args.ty c.class.result (destination_of c.args.destination) (state_of c.args.writer.now) (state_of c.args.writer.now) (state_of c.built-in-Pointer.new.self) c.built-in-Pointer.result c.class.ensures
    c.type_of-own.result (source_of c.in_ok-source-in-Pointer.source) c.in-Pointer.is c.type_of-own.ensures c.in_ok-source-in-Pointer.ensures.whole c.in_ok-source-in-Pointer.ensures.seen c.built-in-Pointer.ensures

pub returns-in-Owner : goal.returns-in-Owner
returns-in-Owner c =
    let a = around_of c.args.a.now in
    owner_from_element a.program.types c.args.colon c.args.iterator c.args.element c.args.ty c.class.result (destination_of c.args.destination) (state_of c.args.writer.now) (state_of c.args.writer.now) (state_of c.built-in-Owner.new.self) c.built-in-Owner.result c.class.ensures
    (operand_of c.through-from.result) c.in-Owner.is c.through-from.ensures c.built-in-Owner.ensures

pub returns-in-Aggregate : goal.returns-in-Aggregate
returns-in-Aggregate c =
    let a = around_of c.args.a.now in
    struct_from_element a.program.types c.args.colon c.args.iterator c.args.element c.args.ty c.class.result (destination_of c.args.destination) (state_of c.args.writer.now) (state_of c.args.writer.now) (state_of c.built-in-Aggregate.new.self) c.built-in-Aggregate.result c.class.ensures
    (operand_of c.through-from-in-Aggregate.result) c.in-Aggregate.is c.through-from-in-Aggregate.ensures c.built-in-Aggregate.ensures
