use Rattle.life_core.specs.Operands.{operand_of}
use Rattle.life_writer.specs.Views.{state_of}
use Rattle.life_elab.proofs.ElementWriting.{value_converted}
use Rattle.life_elab.proofs.ranges.element_value.Goals as goal

pub returns : goal.returns
returns c =
    value_converted c.args.own c.args.ty c.args.colon c.args.iterator (state_of c.args.writer.now) (state_of c.load.new.self) (state_of c.converted.new.self) (operand_of c.through-from.result) c.in_ok-register.register c.converted.result
    c.through-from.ensures c.in_ok-register.ensures c.converted.ensures
