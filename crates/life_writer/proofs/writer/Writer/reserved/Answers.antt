use Rattle.std.proofs.lemmas.Result.{on_ok_weaker}
use Rattle.life_typed.specs.Delimiters.{delimiters_view}
use Rattle.life_core.specs.Operands.{operand_of}
use Rattle.life_writer.specs.PartUses.{part_uses}
use Rattle.life_writer.specs.Views.{around_of, state_of}
use Rattle.life_writer.proofs.FirstOperands.{reserved_first}
use Rattle.life_writer.proofs.writer.Writer.reserved.Goals as goal

pub returns : goal.returns
returns c =
    let a = around_of c.args.a.now in
    on_ok_weaker c.emit.result
    (λ written. reserved_first a (part_uses a c.args.base) c.args.arguments.now c.first.result c.in-Some.count c.first.ensures c.in-Some.is (delimiters_view c.args.delimiters.now) c.behind.result c.args.at
    (state_of c.args.self.now) (state_of c.part_operand.new.self) (state_of c.part_value.new.self) (state_of c.emit.new.self) (operand_of c.in_ok-place.place) c.in_ok-count.count
    c.in_ok-place.ensures c.behind.ensures c.in_ok-count.ensures written)
    c.emit.ensures
