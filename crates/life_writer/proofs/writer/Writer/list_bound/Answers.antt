use Rattle.life_typed.specs.Delimiters.{delimiters_view}
use Rattle.life_core.specs.Operands.{operand_of}
use Rattle.life_writer.specs.PartUses.{expressions_uses}
use Rattle.life_writer.specs.Views.{around_of, state_of}
use Rattle.life_writer.proofs.ListsGiven.{list_bound}
use Rattle.life_writer.proofs.writer.Writer.list_bound.Goals as goal

pub returns : goal.returns
returns c =
    let a = around_of c.args.a.now in
    list_bound a c.args.opening (expressions_uses a c.args.elements.now) (delimiters_view c.args.delimiters.now) c.args.behind (state_of c.args.self.now) c.args.target c.type_of-ty.result
    (state_of c.list_given.new.self) c.in_ok-local.local (operand_of c.name-place.result) c.type_of-ty.ensures c.in_ok-local.ensures c.name-place.ensures
