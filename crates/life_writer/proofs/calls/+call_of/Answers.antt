use Rattle.std.proofs.Common.{ap, ◌∙◌}
use Rattle.life_writer.specs.Calls.{expression_call}
use Rattle.life_writer.proofs.calls.+call_of.Goals as goal

pub part_call-returns : goal.part_call-returns
part_call-returns t c = c.node_call.ensures ∙ ap expression_call c.opened.ensures
