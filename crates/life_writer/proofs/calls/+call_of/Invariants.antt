use Rattle.std.proofs.Common.{◌+◌, ◌*◌}
use Rattle.life_writer.specs.Parts.{node_form, part_form}
use Rattle.life_writer.proofs.Weights.{weight}
use Rattle.life_writer.proofs.calls.+call_of.Given as goal

abbrev pub decreases-part_call : goal.decreases-part_call
decreases-part_call l = weight (part_form l.part) * 2 + 1

abbrev pub decreases-node_call : goal.decreases-node_call
decreases-node_call l = weight (node_form l.node) * 2
