use Rattle.std.proofs.Common.{◌+◌, ◌*◌}
use Rattle.life_typed.specs.TypedForm.{whole}
use Rattle.life_writer.specs.Parts.{node_view, part_form}
use Rattle.life_writer.proofs.Weights.{weight}
use Rattle.life_writer.proofs.writer.Writer.+alone.Given as goal

abbrev pub decreases-part_alone : goal.decreases-part_alone
decreases-part_alone l = weight (part_form l.part) * 2 + 1

abbrev pub decreases-node_alone : goal.decreases-node_alone
decreases-node_alone l = weight (whole (node_view l.node.now)) * 2
