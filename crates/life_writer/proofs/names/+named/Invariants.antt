use Rattle.std.proofs.Common.{◌+◌, ◌*◌}
use Rattle.life_typed.specs.TypedForm.{whole}
use Rattle.life_writer.specs.Parts.{node_view, part_form}
use Rattle.life_writer.proofs.Weights.{weight}
use Rattle.life_writer.proofs.names.+named.Given as goal

abbrev pub decreases-part_named : goal.decreases-part_named
decreases-part_named l = weight (part_form l.part) * 2 + 1

abbrev pub decreases-node_named : goal.decreases-node_named
decreases-node_named l = weight (whole (node_view l.node.now)) * 2
