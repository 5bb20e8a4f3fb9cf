-- What is assigned to, as the code has it.
use Rattle.std.specs.Prelude.{Some}
use Rattle.life_core.specs.Operands.{object_named}
use Rattle.life_writer.specs.Around.{Around}
use Rattle.life_writer.specs.Assigning.{Target}
use Rattle.life_writer.specs.Lists.{member_target}
use Rattle.life_writer.specs.PartUses.{part_uses}
use Rattle.life_writer.specs.Uses.{Uses, own}
use Rattle.life_writer.specs.Using.{operand, pointer}
use Rattle.life_writer.specs.declared.assigning.Target.{Target as Assigned}
use Rattle.life_writer.specs.declared.assigning.Target.TheVariants as assigned

-- a place, or where a pointer lies
abbrev pub place_target : Uses → Target
place_target e = record { operand = operand e; location = pointer e (own e) }

abbrev pub target_of : Around → Assigned → Target
target_of a (assigned.Part p) = place_target (part_uses a (Some p))
target_of a (assigned.Member x m) = member_target m (object_named x)
