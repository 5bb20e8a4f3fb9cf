use Rattle.std.proofs.Common.{◌≡◌, drop}
use Rattle.life_pset.specs.Shapes.{members_type}
use Rattle.life_pset.proofs.shape.members_type.Given as goal

abbrev pub invariant-loop-member : goal.invariant-loop-member
invariant-loop-member l = members_type l.types l.here (drop l.member-index l.members) ≡ members_type l.types l.fn.id l.members
