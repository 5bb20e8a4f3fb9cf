use Rattle.std.proofs.Common.{◌≡◌, drop}
use Rattle.life_type_expr.specs.Members.{member_from}
use Rattle.life_type_expr.proofs.members.member_named.Given as goal

abbrev pub invariant-members : goal.invariant-members
invariant-members l = member_from l.number (drop l.number l.members) l.name ≡ member_from 0 l.members l.name
