use Rattle.std.proofs.Common.{◌≡◌, drop}
use Rattle.life_elab.specs.KeptPaths.{of_members, of_members_from}
use Rattle.life_elab.proofs.paths.of_members.Given as goal

-- those that were passed, and those that are left
abbrev pub invariant-members : goal.invariant-members
invariant-members l = of_members_from l.all l.paths (drop l.member-index l.members) ≡ of_members l.all l.members
