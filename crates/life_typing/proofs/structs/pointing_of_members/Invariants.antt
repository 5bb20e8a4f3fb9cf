use Rattle.std.proofs.Common.{◌≡◌, drop}
use Rattle.life_typing.specs.Structs.{pointing_of_members, pointing_with}
use Rattle.life_typing.proofs.structs.pointing_of_members.Given as goal

abbrev pub invariant-members : goal.invariant-members
invariant-members l =
    pointing_with l.types l.structs l.all (drop l.member-index l.members) ≡ pointing_of_members l.types l.structs l.members
