use Rattle.std.proofs.Common.{◌≡◌, ◌++◌, drop}
use Rattle.life_typing.specs.Structs.{types_of}
use Rattle.life_typing.proofs.structs.types_of.Given as goal

abbrev pub invariant-members : goal.invariant-members
invariant-members l =
    l.types.items ++ types_of (drop l.member-index l.members) ≡ types_of l.members
