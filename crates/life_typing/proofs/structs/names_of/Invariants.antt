use Rattle.std.proofs.Common.{◌≡◌, ◌++◌, drop}
use Rattle.life_typing.specs.Structs.{names_of}
use Rattle.life_typing.proofs.structs.names_of.Given as goal

abbrev pub invariant-members : goal.invariant-members
invariant-members l =
    l.names.items ++ names_of (drop l.member-index l.members) ≡ names_of l.members
