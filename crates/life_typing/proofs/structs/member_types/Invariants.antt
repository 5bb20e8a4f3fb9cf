use Rattle.std.proofs.Common.{◌≡◌, drop}
use Rattle.life_typing.specs.Structs.{member_types, members_behind, with_found}
use Rattle.life_typing.proofs.structs.member_types.Given as goal

abbrev pub invariant-members : goal.invariant-members
invariant-members l =
    with_found l.found.items (members_behind l.names.keys (drop l.member-index l.members) l.environment l.types) ≡ member_types l.members l.environment l.initial.types
