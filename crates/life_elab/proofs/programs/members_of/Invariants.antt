use Rattle.std.proofs.Common.{◌≡◌, ◌++◌, drop, map}
use Rattle.life_typed.specs.Programs.{struct_view}
use Rattle.life_core.specs.Function.{member_names}
use Rattle.life_elab.specs.Programs as spec
use Rattle.life_elab.proofs.programs.members_of.Given as goal

abbrev pub invariant-structs : goal.invariant-structs
invariant-structs l =
    map member_names l.members.items ++ map spec.member_names (map struct_view (drop l.structure-index l.structs))
    ≡ map spec.member_names (map struct_view l.structs)
