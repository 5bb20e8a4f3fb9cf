use Rattle.std.proofs.Common.{◌≡◌, drop, map}
use Rattle.life_typed.specs.Programs.{struct_view}
use Rattle.life_elab.specs.Over.{over_structs}
use Rattle.life_elab.proofs.limits.over_structs.Given as goal

abbrev pub invariant-structs : goal.invariant-structs
invariant-structs l = over_structs l.measured.types.now l.index (map struct_view (drop l.index l.structs)) ≡ over_structs l.measured.types.now 0 (map struct_view l.structs)
