use Rattle.std.proofs.Common.{◌≡◌, ◌++◌, drop, map}
use Rattle.life_types.specs.Facts.{ids_of}
use Rattle.life_types.proofs.table.copied_structs.Given as goal

abbrev pub invariant-structs : goal.invariant-structs
invariant-structs l = map ids_of l.copies.items ++ map ids_of (drop l.members-index l.structs) ≡ map ids_of l.structs
