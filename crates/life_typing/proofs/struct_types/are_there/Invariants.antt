use Rattle.std.proofs.Common.{◌≡◌, drop}
use Rattle.life_typing.specs.StructTypes.{are_there}
use Rattle.life_typing.proofs.struct_types.are_there.Given as goal

abbrev pub invariant-ids : goal.invariant-ids
invariant-ids l =
    are_there l.types (drop l.id-index l.ids) ≡ are_there l.types l.ids
