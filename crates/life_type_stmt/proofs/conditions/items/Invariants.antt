use Rattle.std.proofs.Common.{◌≡◌, map, drop}
use Rattle.life_typed.specs.TypedStatement.{item_view}
use Rattle.life_type_stmt.proofs.EachInTurn.{with_found}
use Rattle.life_type_stmt.proofs.conditions.items.Given as goal
use Rattle.life_type_stmt.specs.Conditions.{part_item}
use Rattle.life_type_stmt.specs.Each.{each}

abbrev pub invariant-parts : goal.invariant-parts
invariant-parts l =
    with_found (map item_view l.found.items) (each part_item (drop l.part-index l.parts) l.environment l.types)
    ≡ each part_item l.parts l.environment l.initial.types
