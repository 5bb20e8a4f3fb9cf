use Rattle.std.proofs.Common.{◌≡◌, map, drop}
use Rattle.life_typed.specs.TypedForm.{typed_view}
use Rattle.life_type_stmt.proofs.EachInTurn.{with_found}
use Rattle.life_type_stmt.proofs.autos.lone_elements.Given as goal
use Rattle.life_type_stmt.specs.Autos.{lone_element}
use Rattle.life_type_stmt.specs.Each.{each}

abbrev pub invariant-elements : goal.invariant-elements
invariant-elements l =
    with_found (map typed_view l.found.items) (each lone_element (drop l.element-index l.list) l.environment l.types)
    ≡ each lone_element l.list l.environment l.initial.types
