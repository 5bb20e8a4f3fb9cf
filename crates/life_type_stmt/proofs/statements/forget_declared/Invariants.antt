use Rattle.std.proofs.Common.{◌≡◌, map, drop}
use Rattle.life_type_stmt.proofs.statements.forget_declared.Given as goal
use Rattle.life_names.specs.Environment.{forgotten}
use Rattle.life_type_stmt.specs.Statements.{item_part, names_of}

abbrev pub invariant-items : goal.invariant-items
invariant-items l = forgotten (names_of (map item_part (drop l.item-index l.items))) l.environment ≡ forgotten (names_of (map item_part l.items)) l.initial.environment
