use Rattle.std.proofs.Common.{◌≡◌, [], map, drop}
use Rattle.life_typed.specs.TypedForm.{typed_view}
use Rattle.life_type_expr.specs.Expressions.{additive_part_meaning, and_part_meaning, chained, equality_part_meaning, expr_meaning, multiplicative_part_meaning, or_part_meaning, part_meaning, relational_part_meaning}
use Rattle.life_type_expr.specs.Lists.{read_onto}
use Rattle.life_type_expr.specs.TargetViews.{targets_view}
use Rattle.life_type_expr.proofs.+exprs.Given as goal

abbrev pub invariant-chains::or_chain-parts : goal.invariant-chains::or_chain-parts
invariant-chains::or_chain-parts l =
    chained (map or_part_meaning (drop l.part-index l.part-items)) l.environment (typed_view l.typed, l.types)
    ≡ chained (map or_part_meaning l.part-items) l.environment (typed_view l.initial.typed, l.initial.types)

abbrev pub invariant-chains::and_chain-parts : goal.invariant-chains::and_chain-parts
invariant-chains::and_chain-parts l =
    chained (map and_part_meaning (drop l.part-index l.part-items)) l.environment (typed_view l.typed, l.types)
    ≡ chained (map and_part_meaning l.part-items) l.environment (typed_view l.initial.typed, l.initial.types)

abbrev pub invariant-chains::equality_chain-parts : goal.invariant-chains::equality_chain-parts
invariant-chains::equality_chain-parts l =
    chained (map equality_part_meaning (drop l.part-index l.part-items)) l.environment (typed_view l.typed, l.types)
    ≡ chained (map equality_part_meaning l.part-items) l.environment (typed_view l.initial.typed, l.initial.types)

abbrev pub invariant-chains::relational_chain-parts : goal.invariant-chains::relational_chain-parts
invariant-chains::relational_chain-parts l =
    chained (map relational_part_meaning (drop l.part-index l.part-items)) l.environment (typed_view l.typed, l.types)
    ≡ chained (map relational_part_meaning l.part-items) l.environment (typed_view l.initial.typed, l.initial.types)

abbrev pub invariant-chains::additive_chain-parts : goal.invariant-chains::additive_chain-parts
invariant-chains::additive_chain-parts l =
    chained (map additive_part_meaning (drop l.part-index l.part-items)) l.environment (typed_view l.typed, l.types)
    ≡ chained (map additive_part_meaning l.part-items) l.environment (typed_view l.initial.typed, l.initial.types)

abbrev pub invariant-chains::multiplicative_chain-parts : goal.invariant-chains::multiplicative_chain-parts
invariant-chains::multiplicative_chain-parts l =
    chained (map multiplicative_part_meaning (drop l.part-index l.part-items)) l.environment (typed_view l.typed, l.types)
    ≡ chained (map multiplicative_part_meaning l.part-items) l.environment (typed_view l.initial.typed, l.initial.types)

abbrev pub invariant-primaries::postfix_chain-parts : goal.invariant-primaries::postfix_chain-parts
invariant-primaries::postfix_chain-parts l =
    chained (map part_meaning (drop l.next-index l.next-items)) l.environment (typed_view l.typed, l.types)
    ≡ chained (map part_meaning l.next-items) l.environment (typed_view l.initial.typed, l.initial.types)

abbrev pub invariant-primaries::read_list-list : goal.invariant-primaries::read_list-list
invariant-primaries::read_list-list l =
    read_onto (targets_view l.targets) (map typed_view l.read.items) (map expr_meaning (drop l.e-index l.list)) l.environment l.types
    ≡ read_onto (targets_view l.targets) [] (map expr_meaning l.list) l.environment l.initial.types
