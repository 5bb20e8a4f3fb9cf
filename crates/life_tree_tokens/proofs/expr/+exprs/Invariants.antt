use Rattle.std.proofs.Common.{◌≡◌, ◌++◌, map, drop}
use Rattle.life_tree.specs.Separated.{separated_keys}
use Rattle.life_tree.specs.Tree.{keys_of}
use Rattle.life_tree.specs.Views.{additive_part_tree, and_part_tree, equality_part_tree, expr_tree, list_tree, multiplicative_part_tree, or_part_tree, postfix_part_tree, relational_part_tree, separated_tree}
use Rattle.life_tree_tokens.proofs.expr.+exprs.Given as goal

abbrev pub invariant-write_expr-parts : goal.invariant-write_expr-parts
invariant-write_expr-parts l =
    l.keys.items ++ keys_of (list_tree (map or_part_tree (drop l.part-index l.part-items)))
    ≡ l.initial.keys.items ++ keys_of (list_tree (map or_part_tree l.part-items))

abbrev pub invariant-write_logical_and-parts : goal.invariant-write_logical_and-parts
invariant-write_logical_and-parts l =
    l.keys.items ++ keys_of (list_tree (map and_part_tree (drop l.part-index l.part-items)))
    ≡ l.initial.keys.items ++ keys_of (list_tree (map and_part_tree l.part-items))

abbrev pub invariant-write_equality-parts : goal.invariant-write_equality-parts
invariant-write_equality-parts l =
    l.keys.items ++ keys_of (list_tree (map equality_part_tree (drop l.part-index l.part-items)))
    ≡ l.initial.keys.items ++ keys_of (list_tree (map equality_part_tree l.part-items))

abbrev pub invariant-write_relational-parts : goal.invariant-write_relational-parts
invariant-write_relational-parts l =
    l.keys.items ++ keys_of (list_tree (map relational_part_tree (drop l.part-index l.part-items)))
    ≡ l.initial.keys.items ++ keys_of (list_tree (map relational_part_tree l.part-items))

abbrev pub invariant-write_additive-parts : goal.invariant-write_additive-parts
invariant-write_additive-parts l =
    l.keys.items ++ keys_of (list_tree (map additive_part_tree (drop l.part-index l.part-items)))
    ≡ l.initial.keys.items ++ keys_of (list_tree (map additive_part_tree l.part-items))

abbrev pub invariant-write_multiplicative-parts : goal.invariant-write_multiplicative-parts
invariant-write_multiplicative-parts l =
    l.keys.items ++ keys_of (list_tree (map multiplicative_part_tree (drop l.part-index l.part-items)))
    ≡ l.initial.keys.items ++ keys_of (list_tree (map multiplicative_part_tree l.part-items))

abbrev pub invariant-write_postfix-parts : goal.invariant-write_postfix-parts
invariant-write_postfix-parts l =
    l.keys.items ++ keys_of (list_tree (map postfix_part_tree (drop l.part-index l.part-items)))
    ≡ l.initial.keys.items ++ keys_of (list_tree (map postfix_part_tree l.part-items))

abbrev pub invariant-write_separated-list : goal.invariant-write_separated-list
invariant-write_separated-list l =
    l.keys.items ++ separated_keys l.started l.rest (map expr_tree (drop l.expr-index l.exprs))
    ≡ l.initial.keys.items ++ keys_of (separated_tree l.commas.items (map expr_tree l.exprs))
