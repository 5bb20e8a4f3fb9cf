use Rattle.std.proofs.Common.{◌≡◌, ◌++◌, map, drop}
use Rattle.life_tree.specs.Tree.{keys_of}
use Rattle.life_tree.specs.Views.{list_tree, print_part_tree}
use Rattle.life_tree_tokens.proofs.stmt.write_print_parts.Given as goal

abbrev pub invariant-parts : goal.invariant-parts
invariant-parts l =
    l.keys.items ++ keys_of (list_tree (map print_part_tree (drop l.part-index l.parts.items)))
    ≡ l.initial.keys.items ++ keys_of (list_tree (map print_part_tree l.parts.items))
