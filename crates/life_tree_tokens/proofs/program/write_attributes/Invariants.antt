use Rattle.std.proofs.Common.{◌≡◌, ◌++◌, map, drop}
use Rattle.life_tree.specs.Tree.{keys_of}
use Rattle.life_tree.specs.Views.{list_tree, attribute_tree}
use Rattle.life_tree_tokens.proofs.program.write_attributes.Given as goal

abbrev pub invariant-attributes : goal.invariant-attributes
invariant-attributes l =
    l.keys.items ++ keys_of (list_tree (map attribute_tree (drop l.attribute-index l.attributes.items)))
    ≡ l.initial.keys.items ++ keys_of (list_tree (map attribute_tree l.attributes.items))
