use Rattle.std.proofs.Common.{◌≡◌, ◌++◌, map, drop}
use Rattle.life_tree.specs.Tree.{keys_of}
use Rattle.life_tree.specs.Views.{list_tree, definition_tree}
use Rattle.life_tree_tokens.proofs.program.write_definitions.Given as goal

abbrev pub invariant-definitions : goal.invariant-definitions
invariant-definitions l =
    l.keys.items ++ keys_of (list_tree (map definition_tree (drop l.definition-index l.definitions.items)))
    ≡ l.initial.keys.items ++ keys_of (list_tree (map definition_tree l.definitions.items))
