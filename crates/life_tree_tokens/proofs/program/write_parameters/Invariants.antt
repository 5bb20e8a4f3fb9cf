use Rattle.std.proofs.Common.{◌≡◌, ◌++◌, map, drop}
use Rattle.life_tree.specs.Separated.{separated_keys}
use Rattle.life_tree.specs.Tree.{keys_of}
use Rattle.life_tree.specs.Views.{separated_tree, parameter_tree}
use Rattle.life_tree_tokens.proofs.program.write_parameters.Given as goal

abbrev pub invariant-parameters : goal.invariant-parameters
invariant-parameters l =
    l.keys.items ++ separated_keys l.started l.rest (map parameter_tree (drop l.parameter-index l.parameters.items))
    ≡ l.initial.keys.items ++ keys_of (separated_tree l.commas.items (map parameter_tree l.parameters.items))
