use Rattle.std.proofs.Common.{map, refl}
use Rattle.life_tree_tokens.proofs.Written.{listed}
use Rattle.life_tree.specs.Separated.{separated_keys}
use Rattle.life_tree.specs.Tree.{keys_of}
use Rattle.life_tree.specs.Views.{parameter_tree, separated_tree}
use Rattle.life_tree_tokens.proofs.program.write_parameters.Goals as goal

pub returns : goal.returns
returns c = listed c.write_commas.result (λ items. separated_keys c.parameters.started c.parameters.rest.now (map parameter_tree items)) _ _ _
    (keys_of (separated_tree c.args.commas.now.items (map parameter_tree c.args.parameters.now.items))) c.args.keys.now.items _ _
    (rw c.deref-parameter-items.ensures.value at c.parameters-test.false) refl c.parameters.invariant c.write_commas.ensures
