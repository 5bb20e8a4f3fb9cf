use Rattle.std.proofs.Common.{map, refl}
use Rattle.life_tree_tokens.proofs.Written.{listed}
use Rattle.life_tree.specs.Separated.{separated_keys}
use Rattle.life_tree.specs.Tree.{keys_of}
use Rattle.life_tree.specs.Views.{separated_tree, word_tree}
use Rattle.life_tree_tokens.proofs.program.write_words.Goals as goal

pub returns : goal.returns
returns c = listed c.write_commas.result (λ items. separated_keys c.words.started c.words.rest.now (map word_tree items)) _ _ _
    (keys_of (separated_tree c.args.commas.now.items (map word_tree c.args.words.now.items))) c.args.keys.now.items _ _
    (rw c.deref-word-items.ensures.value at c.words-test.false) refl c.words.invariant c.write_commas.ensures
