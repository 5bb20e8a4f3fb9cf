use Rattle.std.proofs.Common.{◌≡◌, ◌++◌, map, drop}
use Rattle.life_tree.specs.Separated.{separated_keys}
use Rattle.life_tree.specs.Tree.{keys_of}
use Rattle.life_tree.specs.Views.{separated_tree, word_tree}
use Rattle.life_tree_tokens.proofs.program.write_words.Given as goal

abbrev pub invariant-words : goal.invariant-words
invariant-words l =
    l.keys.items ++ separated_keys l.started l.rest (map word_tree (drop l.word-index l.words.items))
    ≡ l.initial.keys.items ++ keys_of (separated_tree l.commas.items (map word_tree l.words.items))
