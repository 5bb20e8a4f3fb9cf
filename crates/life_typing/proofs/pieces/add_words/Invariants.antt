use Rattle.std.proofs.Common.{◌≡◌, ◌++◌, drop}
use Rattle.life_typing.specs.Pieces.{words_pieces}
use Rattle.life_typing.proofs.pieces.add_words.Given as goal

abbrev pub invariant-words : goal.invariant-words
invariant-words l =
    l.pieces.items ++ words_pieces (drop l.word-index l.words) ≡ l.initial.pieces.items ++ words_pieces l.words
