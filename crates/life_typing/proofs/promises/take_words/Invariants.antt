use Rattle.std.proofs.Common.{◌≡◌, drop}
use Rattle.life_typing.specs.Promises.{ret_words, with_words}
use Rattle.life_typing.proofs.promises.take_words.Given as goal

abbrev pub invariant-list : goal.invariant-list
invariant-list l =
    with_words l.environment (drop l.word-index l.list) (ret_words l.words) ≡ with_words l.environment l.list (ret_words l.initial.words)
