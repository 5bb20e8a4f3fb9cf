use Rattle.std.proofs.Common.{◌≡◌, drop}
use Rattle.life_typing.specs.Attributes.{words_fit}
use Rattle.life_typing.proofs.attributes.words_fit.Given as goal

abbrev pub invariant-words : goal.invariant-words
invariant-words l =
    words_fit l.environment l.returned l.parameters (drop l.word-index l.words) ≡ words_fit l.environment l.returned l.parameters l.words
