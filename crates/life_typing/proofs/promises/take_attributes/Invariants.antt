use Rattle.std.proofs.Common.{◌≡◌, drop}
use Rattle.life_typing.specs.Promises.{ret_words, with_attributes}
use Rattle.life_typing.proofs.promises.take_attributes.Given as goal

abbrev pub invariant-attributes : goal.invariant-attributes
invariant-attributes l =
    with_attributes l.environment (drop l.attribute-index l.attributes) (ret_words l.words) ≡ with_attributes l.environment l.attributes (ret_words l.initial.words)
