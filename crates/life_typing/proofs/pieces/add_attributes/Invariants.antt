use Rattle.std.proofs.Common.{◌≡◌, ◌++◌, drop}
use Rattle.life_typing.specs.Pieces.{attributes_pieces}
use Rattle.life_typing.proofs.pieces.add_attributes.Given as goal

abbrev pub invariant-attributes : goal.invariant-attributes
invariant-attributes l =
    l.pieces.items ++ attributes_pieces l.environment (drop l.attribute-index l.attributes) ≡ l.initial.pieces.items ++ attributes_pieces l.environment l.attributes
