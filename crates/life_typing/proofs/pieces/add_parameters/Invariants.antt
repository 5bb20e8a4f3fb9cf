use Rattle.std.proofs.Common.{◌≡◌, ◌++◌, drop}
use Rattle.life_typing.specs.Pieces.{parameters_pieces}
use Rattle.life_typing.proofs.pieces.add_parameters.Given as goal

abbrev pub invariant-parameters : goal.invariant-parameters
invariant-parameters l =
    l.pieces.items ++ parameters_pieces l.environment (drop l.parameter-index l.parameters) ≡ l.initial.pieces.items ++ parameters_pieces l.environment l.parameters
