use Rattle.std.proofs.Common.{◌≡◌, drop}
use Rattle.life_typing.specs.Parameters.{parameters_forgotten}
use Rattle.life_typing.proofs.parameters.forget_parameters.Given as goal

abbrev pub invariant-parameters : goal.invariant-parameters
invariant-parameters l =
    parameters_forgotten (drop l.parameter-index l.parameters) l.environment ≡ parameters_forgotten l.parameters l.initial.environment
