use Rattle.std.proofs.Common.{◌≡◌, drop}
use Rattle.life_typing.specs.Parameters.{declared_behind, parameters_declared}
use Rattle.life_typing.proofs.parameters.declare_parameters.Given as goal

abbrev pub invariant-parameters : goal.invariant-parameters
invariant-parameters l =
    declared_behind l.hides.items l.known (drop l.parameter-index l.parameters) l.environment ≡ parameters_declared l.known l.parameters l.initial.environment
