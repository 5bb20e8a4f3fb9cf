use Rattle.std.proofs.Common.{◌≡◌, drop}
use Rattle.life_typing.specs.Parameters.{parameter_rules}
use Rattle.life_typing.proofs.parameters.check_parameters.Given as goal

abbrev pub invariant-parameters : goal.invariant-parameters
invariant-parameters l =
    (l.index ≡ l.parameter-index)
    × (parameter_rules l.environment l.known l.hides l.index (drop l.parameter-index l.parameters) ≡ parameter_rules l.environment l.known l.hides 0 l.parameters)
