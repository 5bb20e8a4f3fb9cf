use Rattle.std.proofs.Common.{◌≡◌, ◌++◌, drop}
use Rattle.life_typing.specs.Promises.{parameter_promises}
use Rattle.life_typing.proofs.promises.parameter_promises.Given as goal

abbrev pub invariant-parameters : goal.invariant-parameters
invariant-parameters l =
    l.promises.items ++ parameter_promises l.environment (drop l.parameter-index l.parameters) ≡ parameter_promises l.environment l.parameters
