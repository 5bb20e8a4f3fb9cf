use Rattle.std.proofs.Common.{◌≡◌, ◌++◌, drop}
use Rattle.life_typing.specs.Promises.{named_numbers}
use Rattle.life_typing.proofs.promises.named_numbers.Given as goal

abbrev pub invariant-parameters : goal.invariant-parameters
invariant-parameters l =
    l.numbers.items ++ named_numbers l.environment l.named (drop l.parameter-index l.parameters) ≡ named_numbers l.environment l.named l.parameters
