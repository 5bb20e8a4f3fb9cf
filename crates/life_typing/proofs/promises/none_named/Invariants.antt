use Rattle.std.proofs.Common.{◌≡◌, ◌++◌, drop}
use Rattle.life_typing.specs.Promises.{none_named}
use Rattle.life_typing.proofs.promises.none_named.Given as goal

abbrev pub invariant-parameters : goal.invariant-parameters
invariant-parameters l =
    l.named.items ++ none_named (drop l.index l.parameters) ≡ none_named l.parameters
