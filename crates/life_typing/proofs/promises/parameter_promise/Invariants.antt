use Rattle.std.proofs.Common.{◌≡◌, drop}
use Rattle.life_typing.specs.Promises.{parameter_promise, promise_with_all}
use Rattle.life_typing.proofs.promises.parameter_promise.Given as goal

abbrev pub invariant-attributes : goal.invariant-attributes
invariant-attributes l =
    promise_with_all l.environment l.promise (drop l.attribute-index l.attributes) ≡ parameter_promise l.environment l.attributes
