use Rattle.std.proofs.Common.{◌≡◌, drop}
use Rattle.life_typing.specs.Headers.{known_view, nothing_known, parameter_types}
use Rattle.life_typing.proofs.headers.parameter_types.Given as goal

abbrev pub invariant-parameters : goal.invariant-parameters
invariant-parameters l =
    parameter_types l.structs l.returned (known_view l.known) (drop l.parameter-index l.parameters) l.environment l.types ≡ parameter_types l.structs l.returned nothing_known l.parameters l.environment l.initial.types
