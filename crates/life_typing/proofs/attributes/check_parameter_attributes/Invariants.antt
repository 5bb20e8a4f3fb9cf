use Rattle.std.proofs.Common.{◌≡◌, drop}
use Rattle.life_typing.specs.Attributes.{parameter_attributes}
use Rattle.life_typing.proofs.attributes.check_parameter_attributes.Given as goal

abbrev pub invariant-attributes : goal.invariant-attributes
invariant-attributes l =
    parameter_attributes l.environment l.reach (drop l.attribute-index l.attributes) ≡ parameter_attributes l.environment l.reach l.attributes
