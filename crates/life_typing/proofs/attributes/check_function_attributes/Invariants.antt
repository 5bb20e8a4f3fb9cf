use Rattle.std.proofs.Common.{◌≡◌, drop}
use Rattle.life_typing.specs.Attributes.{function_attributes}
use Rattle.life_typing.proofs.attributes.check_function_attributes.Given as goal

abbrev pub invariant-attributes : goal.invariant-attributes
invariant-attributes l =
    function_attributes l.environment l.returned l.parameters (drop l.attribute-index l.attributes) ≡ function_attributes l.environment l.returned l.parameters l.attributes
