-- What arguments and lists initialise, as the program has it.
use Rattle.life_type_expr.specs.Lists.{Targets as SeenTargets, elements, members, method_parameters, nothing, optional, parameters}
use Rattle.life_type_expr.specs.declared.targets.Targets.{Targets}
use Rattle.life_type_expr.specs.declared.targets.Targets.TheVariants as targets

abbrev pub targets_view : Targets → SeenTargets
targets_view (targets.Parameters ids) = parameters ids.now
targets_view (targets.Method p) = method_parameters p
targets_view (targets.Members ms) = members ms.now
targets_view (targets.Elements id) = elements id
targets_view (targets.Optional id) = optional id
targets_view targets.Nothing = nothing
