use Rattle.std.proofs.Common.{◌≡◌, drop, map}
use Rattle.life_core.specs.Function.{function_of}
use Rattle.life_elab.specs.Over.{over_functions}
use Rattle.life_elab.proofs.limits.over_functions.Given as goal

abbrev pub invariant-functions : goal.invariant-functions
invariant-functions l = over_functions l.measured.types.now (map function_of (drop l.function-index l.functions)) ≡ over_functions l.measured.types.now (map function_of l.functions)
