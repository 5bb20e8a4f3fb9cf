use Rattle.std.proofs.Common.{◌≡◌, drop, map}
use Rattle.std.specs.List.{list_all}
use Rattle.life_core.specs.Function.{function_of}
use Rattle.life_core_served.specs.ProperPrograms.{has_own_breaks}
use Rattle.life_proper_check.proofs.check.have_own_breaks.Given as goal

-- what is left decides
abbrev pub invariant-loop-f : goal.invariant-loop-f
invariant-loop-f l = list_all has_own_breaks (map function_of (drop l.f-index l.functions)) ≡ list_all has_own_breaks (map function_of l.functions)
