use Rattle.std.proofs.Common.{◌≡◌, drop, map}
use Rattle.life_core.specs.Function.{function_of}
use Rattle.life_proper.specs.WellFormedPrograms.{have_own_names}
use Rattle.life_proper_check.proofs.headers.have_own_names.Given as goal

-- what is left decides
abbrev pub invariant-loop-number : goal.invariant-loop-number
invariant-loop-number l = have_own_names (map function_of (drop l.number l.functions)) ≡ have_own_names (map function_of l.functions)
