use Rattle.std.proofs.Common.{◌≡◌, drop, map}
use Rattle.std.specs.List.{list_any}
use Rattle.life_core.specs.Function.{function_of}
use Rattle.life_proper.specs.WellFormedPrograms.{is_of_name}
use Rattle.life_proper_check.proofs.headers.is_among.Given as goal

-- what is left decides
abbrev pub invariant-loop-function : goal.invariant-loop-function
invariant-loop-function l = list_any (is_of_name l.name) (map function_of (drop l.function-index l.functions)) ≡ list_any (is_of_name l.name) (map function_of l.functions)
