use Rattle.std.proofs.Common.{◌≡◌, drop, map}
use Rattle.std.specs.List.{list_all}
use Rattle.life_core.specs.Function.{function_of, program_of}
use Rattle.life_proper.specs.Checking.{checked, is_checked}
use Rattle.life_proper.proofs.checker.is_proper.Given as goal

-- what is left decides
abbrev pub invariant-loop-f : goal.invariant-loop-f
invariant-loop-f l =
    list_all (is_checked l.p.types) (map function_of (drop l.f-index l.p.functions.items)) ≡ checked (program_of l.p)
