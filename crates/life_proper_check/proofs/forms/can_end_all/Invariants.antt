use Rattle.std.proofs.Common.{◌≡◌, drop, map}
use Rattle.std.specs.List.{list_all}
use Rattle.life_core.specs.Function.{function_of}
use Rattle.life_proper.specs.WellFormed.{can_end}
use Rattle.life_proper_check.proofs.forms.can_end_all.Given as goal

-- what is left decides
abbrev pub invariant-loop-x : goal.invariant-loop-x
invariant-loop-x l =
    let test = can_end l.at.types.now l.at.texts (map function_of l.at.functions.now) (function_of l.at.function.now) in
    list_all test (drop l.x-index l.xs) ≡ list_all test l.xs
