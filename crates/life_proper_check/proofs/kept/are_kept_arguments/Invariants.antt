use Rattle.std.proofs.Common.{◌≡◌, drop, map}
use Rattle.std.specs.List.{list_all}
use Rattle.life_core.specs.Function.{function_of}
use Rattle.life_core.specs.Operands.{argument_of}
use Rattle.life_proper.specs.GivenOver.{is_kept_argument}
use Rattle.life_proper_check.proofs.kept.are_kept_arguments.Given as goal

-- what is left decides
abbrev pub invariant-loop-argument : goal.invariant-loop-argument
invariant-loop-argument l =
    let test = is_kept_argument l.at.types.now (function_of l.at.function.now) in
    list_all test (map argument_of (drop l.argument-index l.arguments)) ≡ list_all test (map argument_of l.arguments)
