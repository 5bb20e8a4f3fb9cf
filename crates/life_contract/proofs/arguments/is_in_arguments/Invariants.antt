use Rattle.life_contract.specs.Arguments.{is_in_arguments}
use Rattle.life_core.specs.Operands.{argument_of}
use Rattle.std.proofs.Common.{◌≡◌, drop, map}
use Rattle.life_contract.proofs.arguments.is_in_arguments.Given as goal

-- what is left decides
abbrev pub invariant-loop-argument : goal.invariant-loop-argument
invariant-loop-argument l = is_in_arguments (map argument_of (drop l.argument-index l.arguments)) l.location ≡ is_in_arguments (map argument_of l.arguments) l.location
