use Rattle.std.proofs.Common.{◌≡◌, ◌≤◌, drop, length, map}
use Rattle.life_core.specs.Function.{function_of}
use Rattle.life_core.specs.Operands.{argument_of}
use Rattle.life_proper.specs.WellFormed.{are_arguments_for, local_type}
use Rattle.life_proper_check.proofs.forms.are_arguments_for.Given as goal

-- what is left decides
abbrev pub invariant-loop-argument : goal.invariant-loop-argument
invariant-loop-argument l =
    let are = are_arguments_for l.at.types.now l.at.texts (map function_of l.at.functions.now) (function_of l.at.function.now) in
    (l.next ≤ length l.taken)
    × (are (map local_type (drop l.next l.taken)) (map argument_of (drop l.argument-index l.arguments)) ≡ are (map local_type l.taken) (map argument_of l.arguments))
