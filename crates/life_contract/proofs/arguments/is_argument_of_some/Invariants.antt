use Rattle.life_contract.specs.Arguments.{is_argument_of}
use Rattle.life_contract.specs.Inputs.{is_mutating}
use Rattle.life_core.specs.Operands.{argument_of}
use Rattle.life_pset.specs.Inputs.{input_seen}
use Rattle.std.proofs.Common.{◌≡◌, drop, map}
use Rattle.std.specs.List.{list_any}
use Rattle.std.specs.Prelude.{◌&&◌}
use Rattle.life_contract.proofs.arguments.is_argument_of_some.Given as goal

-- what is left decides
abbrev pub invariant-loop-input : goal.invariant-loop-input
invariant-loop-input l =
    let some = list_any (λ i. is_mutating l.types l.sig i && is_argument_of (map argument_of l.arguments) i l.location) in
    some (map input_seen (drop l.input-index l.inputs)) ≡ some (map input_seen l.inputs)
