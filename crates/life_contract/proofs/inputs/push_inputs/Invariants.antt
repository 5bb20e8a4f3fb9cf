use Rattle.life_contract.specs.Inputs.{parameter_local}
use Rattle.life_pset.specs.Elements.{inputs_from}
use Rattle.life_pset.specs.Inputs.{input_seen}
use Rattle.std.proofs.Common.{◌≡◌, ◌++◌, drop, length, map}
use Rattle.life_contract.proofs.inputs.push_inputs.Given as goal

-- what was added, and what is left to add
abbrev pub invariant-loop-number : goal.invariant-loop-number
invariant-loop-number l =
    let from = inputs_from l.types (length l.parameters) in
    map input_seen l.all.items ++ from l.number (map (parameter_local l.place) (drop l.number l.parameters)) ≡ map input_seen l.fn.all.items ++ from 0 (map (parameter_local l.place) l.parameters)
