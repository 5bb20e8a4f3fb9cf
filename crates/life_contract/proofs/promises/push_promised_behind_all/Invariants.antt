use Rattle.life_contract.specs.Promises.{promised_behind}
use Rattle.life_pset.specs.Inputs.{input_seen}
use Rattle.std.proofs.Common.{◌≡◌, ◌++◌, drop, map}
use Rattle.std.specs.List.{flat_map}
use Rattle.life_contract.proofs.promises.push_promised_behind_all.Given as goal

-- what was added, and what is left to add
abbrev pub invariant-loop-input : goal.invariant-loop-input
invariant-loop-input l =
    let places = flat_map (promised_behind l.types l.sig l.ty) in
    l.out.items ++ places (map input_seen (drop l.input-index l.inputs)) ≡ l.fn.out.items ++ places (map input_seen l.inputs)
