use Rattle.std.proofs.Common.{◌≡◌, ◌++◌, drop, map}
use Rattle.life_pset.specs.Elements.{inputs_from}
use Rattle.life_pset.specs.Inputs.{input_seen}
use Rattle.life_pset.proofs.input_list.inputs.Given as goal

abbrev pub invariant-loop-number : goal.invariant-loop-number
invariant-loop-number l =
    let from = inputs_from l.types l.f.parameters in
    map input_seen l.all.items ++ from l.number (drop l.number l.local-items) ≡ from 0 l.local-items
