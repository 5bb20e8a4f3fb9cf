use Rattle.std.proofs.Common.{◌≡◌, ◌++◌, drop, map}
use Rattle.std.specs.List.{flat_map}
use Rattle.life_pset.specs.Elements.{input_places}
use Rattle.life_pset.specs.Inputs.{input_seen}
use Rattle.life_pset.proofs.input_list.push_input_places.Given as goal

abbrev pub invariant-loop-input : goal.invariant-loop-input
invariant-loop-input l =
    let places = flat_map (input_places l.types) in
    l.all.items ++ places (map input_seen (drop l.input-index l.inputs)) ≡ l.fn.all.items ++ places (map input_seen l.inputs)
