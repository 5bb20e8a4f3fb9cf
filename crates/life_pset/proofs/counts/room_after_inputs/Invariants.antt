use Rattle.std.proofs.Common.{◌≡◌, ◌-◌, drop, map}
use Rattle.life_pset.specs.Counts.{input_place_count}
use Rattle.life_pset.specs.Inputs.{input_seen}
use Rattle.life_pset.proofs.counts.room_after_inputs.Given as goal

abbrev pub invariant-loop-input : goal.invariant-loop-input
invariant-loop-input l =
    let count = input_place_count l.types in
    l.left - count (map input_seen (drop l.input-index l.inputs)) ≡ l.room - count (map input_seen l.inputs)
