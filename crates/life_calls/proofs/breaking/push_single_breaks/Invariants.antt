use Rattle.life_calls.specs.Breaks.{breaks_of_input}
use Rattle.life_pset.specs.Inputs.{input_seen}
use Rattle.std.proofs.Common.{◌≡◌, ◌++◌, drop, map}
use Rattle.std.specs.List.{flat_map}
use Rattle.life_calls.proofs.breaking.push_single_breaks.Given as goal

-- what was added, and what is left to add
abbrev pub invariant-loop-input : goal.invariant-loop-input
invariant-loop-input l =
    let those = flat_map (breaks_of_input l.types l.sig l.facts) in
    l.out.items ++ those (map input_seen (drop l.input-index l.inputs)) ≡ l.fn.out.items ++ those (map input_seen l.inputs)
