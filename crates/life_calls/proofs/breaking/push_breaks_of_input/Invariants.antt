use Rattle.life_calls.specs.Breaks.{breaks_of_fact}
use Rattle.life_pset.specs.Inputs.{input_seen}
use Rattle.std.proofs.Common.{◌≡◌, ◌++◌, drop}
use Rattle.std.specs.List.{flat_map}
use Rattle.life_calls.proofs.breaking.push_breaks_of_input.Given as goal

-- what was added, and what is left to add
abbrev pub invariant-loop-fact : goal.invariant-loop-fact
invariant-loop-fact l =
    let those = flat_map (breaks_of_fact l.types l.sig (input_seen l.input)) in
    l.out.items ++ those (drop l.fact-index l.facts) ≡ l.fn.out.items ++ those l.facts
