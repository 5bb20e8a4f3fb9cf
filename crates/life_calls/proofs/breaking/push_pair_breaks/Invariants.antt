use Rattle.life_calls.specs.Breaks.{pair_breaks}
use Rattle.life_pset.specs.Inputs.{input_seen}
use Rattle.std.proofs.Common.{◌≡◌, ◌++◌, drop, map}
use Rattle.life_calls.proofs.breaking.push_pair_breaks.Given as goal

-- what was added, and what is left to add
abbrev pub invariant-loop-number : goal.invariant-loop-number
invariant-loop-number l =
    let from = pair_breaks l.types l.sig l.facts in
    l.out.items ++ from l.number (map input_seen (drop l.number l.inputs)) ≡ l.fn.out.items ++ from 0 (map input_seen l.inputs)
