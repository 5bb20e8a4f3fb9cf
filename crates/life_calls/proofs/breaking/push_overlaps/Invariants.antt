use Rattle.life_calls.specs.Breaks.{overlaps_from}
use Rattle.life_pset.specs.Inputs.{input_seen}
use Rattle.std.proofs.Common.{◌≡◌, ◌+◌, ◌++◌, drop, map}
use Rattle.life_calls.proofs.breaking.push_overlaps.Given as goal

-- what was added, and what is left to add
abbrev pub invariant-loop-index : goal.invariant-loop-index
invariant-loop-index l =
    let from = overlaps_from l.types l.sig l.facts l.number (input_seen l.first) in
    l.out.items ++ from (l.number + 1 + l.index) (map input_seen (drop l.index l.others)) ≡ l.fn.out.items ++ from (l.number + 1) (map input_seen l.others)
