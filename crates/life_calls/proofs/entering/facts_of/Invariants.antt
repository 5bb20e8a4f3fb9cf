use Rattle.life_calls.specs.Facts.{fact_of, is_of}
use Rattle.std.proofs.Common.{◌≡◌, ◌++◌, drop, map}
use Rattle.std.specs.Prelude.{filter}
use Rattle.life_calls.proofs.entering.facts_of.Given as goal

-- those so far, and those among the facts that are left
abbrev pub invariant-loop-fact : goal.invariant-loop-fact
invariant-loop-fact l =
    let those = filter (is_of l.parameter) in
    map fact_of l.all.items ++ those (drop l.fact-index l.facts) ≡ those l.facts
