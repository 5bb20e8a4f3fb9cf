use Rattle.std.proofs.Common.{◌≡◌, ◌++◌, drop, Some}
use Rattle.std.specs.List.{flat_map}
use Rattle.life_core.specs.Function.{function_of}
use Rattle.life_core.specs.Node.{spot_seen}
use Rattle.life_rules.specs.Diagnosing.{diags_at}
use Rattle.life_fix.proofs.diagnosis.push_facts.Given as goal

-- what the facts that are left make wrong makes the list whole
abbrev pub invariant-loop-fact : goal.invariant-loop-fact
invariant-loop-fact l =
    let wrong = diags_at l.at.sigs.now l.at.types.now l.at.function (function_of l.at.f.now) (Some (spot_seen l.at.spot)) in
    l.out.items ++ flat_map wrong (drop l.fact-index l.facts) ≡ l.fn.out.items ++ flat_map wrong l.facts
