use Rattle.std.proofs.Common.{◌≡◌, ◌++◌, drop}
use Rattle.std.specs.List.{flat_map}
use Rattle.life_core.specs.Function.{function_of}
use Rattle.life_core.specs.Step.{step_of}
use Rattle.life_rules.specs.Pairs.{moved_uses}
use Rattle.life_rules.proofs.pairs.push_moved_uses.Given as goal

-- what was added, and what is left to add
abbrev pub invariant-loop-first : goal.invariant-loop-first
invariant-loop-first l =
    let two = moved_uses l.at.types.now l.at.function (function_of l.at.f.now) l.at.spot.place (step_of l.instr) in
    l.out.items ++ flat_map (λ first. flat_map (two first) l.facts) (drop l.first-index l.facts) ≡ l.fn.out.items ++ flat_map (λ first. flat_map (two first) l.facts) l.facts
