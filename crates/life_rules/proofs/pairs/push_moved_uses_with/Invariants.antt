use Rattle.std.proofs.Common.{◌≡◌, ◌++◌, drop}
use Rattle.std.specs.List.{flat_map}
use Rattle.life_core.specs.Function.{function_of}
use Rattle.life_core.specs.Step.{step_of}
use Rattle.life_rules.specs.Pairs.{moved_uses}
use Rattle.life_rules.proofs.pairs.push_moved_uses_with.Given as goal

-- what was added, and what is left to add
abbrev pub invariant-loop-second : goal.invariant-loop-second
invariant-loop-second l =
    let uses = moved_uses l.at.types.now l.at.function (function_of l.at.f.now) l.at.spot.place (step_of l.instr) l.first in
    l.out.items ++ flat_map uses (drop l.second-index l.facts) ≡ l.fn.out.items ++ flat_map uses l.facts
