use Rattle.life_pset.specs.Inputs.{input_seen}
use Rattle.life_rules.specs.CallsAt.{broken_in}
use Rattle.std.proofs.Common.{◌≡◌, ◌++◌, drop, map}
use Rattle.std.specs.List.{flat_map}
use Rattle.life_rules.proofs.arguing.push_broken.Given as goal

-- what was added, and what is left to add
abbrev pub invariant-loop-input : goal.invariant-loop-input
invariant-loop-input l =
    let diags = broken_in l.call l.fact in
    l.out.items ++ flat_map diags (map input_seen (drop l.input-index l.inputs)) ≡ l.fn.out.items ++ flat_map diags (map input_seen l.inputs)
