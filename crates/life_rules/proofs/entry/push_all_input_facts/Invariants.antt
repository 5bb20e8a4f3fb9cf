use Rattle.std.proofs.Common.{◌≡◌, ◌++◌, drop, map}
use Rattle.std.specs.List.{flat_map}
use Rattle.life_pset.specs.Inputs.{input_seen}
use Rattle.life_rules.specs.Deriving.{input_facts}
use Rattle.life_rules.proofs.entry.push_all_input_facts.Given as goal

-- what was added, and what is left to add
abbrev pub invariant-loop-input : goal.invariant-loop-input
invariant-loop-input l =
    let facts = input_facts l.types l.nonnull in
    l.out.items ++ flat_map facts (map input_seen (drop l.input-index l.inputs)) ≡ l.fn.out.items ++ flat_map facts (map input_seen l.inputs)
