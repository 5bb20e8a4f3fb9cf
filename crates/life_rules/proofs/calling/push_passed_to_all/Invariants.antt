use Rattle.life_pset.specs.Inputs.{input_seen}
use Rattle.life_rules.specs.Calling.{passed_facts}
use Rattle.std.proofs.Common.{◌≡◌, ◌++◌, drop}
use Rattle.std.specs.List.{flat_map}
use Rattle.life_rules.proofs.calling.push_passed_to_all.Given as goal

-- what was added, and what is left to add
abbrev pub invariant-loop-location : goal.invariant-loop-location
invariant-loop-location l =
    let facts = passed_facts l.types l.sig (input_seen l.input) l.target l.place in
    l.out.items ++ flat_map facts (drop l.location-index l.locations) ≡ l.fn.out.items ++ flat_map facts l.locations
