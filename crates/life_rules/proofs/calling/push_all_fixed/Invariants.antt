use Rattle.life_rules.specs.Calling.{fixed_facts}
use Rattle.std.proofs.Common.{◌≡◌, ◌++◌, drop}
use Rattle.std.specs.List.{flat_map}
use Rattle.life_rules.proofs.calling.push_all_fixed.Given as goal

-- what was added, and what is left to add
abbrev pub invariant-loop-location : goal.invariant-loop-location
invariant-loop-location l =
    let facts = fixed_facts l.callee.types.now l.callee.sig.now l.target in
    l.out.items ++ flat_map facts (drop l.location-index l.locations) ≡ l.fn.out.items ++ flat_map facts l.locations
