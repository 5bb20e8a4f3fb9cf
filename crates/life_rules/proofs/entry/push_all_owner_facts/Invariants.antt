use Rattle.std.proofs.Common.{◌≡◌, ◌++◌, drop}
use Rattle.std.specs.List.{flat_map}
use Rattle.life_rules.specs.Deriving.{owner_facts}
use Rattle.life_rules.proofs.entry.push_all_owner_facts.Given as goal

-- what was added, and what is left to add
abbrev pub invariant-loop-location : goal.invariant-loop-location
invariant-loop-location l =
    let facts = owner_facts l.types l.id in
    l.out.items ++ flat_map facts (drop l.location-index l.locations) ≡ l.fn.out.items ++ flat_map facts l.locations
