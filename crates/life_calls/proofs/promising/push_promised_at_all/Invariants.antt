use Rattle.life_calls.specs.Facts.{fact_of}
use Rattle.life_contract.specs.Promises.{promised_facts}
use Rattle.std.proofs.Common.{◌≡◌, ◌++◌, drop, map}
use Rattle.std.specs.List.{flat_map}
use Rattle.life_calls.proofs.promising.push_promised_at_all.Given as goal

-- what was added, and what is left to add
abbrev pub invariant-loop-location : goal.invariant-loop-location
invariant-loop-location l =
    let those = flat_map (promised_facts l.callee.types.now l.callee.sig.now) in
    map fact_of l.out.items ++ those (drop l.location-index l.locations) ≡ map fact_of l.fn.out.items ++ those l.locations
