use Rattle.std.proofs.Common.{◌≡◌, ◌++◌, drop}
use Rattle.std.specs.List.{flat_map}
use Rattle.life_core.specs.Function.{function_of}
use Rattle.life_rules.specs.Carrying.{born_facts}
use Rattle.life_rules.proofs.none.push_all_born.Given as goal

-- what was added, and what is left to add
abbrev pub invariant-loop-location : goal.invariant-loop-location
invariant-loop-location l =
    let born = born_facts l.types (function_of l.f) l.place l.number l.form in
    l.out.items ++ flat_map born (drop l.location-index l.locations) ≡ l.fn.out.items ++ flat_map born l.locations
