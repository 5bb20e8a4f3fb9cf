use Rattle.std.proofs.Common.{◌≡◌, ◌++◌, drop}
use Rattle.life_pset.specs.Elements.{locations_from}
use Rattle.life_pset.proofs.location_list.locations.Given as goal

abbrev pub invariant-loop-number : goal.invariant-loop-number
invariant-loop-number l =
    let from = locations_from l.types l.f.parameters in
    l.all.items ++ from l.number (drop l.number l.local-items) ≡ from 0 l.local-items
