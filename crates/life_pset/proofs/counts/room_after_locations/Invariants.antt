use Rattle.std.proofs.Common.{◌≡◌, ◌-◌, drop}
use Rattle.life_pset.specs.Counts.{location_count_from}
use Rattle.life_pset.proofs.counts.room_after_locations.Given as goal

abbrev pub invariant-loop-number : goal.invariant-loop-number
invariant-loop-number l =
    let count = location_count_from l.types l.parameters in
    l.left - count l.number (drop l.number l.locals) ≡ l.room - count 0 l.locals
