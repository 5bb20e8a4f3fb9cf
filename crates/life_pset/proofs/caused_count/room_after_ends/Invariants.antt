use Rattle.std.proofs.Common.{◌≡◌, ◌-◌, drop}
use Rattle.life_core.specs.Function.{function_of}
use Rattle.life_pset.specs.Counts.{ends_count}
use Rattle.life_pset.proofs.caused_count.room_after_ends.Given as goal

abbrev pub invariant-loop-local : goal.invariant-loop-local
invariant-loop-local l =
    let count = ends_count (function_of l.f) in
    l.left - count (drop l.local-index l.ended) ≡ l.room - count l.ended
