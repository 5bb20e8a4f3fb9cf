use Rattle.std.proofs.Common.{◌≡◌, ◌++◌, drop, map}
use Rattle.std.specs.List.{flat_map}
use Rattle.life_core.specs.Function.{function_of}
use Rattle.life_core.specs.Node.{spot_seen}
use Rattle.life_pset.specs.Causes.{spot_elements}
use Rattle.life_pset.proofs.element_list.push_all_caused.Given as goal

abbrev pub invariant-loop-spot : goal.invariant-loop-spot
invariant-loop-spot l =
    let caused = spot_elements (function_of l.f) in
    l.all.items ++ flat_map caused (map spot_seen (drop l.spot-index l.spots)) ≡ l.fn.all.items ++ flat_map caused (map spot_seen l.spots)
