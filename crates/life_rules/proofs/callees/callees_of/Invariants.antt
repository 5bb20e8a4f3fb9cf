use Rattle.std.proofs.Common.{◌≡◌, map, option_map, take}
use Rattle.life_core.specs.Node.{spot_seen}
use Rattle.life_rules.specs.Callees.{callee_by, callee_seen}
use Rattle.life_rules.proofs.callees.callees_of.Given as goal

-- those so far are those of the first points
abbrev pub invariant-loop-spot : goal.invariant-loop-spot
invariant-loop-spot l = map (option_map callee_seen) l.all.items ≡ map (callee_by l.types l.sigs) (map spot_seen (take l.spot-index l.spots))
