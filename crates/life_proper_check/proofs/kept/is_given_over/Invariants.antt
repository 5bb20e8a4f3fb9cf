use Rattle.std.proofs.Common.{◌≡◌, drop, flat_map, map}
use Rattle.std.specs.List.{list_any}
use Rattle.std.specs.Prelude.{nat_eq}
use Rattle.life_core.specs.Node.{spot_seen}
use Rattle.life_proper.specs.GivenOver.{given_spot}
use Rattle.life_proper_check.proofs.kept.is_given_over.Given as goal

-- what is left decides
abbrev pub invariant-loop-point : goal.invariant-loop-point
invariant-loop-point l = list_any (nat_eq l.x) (flat_map given_spot (map spot_seen (drop l.point-index l.points))) ≡ list_any (nat_eq l.x) (flat_map given_spot (map spot_seen l.points))
