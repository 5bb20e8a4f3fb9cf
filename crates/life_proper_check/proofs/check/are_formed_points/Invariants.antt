use Rattle.std.proofs.Common.{◌≡◌, drop, map}
use Rattle.std.specs.List.{list_all}
use Rattle.life_core.specs.Function.{function_of}
use Rattle.life_core.specs.Node.{spot_seen}
use Rattle.life_proper.specs.WellFormed.{is_well_formed_spot}
use Rattle.life_proper_check.proofs.check.are_formed_points.Given as goal

-- what is left decides
abbrev pub invariant-loop-point : goal.invariant-loop-point
invariant-loop-point l =
    let test = is_well_formed_spot l.at.types.now l.at.texts (map function_of l.at.functions.now) (function_of l.at.function.now) in
    list_all test (map spot_seen (drop l.point-index l.points)) ≡ list_all test (map spot_seen l.points)
