use Rattle.std.proofs.Common.{◌&&◌, List, ap, map}
use Rattle.std.specs.List.{list_all}
use Rattle.life_core.specs.Function.{function_of}
use Rattle.life_core.specs.Tree.{Spot}
use Rattle.life_proper.specs.WellFormed.{is_well_formed_spot}
use Rattle.life_proper_check.specs.Deciding.{is_formed_header}
use Rattle.life_proper_check.proofs.Points.{points_of}
use Rattle.life_proper_check.proofs.check.is_formed_function.Goals as goal

pub returns : goal.returns
returns c =
    let at = c.args.at.now in
    let f = function_of at.function.now in
    let test = is_well_formed_spot at.types.now at.texts (map function_of at.functions.now) f in
    rw (c.both.ensures, c.is_formed_header.ensures, c.are_formed_points.ensures, c.deref.ensures.value)
    (ap (λ (ss : List Spot). is_formed_header at.types.now c.args.names f && list_all test ss) (points_of f c.in_ok-points.points.items c.in_ok-points.ensures.all))
