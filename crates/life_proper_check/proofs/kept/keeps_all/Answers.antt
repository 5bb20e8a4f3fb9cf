use Rattle.std.proofs.Common.{◌≡◌, List, ap, map, subst, sym, ◌∙◌}
use Rattle.std.specs.List.{list_all}
use Rattle.life_core.specs.Function.{function_of}
use Rattle.life_core.specs.Node.{spot_seen}
use Rattle.life_core.specs.Tree.{Spot, spots}
use Rattle.life_core.specs.declared.node.SpotRef.{SpotRef}
use Rattle.life_proper.specs.GivenOver.{spot_keeps_given}
use Rattle.life_proper_check.proofs.Points.{points_of}
use Rattle.life_proper_check.proofs.kept.keeps_all.Goals as goal

pub keep_given-requires : goal.keep_given-requires
keep_given-requires c =
    let f = function_of c.args.at.now.function.now in
    subst (λ (xs : List SpotRef). map spot_seen xs ≡ spots f.body) (sym c.deref.ensures.value) (points_of f c.in_ok-points.points.items c.in_ok-points.ensures.all)

pub returns : goal.returns
returns c =
    let at = c.args.at.now in
    let f = function_of at.function.now in
    c.keep_given.ensures
    ∙ ap (λ (xs : List SpotRef). list_all (spot_keeps_given at.types.now f) (map spot_seen xs)) c.deref.ensures.value
    ∙ ap (λ (ss : List Spot). list_all (spot_keeps_given at.types.now f) ss) (points_of f c.in_ok-points.points.items c.in_ok-points.ensures.all)
