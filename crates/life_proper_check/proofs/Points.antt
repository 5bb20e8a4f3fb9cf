-- The points of a function that the code goes over are those of its tree.
use Rattle.std.proofs.Common.{◌≡◌, List, map, ◌∙◌}
use Rattle.life_core.specs.Function.{Function}
use Rattle.life_core.specs.Linked.{code_of, spot_of_linked}
use Rattle.life_core.specs.Node.{spot_seen}
use Rattle.life_core.specs.Tree.{spots}
use Rattle.life_core.specs.declared.node.SpotRef.{SpotRef}
use Rattle.life_core.proofs.SpotLemmas.{code_spots}

pub points_of : (f : Function) (xs : List SpotRef) → map spot_seen xs ≡ map spot_of_linked (code_of f) → map spot_seen xs ≡ spots f.body
points_of f xs e = e ∙ code_spots f
