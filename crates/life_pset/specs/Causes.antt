-- The points of a function, and the elements with causes that what stands at one may give.
use Rattle.std.specs.Prelude.{◌≡◌, List, map}
use Rattle.life_core.specs.declared.node.SpotRef.{SpotRef}
use Rattle.life_core.specs.Function.{Function}
use Rattle.life_core.specs.Linked.{code_of, spot_of_linked}
use Rattle.life_core.specs.Node.{spot_seen}
use Rattle.life_core.specs.Tree.{Spot}
use Rattle.life_pset.specs.declared.element.Element.{Element}
use Rattle.life_pset.specs.Elements.{node_elements}

abbrev pub spot_elements : Function → Spot → List Element
spot_elements f s = node_elements f s.place s.node

-- these are the points of the function, in their order
abbrev pub AreSpotsOf : Function → List SpotRef → Type 0
AreSpotsOf f spots = map spot_seen spots ≡ map spot_of_linked (code_of f)
