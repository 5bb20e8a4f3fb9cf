-- References to what stands at the points of a function, as what they refer to.
use Rattle.life_core.specs.declared.node.NodeRef.{NodeRef}
use Rattle.life_core.specs.declared.node.NodeRef.TheVariants as reference
use Rattle.life_core.specs.declared.node.SpotRef.{SpotRef}
use Rattle.life_core.specs.Step.{asked_of, step_of}
use Rattle.life_core.specs.Tree.{Node, Action, Question, Return, Stop, Spot}

-- what it refers to
abbrev pub node_seen : NodeRef → Node
node_seen (reference.Action i) = Action (step_of i.now)
node_seen (reference.Question t) = Question (asked_of t.now)
node_seen reference.Return = Return
node_seen reference.Stop = Stop

-- .. with its place
abbrev pub spot_seen : SpotRef → Spot
spot_seen s = record { node = node_seen s.node; place = s.place }
