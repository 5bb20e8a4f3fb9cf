-- Edges along which nothing comes of a function's facts but each fact itself.
use Rattle.std.specs.Prelude.{◌≡◌, ℕ, Bool, true, false, [], ◌∷◌, Option, Some, None, slice_get}
use Rattle.life_core.specs.Step.{Step, Live}
use Rattle.life_core.specs.Tree.{Node, Action, Question, Return, Stop, Spot}
use Rattle.life_pset.specs.declared.element.Fact.{Fact}
use Rattle.life_rules.specs.Carrying.{none_at, one_at, two_at}
use Rattle.life_plan.specs.Crossing.{Crossing}

pub record IsStill (c : Crossing) : Type 0 where
  pub none : none_at c.sigs c.types c.f c.spot ≡ []
  pub one : (x : Fact) (n : ℕ) → slice_get c.table.locations n ≡ Some x.location → one_at c.sigs c.types c.f c.branch c.spot x ≡ x ∷ []
  pub two : (a b : Fact) → two_at c.sigs c.types c.f c.spot a b ≡ []

-- a local comes to life
abbrev pub step_bears : Step → Bool
step_bears (Live x form) = true
step_bears _ = false

abbrev pub node_bears : Node → Bool
node_bears (Action i) = step_bears i
node_bears (Question t) = false
node_bears Return = false
node_bears Stop = false

abbrev pub spot_bears : Option Spot → Bool
spot_bears None = false
spot_bears (Some s) = node_bears s.node
