use Rattle.std.proofs.Common.{◌≡◌, drop}
use Rattle.life_pset.specs.Shapes.{members_type}
use Rattle.life_pset.proofs.shape.steps_type.Given as goal

abbrev pub invariant-loop-step : goal.invariant-loop-step
invariant-loop-step l = members_type l.types l.here (drop l.step-index l.steps) ≡ members_type l.types l.fn.id l.steps
