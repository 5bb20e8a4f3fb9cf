use Rattle.life_contract.specs.Positions.{steps_type}
use Rattle.std.proofs.Common.{◌≡◌, drop}
use Rattle.life_contract.proofs.positions.steps_type.Given as goal

-- what is left leads to the same
abbrev pub invariant-loop-step : goal.invariant-loop-step
invariant-loop-step l = steps_type l.types l.here (drop l.step-index l.steps) ≡ steps_type l.types l.fn.ty l.steps
