use Rattle.life_contract.specs.Positions.{steps_place}
use Rattle.std.proofs.Common.{◌≡◌, drop}
use Rattle.life_contract.proofs.positions.steps_place.Given as goal

-- what is left leads to the same
abbrev pub invariant-loop-step : goal.invariant-loop-step
invariant-loop-step l = steps_place l.here (drop l.step-index l.steps) ≡ steps_place l.fn.place l.steps
