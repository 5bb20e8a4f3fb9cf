use Rattle.std.proofs.Common.{◌≡◌, drop}
use Rattle.life_pset.specs.Places.{members_place}
use Rattle.life_pset.proofs.element.AbsPlace.further.Given as goal

abbrev pub invariant-loop-step : goal.invariant-loop-step
invariant-loop-step l = members_place l.place (drop l.step-index l.steps) ≡ members_place l.fn.self l.steps
