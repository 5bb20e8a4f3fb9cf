use Rattle.std.proofs.Common.{◌≡◌, ◌<◌, ℕ, false, Some, option_map, slice_get}
use Rattle.life_core.specs.Node.{spot_seen}
use Rattle.life_pset.specs.declared.element.AbsPlace.{AbsPlace}
use Rattle.life_rules.specs.Staying.{spot_writes}
use Rattle.life_plan.proofs.still.writes_some.Given as goal

-- none so far is written
abbrev pub invariant-loop-n : goal.invariant-loop-n
invariant-loop-n l = (m : ℕ) (place : AbsPlace) → m < l.n → slice_get l.context.table.now.locations m ≡ Some place → spot_writes (option_map spot_seen l.context.spot) place ≡ false
