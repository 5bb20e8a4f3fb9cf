use Rattle.life_contract.specs.Targets.{outer}
use Rattle.std.proofs.Common.{◌≡◌, ℕ, ◌<◌, false}
use Rattle.std.specs.List.{list_any}
use Rattle.life_pset.specs.contracts.element.AbsPlacePartialEq.TheImpl.{ghosts as compared}
use Rattle.life_contract.proofs.targets.has_outer.Given as goal

-- none so far is among the outlines
abbrev pub invariant-loop-count : goal.invariant-loop-count
invariant-loop-count l = (n : ℕ) → n < l.count → list_any (compared.eq (outer l.place n)) l.outlines.keys ≡ false
