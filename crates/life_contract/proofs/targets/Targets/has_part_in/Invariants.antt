use Rattle.life_contract.specs.Targets.{HasOuter}
use Rattle.std.proofs.Common.{All, take}
use Rattle.life_contract.proofs.targets.Targets.has_part_in.Given as goal

-- none so far is one of the others, or a part of it
abbrev pub invariant-loop-place : goal.invariant-loop-place
invariant-loop-place l = All (λ a. HasOuter a l.others-inside.outlines.keys → ⊥) (take l.place-index l.place-items)
