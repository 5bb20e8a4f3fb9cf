use Rattle.std.proofs.Common.{◌≡◌, drop}
use Rattle.life_proper.specs.Knowing.{are_implied}
use Rattle.life_proper.proofs.knowing.are_implied.Given as goal

-- what is left decides
abbrev pub invariant-loop-i : goal.invariant-loop-i
invariant-loop-i l = are_implied (drop l.i l.known) (drop l.i l.other) ≡ are_implied l.known l.other
