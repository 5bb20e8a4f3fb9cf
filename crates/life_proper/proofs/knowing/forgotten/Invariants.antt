use Rattle.std.proofs.Common.{◌≡◌, ◌++◌, drop}
use Rattle.life_proper.specs.Knowing.{forgotten}
use Rattle.life_proper.proofs.knowing.forgotten.Given as goal

-- what is made and what is left
abbrev pub invariant-loop-i : goal.invariant-loop-i
invariant-loop-i l = l.made.items ++ forgotten (drop l.i l.locals) (drop l.i l.known) ≡ forgotten l.locals l.known
