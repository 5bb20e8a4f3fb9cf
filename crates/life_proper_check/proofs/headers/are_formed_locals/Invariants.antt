use Rattle.std.proofs.Common.{◌≡◌, drop}
use Rattle.life_proper.specs.WellFormedPrograms.{are_well_formed_locals}
use Rattle.life_proper_check.proofs.headers.are_formed_locals.Given as goal

-- what is left decides
abbrev pub invariant-loop-x : goal.invariant-loop-x
invariant-loop-x l = are_well_formed_locals l.types l.names l.parameters l.x (drop l.x l.locals) ≡ are_well_formed_locals l.types l.names l.parameters 0 l.locals
