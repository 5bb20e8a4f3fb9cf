use Rattle.std.proofs.Common.{◌≡◌, drop}
use Rattle.life_elab.specs.Over.{over_locals}
use Rattle.life_elab.proofs.limits.over_locals.Given as goal

abbrev pub invariant-locals : goal.invariant-locals
invariant-locals l = over_locals l.measured.types.now (drop l.local-index l.locals) ≡ over_locals l.measured.types.now l.locals
