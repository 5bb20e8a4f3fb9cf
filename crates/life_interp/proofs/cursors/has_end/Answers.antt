use Rattle.std.proofs.Common.{subst, sym}
use Rattle.life_interp.specs.Near.{IsNearIf}
use Rattle.life_interp.proofs.cursors.has_end.Goals as goal

pub returns-in-None : goal.returns-in-None
returns-in-None c = λ near. subst IsNearIf (sym c.in-None.is) tt

pub returns-in-Some : goal.returns-in-Some
returns-in-Some c = λ near. subst IsNearIf (sym c.in-Some.is) (c.points_near.ensures near)
