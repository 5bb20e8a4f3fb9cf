use Rattle.std.proofs.Common.{subst, sym}
use Rattle.life_interp.specs.Near.{IsNear}
use Rattle.life_interp.proofs.cursors.points_near.Goals as goal

pub returns-in-Null : goal.returns-in-Null
returns-in-Null c = λ near. subst IsNear (sym c.in-Null.is) tt

pub returns-in-Wild : goal.returns-in-Wild
returns-in-Wild c = λ near. subst IsNear (sym c.in-Wild.is) tt

pub returns-in-To : goal.returns-in-To
returns-in-To c = λ near. subst IsNear (sym c.in-To.is) tt

pub returns-in-Static : goal.returns-in-Static
returns-in-Static c = λ near. subst IsNear (sym c.in-Static.is) (c.ends_near.ensures near)
