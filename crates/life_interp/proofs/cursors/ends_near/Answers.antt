use Rattle.std.proofs.Common.{arith}
use Rattle.std.proofs.lemmas.Bool.{false≢true, ltb-true}
use Rattle.life_interp.proofs.cursors.ends_near.Goals as goal

pub returns-in-None : goal.returns-in-None
returns-in-None c = λ near. absurd (false≢true near)

pub returns-in-Some : goal.returns-in-Some
returns-in-Some c = λ near. let l = ltb-true _ _ near in omega (arith, l, c.in-Some.ensures.1)
