use Rattle.std.proofs.Common.{◌∙◌, sym}
use Rattle.life_plan.specs.Crossing.{crossing_in}
use Rattle.life_plan.proofs.Stillness.{keeps_still}
use Rattle.life_plan.proofs.still.is_still.Goals as goal

pub returns-then-keeps_all : goal.returns-then-keeps_all
returns-then-keeps_all c = λ t. keeps_still (crossing_in c.args.context.now) (sym c.keeps_all.ensures ∙ c.if-keeps_all.true)
