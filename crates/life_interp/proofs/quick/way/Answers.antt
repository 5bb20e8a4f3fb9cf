use Rattle.std.proofs.Common.{ap, sym, ◌∙◌}
use Rattle.life_interp.specs.Walk.{way_on}
use Rattle.life_interp.proofs.quick.way.Goals as goal

pub returns-then-holds : goal.returns-then-holds
returns-then-holds c = λ leads first second. sym first ∙ ap (λ b. way_on b leads) (sym c.if-holds.true)

pub returns-else-holds : goal.returns-else-holds
returns-else-holds c = λ leads first second. sym second ∙ ap (λ b. way_on b leads) (sym c.if-holds.false)
