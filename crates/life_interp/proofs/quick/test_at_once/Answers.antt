use Rattle.std.proofs.Common.{List, Some, refl, subst}
use Rattle.life_core.specs.Step.{NonZero}
use Rattle.life_cells.specs.declared.cell.Cell.{Cell}
use Rattle.life_interp.specs.Frames.{function_at}
use Rattle.life_interp.specs.Walking.{Asks}
use Rattle.life_interp.proofs.AskLemmas.{asks_on, led_on}
use Rattle.life_interp.proofs.quick.test_at_once.Goals as goal

pub returns-in-Some-clause-step : goal.returns-in-Some-clause-step
returns-in-Some-clause-step c = λ s p m ins leads first second.
    let frames = c.args.frames.now in
    let f = function_at p.functions frames.function in
    asks_on s p frames m ins (NonZero c.args.register) leads f refl c.way-frames.result c.in-Some.holds
    (subst (λ (cs : List Cell). Asks p.types f (NonZero c.args.register) m cs (Some c.in-Some.holds)) c.deref.ensures.value (c.in-Some.ensures p.types f m))
    (c.way-frames.ensures leads first second)

pub returns-in-Some-clause-point : goal.returns-in-Some-clause-point
returns-in-Some-clause-point c = λ leads first second. led_on c.in-Some.holds leads c.way-frames.result (c.way-frames.ensures leads first second)
