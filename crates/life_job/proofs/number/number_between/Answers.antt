use Rattle.life_job.proofs.Numbers.{number_is, unread}
use Rattle.life_job.proofs.number.number_between.Goals as goal

pub returns-in_default-clause-number : goal.returns-in_default-clause-number
returns-in_default-clause-number c = unread c.args.least c.args.most c.args.word.now c.in_default.ensures.value.0

pub returns-clause-number : goal.returns-clause-number
returns-clause-number c =
    number_is c.args.least c.args.most c.args.word.now c.in-Ok.value c.in-Ok.ensures.value.0.0 c.in-Ok.ensures.value.0.1 c.if-value-least.false c.if-value-most.false
