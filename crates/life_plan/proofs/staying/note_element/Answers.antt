use Rattle.std.proofs.Common.{sym}
use Rattle.life_plan.specs.Crossing.{crossing_in}
use Rattle.life_plan.proofs.Changing.{noted_kept}
use Rattle.life_plan.proofs.staying.note_element.Goals as goal

pub returns-else-is_removed-clause-noted : goal.returns-else-is_removed-clause-noted
returns-else-is_removed-clause-noted c =
    noted_kept (crossing_in c.args.context.now) c.args.e c.in-Some.element.now c.args.gone.now c.args.becoming.now.items (sym c.in-Some.ensures) c.requires.noted (c.is_removed.ensures.kept c.if-is_removed.false)
