use Rattle.std.proofs.Common.{sym}
use Rattle.life_sets.specs.NumberSets.{holds}
use Rattle.life_plan.specs.Crossing.{crossing_in}
use Rattle.life_plan.proofs.Seeing.{marks_none, marks_passed}
use Rattle.life_plan.proofs.marking.mark_by.Goals as goal

pub returns-in-None-clause-mask : goal.returns-in-None-clause-mask
returns-in-None-clause-mask c = marks_none (crossing_in c.args.context.now) c.args.d (holds c.args.mask.now) (sym c.in-None.ensures)

pub returns-in-Some-clause-mask : goal.returns-in-Some-clause-mask
returns-in-Some-clause-mask c =
    marks_passed (crossing_in c.args.context.now) c.args.d c.in-Some.target.now (holds c.args.mask.now) (holds c.mark_under.new.mask) (sym c.in-Some.ensures) c.mark_under.ensures.mask
