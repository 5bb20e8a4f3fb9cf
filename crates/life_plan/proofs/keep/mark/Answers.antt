use Rattle.life_sets.specs.NumberSets.{holds}
use Rattle.life_plan.proofs.Keeping.{marked_by, marked_not}
use Rattle.life_plan.proofs.keep.mark.Goals as goal

pub returns-in-None-clause-marks : goal.returns-in-None-clause-marks
returns-in-None-clause-marks c = marked_not (holds c.args.before.now) (holds c.args.marking.now.mask) c.args.marking.now.mark (holds c.args.after.now) c.in-None.is

pub returns-in-Some-clause-marks : goal.returns-in-Some-clause-marks
returns-in-Some-clause-marks c =
    marked_by (holds c.args.before.now) (holds c.args.marking.now.mask) c.args.marking.now.mark c.in-Some.mark c.meets.result (holds c.args.after.now) (holds c.insert_if.new.set) c.in-Some.is c.meets.ensures c.insert_if.ensures.added
