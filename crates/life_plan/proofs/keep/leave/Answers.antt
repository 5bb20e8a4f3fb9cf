use Rattle.life_sets.specs.NumberSets.{holds}
use Rattle.life_plan.proofs.Keeping.{leads}
use Rattle.life_plan.proofs.keep.leave.Goals as goal

pub returns-clause-leads : goal.returns-clause-leads
returns-clause-leads c =
    leads c.args.staying.now c.args.marking.now (holds c.args.before.now) (holds c.stay.new.after) (holds c.change.new.after) (holds c.mark.new.after) c.deref.result.now c.deref.ensures.value c.stay.ensures.stays c.change.ensures.changes c.mark.ensures.marks
