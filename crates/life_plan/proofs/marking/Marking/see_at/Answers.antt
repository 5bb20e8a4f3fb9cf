use Rattle.life_sets.specs.NumberSets.{holds}
use Rattle.life_plan.specs.Crossing.{crossing_in}
use Rattle.life_plan.proofs.Seeing.{marks_new, seen_at}
use Rattle.life_plan.proofs.marking.Marking.see_at.Goals as goal

pub returns-clause-seen : goal.returns-clause-seen
returns-clause-seen g c =
    seen_at (holds c.args.self.now.seen) (g.R.Rows.has c.args.from.now c.args.q) (holds c.read.new.into) (holds c.remove_all.new.self) c.read.ensures.read c.remove_all.ensures.left (holds c.add_all.new.self) c.add_all.ensures.added

pub returns-clause-mask : goal.returns-clause-mask
returns-clause-mask g c =
    marks_new (holds c.args.self.now.seen) (g.R.Rows.has c.args.from.now c.args.q) (holds c.read.new.into) (holds c.remove_all.new.self) c.read.ensures.read c.remove_all.ensures.left (crossing_in c.args.context.now)
    (holds c.args.self.now.mask) (holds c.mark_all-grew.new.mask) c.mark_all-grew.ensures.mask
