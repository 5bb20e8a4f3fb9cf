use Rattle.life_sets.specs.NumberSets.{holds}
use Rattle.life_plan.specs.Crossing.{crossing_in}
use Rattle.life_plan.proofs.Making.{made_new, some_new}
use Rattle.life_plan.proofs.Seeing.{seen_at}
use Rattle.life_plan.proofs.reading.Reading.make.Goals as goal

pub returns-clause-seen : goal.returns-clause-seen
returns-clause-seen g c =
    seen_at (holds c.args.self.now.seen) (g.R.Rows.has c.args.from.now c.args.self.now.location) (holds c.read.new.into) (holds c.remove_all.new.self) c.read.ensures.read c.remove_all.ensures.left (holds c.add_all.new.self) c.add_all.ensures.added

pub returns-clause-made : goal.returns-clause-made
returns-clause-made g c =
    made_new (crossing_in c.args.context.now) c.args.self.now.location (holds c.args.self.now.seen) (g.R.Rows.has c.args.from.now c.args.self.now.location) (holds c.read.new.into) (holds c.remove_all.new.self) c.read.ensures.read c.remove_all.ensures.left (g.R.Rows.has c.make_of.new.into) c.in_ok-make_of.ensures.made

pub returns-clause-some : goal.returns-clause-some
returns-clause-some g c =
    some_new (crossing_in c.args.context.now) c.args.self.now.location (holds c.args.self.now.seen) (g.R.Rows.has c.args.from.now c.args.self.now.location) (holds c.read.new.into) (holds c.remove_all.new.self) c.read.ensures.read c.remove_all.ensures.left (g.R.Rows.has c.args.into.now) (g.R.Rows.has c.make_of.new.into) c.make_of.ensures.some
