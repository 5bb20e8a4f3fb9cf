use Rattle.life_sets.specs.NumberSets.{holds}
use Rattle.life_plan.proofs.Keeping.{stayed}
use Rattle.life_plan.proofs.keep.stay.Goals as goal

pub returns-clause-stays : goal.returns-clause-stays
returns-clause-stays c =
    stayed (holds c.args.before.now) (holds c.clear.new.self) (holds c.add_all.new.self) (holds c.remove_all.new.self) (holds c.args.staying.now.gone) c.clear.ensures.none c.add_all.ensures.added c.remove_all.ensures.left
