use Rattle.std.proofs.Common.{Box, Global, Option, subst}
use Rattle.life_sets.specs.NumberSets.{holds}
use Rattle.life_plan.specs.Carried.{carried_by}
use Rattle.life_plan.specs.Crossing.{crossing_in}
use Rattle.life_plan.specs.declared.tabulated.Tabulated.{Tabulated}
use Rattle.life_plan.proofs.AllKept.{whole_carried}
use Rattle.life_plan.proofs.plan.Plan.carry.Goals as goal

pub returns-in-None-clause-sound : goal.returns-in-None-clause-sound
returns-in-None-clause-sound g c =
    let has = g.R.Rows.has in
    let kept = subst (λ (o : Option (Box Tabulated Global)). carried_by (crossing_in c.args.context.now) o (holds c.args.due.now) (has c.args.from.now) (has c.args.into.now)) c.in-None.is c.requires.carried in
    whole_carried c.args.context.now c.requires.context kept.still (g.R.Rows.location_limit c.args.from.now) (g.R.Rows.element_limit c.args.from.now) c.requires.from_locations c.requires.from_elements (has c.args.from.now) (has c.args.into.now) (has c.carry_whole.new.into) c.carry_whole.ensures.some
