use Rattle.life_plan.proofs.tabulated.Tabulated.of.Goals as goal
use Rattle.life_plan.specs.Crossing.{crossing_in}
use Rattle.life_plan.proofs.Starting.{starts_carried}

pub returns : goal.returns
returns c =
    starts_carried (crossing_in c.args.context.now) c.in_ok-staying.staying c.in_ok-marking.marking c.in_ok-readings.readings c.in_ok-staying.ensures c.in_ok-marking.ensures.is c.in_ok-readings.ensures.are c.in_ok-marking.ensures.seen c.in_ok-marking.ensures.mask c.in_ok-readings.ensures.seen
