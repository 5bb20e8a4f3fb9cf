use Rattle.std.proofs.Common.{rules}
use Rattle.life_plan.specs.Crossing.{crossing_in}
use Rattle.life_plan.proofs.Changing.{noted_none}
use Rattle.life_plan.proofs.staying.note_all.Goals as goal

pub loop-e-init : goal.loop-e-init
loop-e-init c = record {
  noted = rw c.requires.empty (noted_none (crossing_in c.args.context.now) c.args.gone.now c.requires.none);
  limit = search rules;
}
