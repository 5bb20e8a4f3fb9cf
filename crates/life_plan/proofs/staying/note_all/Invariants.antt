use Rattle.std.proofs.Common.{◌≡◌}
use Rattle.life_plan.specs.Crossing.{crossing_in}
use Rattle.life_plan.specs.Noting.{AreNoted}
use Rattle.life_plan.proofs.staying.note_all.Given as goal

abbrev pub invariant-loop-e : goal.invariant-loop-e
invariant-loop-e l = record {
  noted : AreNoted (crossing_in l.context) l.e l.gone l.becoming.items;
  limit : l.gone.limit ≡ l.fn.gone.limit;
}
