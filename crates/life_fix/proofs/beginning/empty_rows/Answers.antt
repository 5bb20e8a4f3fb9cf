use Rattle.std.proofs.Common.{arith}
use Rattle.std.proofs.lemmas.Grind.{common_steps}
use Rattle.life_fix.proofs.PointRows.{pairs_push}
use Rattle.life_fix.proofs.beginning.empty_rows.Goals as goal

pub loop-preserved : goal.loop-preserved
loop-preserved g c = record {
  count = rw c.in_ok-push.ensures.items (grind (arith, common_steps, c.loop.invariant.count));
  none = rw c.in_ok-push.ensures.items (pairs_push g.R.Rows.has c.loop.rows.items _ c.loop.invariant.none c.in_ok-empty.ensures.none);
  locations = rw c.in_ok-push.ensures.items (grind (arith, common_steps, c.loop.invariant.locations));
  elements = rw c.in_ok-push.ensures.items (grind (arith, common_steps, c.loop.invariant.elements));
}
