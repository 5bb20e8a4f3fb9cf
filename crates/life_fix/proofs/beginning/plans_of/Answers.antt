use Rattle.std.proofs.Common.{arith}
use Rattle.std.proofs.lemmas.Grind.{common_steps}
use Rattle.std.proofs.lemmas.Option.{slice_get-get_or}
use Rattle.life_core.specs.Function.{function_of}
use Rattle.life_fix.proofs.Starting.{made_next}
use Rattle.life_fix.proofs.beginning.plans_of.Goals as goal

pub loop-edge-preserved : goal.loop-edge-preserved
loop-edge-preserved c =
    let flow = c.args.flow.now in
    let edges = flow.edges.now in
    let i = c.loop-edge.edge-index in
    record {
      count = rw c.in_ok-push.ensures.items (grind (arith, common_steps, c.loop-edge.invariant.count));
      made =
          rw c.in_ok-push.ensures.items
          (made_next flow.sigs.now flow.types.now (function_of flow.f.now) edges c.loop-edge.plans.items i _ _ c.loop-edge.invariant.count (slice_get-get_or edges i _ c.loop-edge-test.true) c.in_ok-plan_of.ensures c.loop-edge.invariant.made);
    }
