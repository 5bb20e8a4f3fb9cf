use Rattle.life_core.specs.Function.{function_of}
use Rattle.life_proper.specs.Seen.{flow_seen, state_seen}
use Rattle.life_proper.proofs.Joining.{flow_turn}
use Rattle.life_proper.proofs.walk.+flows.Goals as goal

pub stmt_flow-loop-item-preserved : goal.stmt_flow-loop-item-preserved
stmt_flow-loop-item-preserved t c =
    flow_turn c.args.at.now.types.now (function_of c.args.at.now.function.now)
    (flow_seen c.loop-item.ways) (flow_seen c.take_next-next.new.self) (flow_seen c.in_ok-more-in-List.more) (flow_seen c.joined-ways.result)
    (state_seen c.take_next-next.result) c.deref-item-items.result.now c.loop-item.item-index c.item-item.result _
    c.loop-item-test.true c.item-item.is c.take_next-next.ensures.next c.take_next-next.ensures.left c.in_ok-more-in-List.ensures c.joined-ways.ensures c.loop-item.invariant
