use Rattle.std.proofs.Common.{arith}
use Rattle.life_rules.proofs.GivenInputs.{given_more}
use Rattle.life_rules.proofs.given.given_for.Goals as goal

pub loop-input-preserved : goal.loop-input-preserved
loop-input-preserved c =
    let more = given_more c.args.call.now c.args.facts.now c.inputs-inputs.result.now c.loop-input.input-index _ c.loop-input.all.items c.push.new.self.items c.in_ok-given_at.field-0 (omega arith) c.in_ok-given_at.ensures.input c.in_ok-given_at.ensures.given c.in_ok-push.ensures.items c.loop-input.invariant.inputs c.loop-input.invariant.given in record {
      inputs = more.0;
      given = more.1;
    }
