use Rattle.life_values.proofs.Joining.{before_more}
use Rattle.life_values.proofs.layouts.layouts_of.Goals as goal

pub loop-number-preserved : goal.loop-number-preserved
loop-number-preserved c =
    before_more c.args.types.now c.loop-number.number c.loop-number.layouts.items c.in_ok-layout.layout c.push.new.self.items c.loop-number.invariant c.in_ok-layout.ensures c.in_ok-push.ensures.items
