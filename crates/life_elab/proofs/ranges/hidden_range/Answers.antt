use Rattle.life_core.specs.Operands.{base_of}
use Rattle.life_writer.specs.PartUses.{expression_uses}
use Rattle.life_writer.specs.Views.{around_of, state_of}
use Rattle.life_elab.proofs.RangeWriting.{range_hidden}
use Rattle.life_elab.proofs.ranges.hidden_range.Goals as goal

pub returns : goal.returns
returns c =
    range_hidden (expression_uses (around_of c.args.a.now) c.args.range.now) c.args.colon c.args.closing (state_of c.args.writer.now) (state_of c.hidden.new.writer) (state_of c.end_pending.new.self) (base_of c.in_ok-base.base)
    c.pending_count-pending.result c.pending_count-pending.ensures c.in_ok-base.ensures c.in_ok-end_pending.ensures
