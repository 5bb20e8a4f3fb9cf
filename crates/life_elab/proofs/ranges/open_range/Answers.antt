use Rattle.std.proofs.Common.{ap, ◌∙◌}
use Rattle.life_core.specs.Operands.{base_of}
use Rattle.life_writer.specs.PartUses.{expression_uses}
use Rattle.life_writer.specs.Views.{around_of, state_of}
use Rattle.life_elab.specs.RangeForms.{iterator_type}
use Rattle.life_elab.proofs.RangeWriting.{range_opened}
use Rattle.life_elab.proofs.ranges.open_range.Goals as goal

pub returns : goal.returns
returns c =
    range_opened (expression_uses (around_of c.args.a.now) c.args.range.now) c.args.colon c.args.closing c.iterator_type-ty.result (state_of c.args.writer.now) (state_of c.hidden_range.new.writer) (state_of c.cursor_at.new.writer)
    (state_of c.cursor_at-2.new.writer) (base_of c.in_ok-base.base) (base_of c.in_ok-copied_base.field-0) c.in_ok-first.first c.in_ok-last.last
    (c.iterator_type-ty.ensures ∙ ap iterator_type c.element_of.ensures) c.in_ok-base.ensures c.in_ok-copied_base.ensures c.in_ok-first.ensures c.in_ok-last.ensures
