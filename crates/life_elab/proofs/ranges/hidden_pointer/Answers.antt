use Rattle.std.proofs.Common.{ap, sym, ◌∙◌}
use Rattle.life_core.specs.Operands.{location_of}
use Rattle.life_writer.proofs.Seen.{type_seen}
use Rattle.life_writer.specs.Around.{own_type}
use Rattle.life_writer.specs.PartUses.{expression_uses}
use Rattle.life_writer.specs.Views.{around_of, state_of}
use Rattle.life_elab.proofs.RangeWriting.{pointer_hidden}
use Rattle.life_elab.proofs.ranges.hidden_pointer.Goals as goal

pub returns : goal.returns
returns c =
    let x = c.args.range.now in
    pointer_hidden (expression_uses (around_of c.args.a.now) x) c.args.colon c.own_type-own.result (state_of c.args.writer.now) (state_of c.pointer.new.self) (state_of c.built.new.self) (location_of c.in_ok-location.location)
    (location_of c.whole.result) c.in_ok-register.register (c.own_type-own.ensures ∙ ap own_type (sym (type_seen x))) c.in_ok-location.ensures c.in_ok-register.ensures c.whole.ensures
