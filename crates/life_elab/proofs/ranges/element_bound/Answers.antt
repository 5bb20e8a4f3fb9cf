use Rattle.std.proofs.Common.{Some, refl, sym, ◌∙◌}
use Rattle.life_core.specs.Operands.{operand_of}
use Rattle.life_writer.proofs.Begun.{place_bound, temporary_bound}
use Rattle.life_writer.specs.Temporaries.{scoped}
use Rattle.life_writer.specs.Views.{around_of, state_of}
use Rattle.life_elab.specs.RangeForms.{element_at}
use Rattle.life_elab.proofs.ElementWriting.{element_placed}
use Rattle.life_elab.proofs.ranges.element_bound.Goals as goal

pub returns-then-eq : goal.returns-then-eq
returns-then-eq c =
    let a = around_of c.args.a.now in let s = state_of c.args.writer.now in
    place_bound a scoped (element_at a.program.types c.args.colon c.args.iterator (Some c.args.element)) c.args.target c.args.colon s s (operand_of c.through-place.result)
    (sym c.eq.ensures ∙ c.if-eq.true) (element_placed a.program.types c.args.colon c.args.iterator c.args.element s (operand_of c.through-place.result) c.through-place.ensures)

pub returns : goal.returns
returns c =
    let a = around_of c.args.a.now in
    temporary_bound a scoped (element_at a.program.types c.args.colon c.args.iterator (Some c.args.element)) c.args.target c.type_of-ty.result c.args.colon (scoped c.args.colon c.type_of-ty.result) (state_of c.args.writer.now)
    (state_of c.element_given.new.writer) c.in_ok-local.local (operand_of c.name-place.result) (sym c.eq.ensures ∙ c.if-eq.false) c.type_of-ty.ensures refl c.in_ok-local.ensures c.name-place.ensures
