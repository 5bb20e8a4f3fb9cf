use Rattle.std.proofs.Common.{Option, sym, ap, ◌∙◌}
use Rattle.std.proofs.lemmas.Result.{on_ok_weaker}
use Rattle.life_types.specs.declared.ty.Ty.{Ty}
use Rattle.life_typed.specs.Delimiters.{delimiters_view}
use Rattle.life_typed.specs.Members.{element_type}
use Rattle.life_core.specs.Operands.{operand_of}
use Rattle.life_writer.specs.PartUses.{part_uses}
use Rattle.life_writer.specs.Uses.{own}
use Rattle.life_writer.specs.Views.{around_of, state_of}
use Rattle.life_writer.specs.declared.parts.Part.{Part}
use Rattle.life_writer.proofs.FirstOperands.{pushed_first}
use Rattle.life_writer.proofs.writer.Writer.pushed_back.Goals as goal

pub returns : goal.returns
returns c =
    let a = around_of c.args.a.now in let e = part_uses a c.args.base in
    on_ok_weaker c.emit.result
    (λ written. pushed_first a e c.args.arguments.now c.first.result c.in-Some-first.element c.first.ensures c.in-Some-first.is (delimiters_view c.args.delimiters.now) _ c.behind.result c.args.at
    (state_of c.args.self.now) (state_of c.part_operand.new.self) (state_of c.given_over.new.self) (state_of c.emit.new.self) (operand_of c.in_ok-place.place) c.in_ok-given.given c.element_type-ty.result
    (c.element_type-ty.ensures ∙ ap (λ (u : Ty). element_type a.program.types u) (c.own_type.ensures ∙ sym (ap (λ (o : Option Part). own (part_uses a o)) c.in-Some.is)))
    c.in_ok-place.ensures c.behind.ensures c.in_ok-given.ensures written)
    c.emit.ensures
