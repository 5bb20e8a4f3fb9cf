use Rattle.std.proofs.Common.{ℕ, ap, sym, ◌∙◌}
use Rattle.life_core.specs.Operands.{Operand}
use Rattle.life_core.specs.declared.instr.Form.TheVariants.{Plain}
use Rattle.life_writer.specs.OwnerForms.{copied_at}
use Rattle.life_writer.specs.Uses.{lived}
use Rattle.life_writer.specs.Views.{destination_of, state_of}
use Rattle.life_writer.specs.Writing.{Gives}
use Rattle.life_elab.proofs.ranges.copied_element.Goals as goal

pub returns : goal.returns
returns c =
    sym
    (ap (λ (o : Operand). (lived Plain (copied_at c.args.colon o) (destination_of c.args.destination) (state_of c.args.writer.now)).state) (sym c.through-from.ensures)
    ∙ ap (λ (w : Gives ℕ). w.state) c.in_ok-built.ensures)
