use Rattle.std.proofs.Common.{sym, ap}
use Rattle.life_typed.specs.TypedForm.{Typed, whole}
use Rattle.life_writer.specs.ExpressionForms.{uses}
use Rattle.life_writer.specs.Using.{object_in}
use Rattle.life_writer.specs.Views.{around_of, destination_of, state_of}
use Rattle.life_writer.proofs.Giving.{answers_as}
use Rattle.life_writer.proofs.writer.Writer.built_by.Goals as goal

pub returns : goal.returns
returns c =
    answers_as (λ x. x) c.part_object.result _ _ _
    (ap (λ (e : Typed). object_in (uses (around_of c.args.a.now) (whole e)) (destination_of c.args.destination) (state_of c.args.self.now)) (sym c.of.ensures))
    c.part_object.ensures
