use Rattle.std.proofs.Common.{sym, ap}
use Rattle.life_typed.specs.TypedForm.{Typed, whole}
use Rattle.life_writer.specs.ExpressionForms.{uses}
use Rattle.life_writer.specs.Using.{value}
use Rattle.life_writer.specs.Views.{around_of, state_of}
use Rattle.life_writer.proofs.Giving.{answers_as}
use Rattle.life_writer.proofs.writer.Writer.value.Goals as goal

pub returns : goal.returns
returns c =
    answers_as (λ x. x) c.part_value.result _ _ _
    (ap (λ (e : Typed). value (uses (around_of c.args.a.now) (whole e)) c.args.behind c.args.to c.args.into (state_of c.args.self.now)) (sym c.of.ensures))
    c.part_value.ensures
