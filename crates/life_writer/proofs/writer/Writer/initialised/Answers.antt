use Rattle.std.proofs.Common.{sym, ap}
use Rattle.life_typed.specs.TypedForm.{Typed, whole}
use Rattle.life_writer.specs.ExpressionForms.{uses}
use Rattle.life_writer.specs.Initialising.{initialised_by}
use Rattle.life_writer.specs.Views.{around_of, destination_of, keeps_of, state_of}
use Rattle.life_writer.proofs.Giving.{answers_as}
use Rattle.life_writer.proofs.writer.Writer.initialised.Goals as goal

pub returns : goal.returns
returns c =
    answers_as (λ x. x) c.begun.result _ _ _
    (ap (λ (e : Typed). initialised_by (around_of c.args.a.now) (keeps_of c.args.keeping) (uses (around_of c.args.a.now) (whole e)) c.args.ty c.args.behind (destination_of c.args.destination) (state_of c.args.self.now)) (sym c.of.ensures))
    c.begun.ensures
