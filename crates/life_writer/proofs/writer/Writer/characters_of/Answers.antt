use Rattle.std.proofs.Common.{sym, ap}
use Rattle.life_typed.specs.TypedForm.{Typed, whole}
use Rattle.life_writer.specs.Characters as characters
use Rattle.life_writer.specs.ExpressionForms.{uses}
use Rattle.life_writer.specs.Views.{around_of, seen_of, state_of}
use Rattle.life_writer.proofs.Giving.{answers_as}
use Rattle.life_writer.proofs.writer.Writer.characters_of.Goals as goal

pub returns : goal.returns
returns c =
    answers_as seen_of c.seen.result _ _ _
    (ap (λ (e : Typed). characters.seen (uses (around_of c.args.a.now) (whole e)) (state_of c.args.self.now)) (sym c.of.ensures))
    c.seen.ensures
