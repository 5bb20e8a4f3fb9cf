use Rattle.std.proofs.Common.{sym, ap}
use Rattle.life_typed.specs.TypedForm.{Typed, whole}
use Rattle.life_core.specs.Tree.{condition_tree}
use Rattle.life_writer.specs.ExpressionForms.{uses}
use Rattle.life_writer.specs.Using.{condition}
use Rattle.life_writer.specs.Views.{around_of, state_of}
use Rattle.life_writer.proofs.Giving.{answers_as}
use Rattle.life_writer.proofs.writer.Writer.condition.Goals as goal

pub returns : goal.returns
returns c =
    answers_as condition_tree c.part_condition.result _ _ _
    (ap (λ (e : Typed). condition (uses (around_of c.args.a.now) (whole e)) c.args.behind (state_of c.args.self.now)) (sym c.of.ensures))
    c.part_condition.ensures
