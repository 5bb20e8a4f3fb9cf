use Rattle.std.proofs.Common.{ap, ◌∙◌}
use Rattle.life_typed.specs.TypedForm.{Typed, whole}
use Rattle.life_writer.specs.ExpressionForms.{uses}
use Rattle.life_writer.specs.Views.{around_of}
use Rattle.life_writer.proofs.names.named.Goals as goal

pub returns : goal.returns
returns c = c.part_named.ensures ∙ ap (λ (e : Typed). (uses (around_of c.args.a.now) (whole e)).named) c.of.ensures
