use Rattle.std.proofs.Common.{ℕ, sym, ap, ◌∙◌}
use Rattle.life_types.specs.declared.place.Place.{Place}
use Rattle.life_writer.proofs.SeenExpressions.{place_seen}
use Rattle.life_writer.specs.PartUses.{expression_uses}
use Rattle.life_writer.specs.Temporaries.{temporary}
use Rattle.life_writer.specs.Using.{object_in}
use Rattle.life_writer.specs.Views.{around_of, state_of}
use Rattle.life_writer.specs.Writing.{Gives}
use Rattle.life_elab.proofs.simples.thrown_object.Goals as goal

pub returns : goal.returns
returns c =
    let x = c.args.expression.now in
    sym (ap (λ (w : Gives ℕ). w.state)
    (ap (λ (p : Place). object_in (expression_uses (around_of c.args.a.now) x) (temporary p c.args.ty) (state_of c.args.writer.now)) (place_seen x) ∙ c.in_ok-built_by.ensures))
