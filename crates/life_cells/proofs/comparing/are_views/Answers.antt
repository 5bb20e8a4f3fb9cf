use Rattle.std.proofs.Common.{Option, ap, sym, ◌∙◌}
use Rattle.life_types.specs.declared.ty.TyId.{TyId}
use Rattle.life_store.specs.Parts.{parts_if, parts_within}
use Rattle.std.specs.Prelude.{slice_get}
use Rattle.life_cells.specs.Compared.{are_views, is_viewing}
use Rattle.life_cells.specs.Scopes.{types_in}
use Rattle.life_cells.proofs.Compared.{views_by_type}
use Rattle.life_cells.proofs.comparing.are_views.Goals as goal

pub returns-in-Some : goal.returns-in-Some
returns-in-Some c =
    let types = types_in c.args.scope.now in
    c.is_viewing.ensures
    ∙ ap is_viewing c.get.ensures
    ∙ sym (views_by_type types (parts_within c.in-Some.id.0 types) (slice_get types.types c.in-Some.id.0))
    ∙ ap (λ (ty : Option TyId). are_views (parts_if types ty)) c.in-Some.ensures
