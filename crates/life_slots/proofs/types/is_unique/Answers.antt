use Rattle.std.proofs.Common.{Option, ap, sym, ◌∙◌}
use Rattle.std.specs.Prelude.{slice_get}
use Rattle.life_types.specs.declared.ty.TyId.{TyId}
use Rattle.life_store.specs.Parts.{parts_if, parts_within}
use Rattle.life_cells.specs.Asked.{is_owning_one, is_unique}
use Rattle.life_cells.specs.Scopes.{types_in}
use Rattle.life_cells.proofs.Testing.{unique_by_type}
use Rattle.life_slots.proofs.types.is_unique.Goals as goal

pub returns-in-Some : goal.returns-in-Some
returns-in-Some c =
    let types = types_in c.args.scope.now in
    c.is_owning_one.ensures
    ∙ ap is_owning_one c.get.ensures
    ∙ sym (unique_by_type types (parts_within c.in-Some.id.0 types) (slice_get types.types c.in-Some.id.0))
    ∙ ap (λ (ty : Option TyId). is_unique (parts_if types ty)) c.in-Some.ensures
