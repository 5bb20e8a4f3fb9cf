use Rattle.std.proofs.Common.{◌≡◌, Some, ap, subst, sym, ◌∙◌}
use Rattle.life_types.specs.declared.ty.TyId.{TyId}
use Rattle.life_core.specs.Operands.{location_of}
use Rattle.life_store.specs.Parts.{parts_at, Unique}
use Rattle.life_cells.specs.Scopes.{function_in, types_in}
use Rattle.life_changes.proofs.Spots.{local_at, same_type}
use Rattle.life_changes.proofs.making.make_null.Goals as goal

pub empty-requires : goal.empty-requires
empty-requires g c =
    let types = types_in c.args.scope.now in
    let f = function_in c.args.scope.now in
    let content = g.S.Store.content c.args.store.now in
    let rows = g.S.Store.rows c.args.store.now in
    let limit = g.S.Store.limit c.args.store.now in
    let typed = c.requires.typed in
    let same = same_type typed.0 c.in-Some.ty (sym typed.2 ∙ sym c.location_type.ensures ∙ c.in-Some.is) in
    record {
      at = local_at types f limit c.args.depth content rows c.args.cells.now c.requires.served c.requires.ready (location_of c.args.owner.now) c.in-Some.ty (typed.2 ∙ ap Some same) c.requires.owner c.in-Ok.spot c.in-Ok.ensures.owns c.in-Ok.ensures.is;
      unique = (typed.1, subst (λ (t : TyId). parts_at types t ≡ Unique typed.1 (parts_at types typed.1)) same typed.3);
    }
