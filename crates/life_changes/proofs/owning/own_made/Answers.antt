use Rattle.std.proofs.Common.{[], ◌∷◌, ap, subst, sym, ◌∙◌}
use Rattle.life_forest.specs.Kinds.{kinds_of as forest_kinds}
use Rattle.life_seen.specs.Kinds.{kinds_of}
use Rattle.life_values.specs.Ended.{ended_number}
use Rattle.life_values.specs.Replaced.{replaced_by, CanReplace}
use Rattle.life_values.specs.declared.spot.Spot.{Spot as Wide}
use Rattle.life_values.proofs.Flat.{layouts_own}
use Rattle.life_cells.specs.Fits.{meant}
use Rattle.life_cells.specs.Scopes.{types_in}
use Rattle.life_changes.proofs.Made.{can_own, owned_meant}
use Rattle.life_changes.proofs.owning.own_made.Goals as goal

pub replace-requires-clause-layouts : goal.replace-requires-clause-layouts
replace-requires-clause-layouts g c = layouts_own (types_in c.args.scope.now) c.args.scope.now.layouts.now c.args.scope.now.laid

pub replace-requires-clause-can : goal.replace-requires-clause-can
replace-requires-clause-can g c =
    let types = types_in c.args.scope.now in
    let content = g.S.Store.content c.args.store.now in
    let rows = g.S.Store.rows c.args.store.now in
    let limit = g.S.Store.limit c.args.store.now in
    let depth = c.args.depth in
    let stands = c.requires.stands in
    subst (λ (w : Wide). CanReplace (kinds_of types) (forest_kinds types) depth w (0 ∷ []) c.args.object content rows) (sym c.wide-place.ensures)
    (can_own types limit depth stands.0 c.args.ty c.args.spot content rows stands.1 c.requires.unique.0 c.requires.unique.1 c.args.object c.requires.placed stands.2)

pub returns-clause-shows : goal.returns-clause-shows
returns-clause-shows g c =
    let types = types_in c.args.scope.now in
    let content = g.S.Store.content c.args.store.now in
    let rows = g.S.Store.rows c.args.store.now in
    let limit = g.S.Store.limit c.args.store.now in
    let depth = c.args.depth in
    let stands = c.requires.stands in
    let shown = c.replace.ensures.replaced in
    record {
      housed = shown.housed;
      is = shown.is
          ∙ ap (λ (w : Wide). replaced_by (ended_number (forest_kinds types) depth) w.object.birth w.slot w.word (0 ∷ []) c.args.object.birth (meant types content rows)) c.wide-place.ensures
          ∙ owned_meant types limit depth stands.0 c.args.ty c.args.spot content rows stands.1 c.requires.unique.0 c.requires.unique.1 c.args.object.birth;
    }

pub returns-clause-rowed : goal.returns-clause-rowed
returns-clause-rowed g c = c.replace.ensures.rowed c.requires.stands.1.rowed
