use Rattle.std.proofs.Common.{[], ◌∷◌, None, ap, subst, sym, ◌∙◌}
use Rattle.life_store.specs.Held.{owner_word}
use Rattle.life_store.specs.Parts.{parts_at}
use Rattle.life_forest.specs.Kinds.{kinds_of as forest_kinds}
use Rattle.life_seen.specs.Kinds.{kinds_of}
use Rattle.life_values.specs.Emptied.{emptied_each, CanEmpty}
use Rattle.life_values.specs.Ended.{ended_number}
use Rattle.life_values.specs.declared.spot.Spot.{Spot as Wide}
use Rattle.life_values.proofs.Flat.{layouts_own}
use Rattle.life_cells.specs.Fits.{meant}
use Rattle.life_cells.specs.Scopes.{function_in, types_in}
use Rattle.life_changes.proofs.Emptied.{can_empty}
use Rattle.life_changes.proofs.Frames.{fits_behind, in_hand, stands_at, IsBehind}
use Rattle.life_changes.proofs.Made.{null_meant, owns, replaced_behind}
use Rattle.life_changes.proofs.making.empty.Goals as goal

pub end_words-requires-clause-layouts : goal.end_words-requires-clause-layouts
end_words-requires-clause-layouts g c = layouts_own (types_in c.args.scope.now) c.args.scope.now.layouts.now c.args.scope.now.laid

pub end_words-requires-clause-can : goal.end_words-requires-clause-can
end_words-requires-clause-can g c =
    let types = types_in c.args.scope.now in
    let f = function_in c.args.scope.now in
    let content = g.S.Store.content c.args.store.now in
    let rows = g.S.Store.rows c.args.store.now in
    let limit = g.S.Store.limit c.args.store.now in
    let here = stands_at types f limit c.args.depth c.args.ty c.args.spot content rows c.args.cells.now c.requires.at in
    let hand = in_hand types f limit c.args.depth c.args.ty c.args.spot content rows c.args.cells.now c.requires.at in
    let id = c.requires.unique.0 in
    subst (λ (w : Wide). CanEmpty (kinds_of types) (forest_kinds types) c.args.depth w (0 ∷ []) content rows) (sym c.wide-place.ensures)
    (can_empty types limit c.args.depth hand c.args.ty c.args.spot content rows here id (parts_at types id) (owns types limit c.args.depth hand c.args.ty c.args.spot content rows here id c.requires.unique.1))

pub returns-clause-emptied : goal.returns-clause-emptied
returns-clause-emptied g c =
    let types = types_in c.args.scope.now in
    let f = function_in c.args.scope.now in
    let content = g.S.Store.content c.args.store.now in
    let rows = g.S.Store.rows c.args.store.now in
    let limit = g.S.Store.limit c.args.store.now in
    let here = stands_at types f limit c.args.depth c.args.ty c.args.spot content rows c.args.cells.now c.requires.at in
    let hand = in_hand types f limit c.args.depth c.args.ty c.args.spot content rows c.args.cells.now c.requires.at in
    c.end_words.ensures.emptied.is
    ∙ ap (λ (w : Wide). emptied_each (ended_number (forest_kinds types) c.args.depth) w.object.birth w.slot w.word (0 ∷ []) (meant types content rows)) c.wide-place.ensures
    ∙ null_meant types limit c.args.depth hand c.args.ty c.args.spot content rows here c.requires.unique.0 c.requires.unique.1

pub returns-clause-bounded : goal.returns-clause-bounded
returns-clause-bounded g c =
    let types = types_in c.args.scope.now in
    let f = function_in c.args.scope.now in
    let content = g.S.Store.content c.args.store.now in
    let rows = g.S.Store.rows c.args.store.now in
    let limit = g.S.Store.limit c.args.store.now in
    let here = stands_at types f limit c.args.depth c.args.ty c.args.spot content rows c.args.cells.now c.requires.at in
    let hand = in_hand types f limit c.args.depth c.args.ty c.args.spot content rows c.args.cells.now c.requires.at in
    (subst (IsBehind limit (meant types content rows)) (sym (returns-clause-emptied g c)) (replaced_behind types limit c.args.depth hand c.args.ty c.args.spot content rows here (parts_at types c.args.ty) (owner_word None ∷ []))).bounded

pub returns-clause-grows : goal.returns-clause-grows
returns-clause-grows g c =
    let types = types_in c.args.scope.now in
    let f = function_in c.args.scope.now in
    let content = g.S.Store.content c.args.store.now in
    let rows = g.S.Store.rows c.args.store.now in
    let limit = g.S.Store.limit c.args.store.now in
    let here = stands_at types f limit c.args.depth c.args.ty c.args.spot content rows c.args.cells.now c.requires.at in
    let hand = in_hand types f limit c.args.depth c.args.ty c.args.spot content rows c.args.cells.now c.requires.at in
    let b = (subst (IsBehind limit (meant types content rows)) (sym (returns-clause-emptied g c)) (replaced_behind types limit c.args.depth hand c.args.ty c.args.spot content rows here (parts_at types c.args.ty) (owner_word None ∷ []))).grows in
    record { births = b.births; clock = b.clock }

pub returns-clause-fits : goal.returns-clause-fits
returns-clause-fits g c =
    let types = types_in c.args.scope.now in
    let content = g.S.Store.content c.args.store.now in
    let rows = g.S.Store.rows c.args.store.now in
    let d = g.S.Store.content c.end_words.new.store in
    let new = g.S.Store.rows c.end_words.new.store in
    fits_behind types content d rows new c.args.cells.now c.requires.at.ready.early c.requires.at.ready.fits.held c.end_words.ensures.emptied.housed (c.end_words.ensures.rowed c.requires.at.ready.fits.rowed) c.end_words.ensures.later (returns-clause-grows g c)
