use Rattle.std.proofs.Common.{[], ◌∷◌, Err, ap, subst, sym, ◌∙◌}
use Rattle.life_store.specs.Edits.{rewritten}
use Rattle.life_forest.specs.Kinds.{kinds_of as forest_kinds}
use Rattle.life_seen.specs.Kinds.{kinds_of}
use Rattle.life_values.specs.Ended.{ended_number}
use Rattle.life_values.specs.Rewritten.{given_characters, CanRewrite}
use Rattle.life_values.specs.declared.spot.Spot.{Spot as Wide}
use Rattle.life_values.proofs.Flat.{layouts_own}
use Rattle.life_pointers.specs.Owned.{spot_seen}
use Rattle.life_cells.specs.Fits.{meant}
use Rattle.life_cells.specs.Scopes.{types_in}
use Rattle.life_changes.specs.Steps.{Gets}
use Rattle.life_changes.proofs.Editing.{comes_unborn}
use Rattle.life_changes.proofs.Texts.{can_rewrite, plain, rewrite_meant}
use Rattle.life_changes.proofs.text_edits.put.Goals as goal

pub rewrite-requires-clause-layouts : goal.rewrite-requires-clause-layouts
rewrite-requires-clause-layouts g c = layouts_own (types_in c.args.scope.now) c.args.scope.now.layouts.now c.args.scope.now.laid

pub rewrite-requires-clause-plain : goal.rewrite-requires-clause-plain
rewrite-requires-clause-plain g c =
    let content = g.S.Store.content c.args.store.now in
    let rows = g.S.Store.rows c.args.store.now in
    plain (types_in c.args.scope.now) (g.S.Store.limit c.args.store.now) c.args.depth c.requires.owner.0 c.args.ty c.args.spot c.args.buffer content rows c.requires.owner.1 c.args.characters c.requires.text

pub rewrite-requires-clause-can : goal.rewrite-requires-clause-can
rewrite-requires-clause-can g c =
    let types = types_in c.args.scope.now in
    let content = g.S.Store.content c.args.store.now in
    let rows = g.S.Store.rows c.args.store.now in
    subst (λ (w : Wide). CanRewrite (kinds_of types) (forest_kinds types) c.args.depth w (0 ∷ []) c.args.characters content rows) (sym c.wide-place.ensures)
    (can_rewrite types (g.S.Store.limit c.args.store.now) c.args.depth c.requires.owner.0 c.args.ty c.args.spot c.args.buffer content rows c.requires.owner.1 c.args.characters c.requires.text)

pub returns-in-Err-rewrite-clause-rewritten : goal.returns-in-Err-rewrite-clause-rewritten
returns-in-Err-rewrite-clause-rewritten g c = λ s given.
    let types = types_in c.args.scope.now in
    let content = g.S.Store.content c.args.store.now in
    let rows = g.S.Store.rows c.args.store.now in
    let m = meant types content rows in
    let d = g.S.Store.content c.rewrite.new.store in
    let new = g.S.Store.rows c.rewrite.new.store in
    subst (λ f. Gets {A = Unit {0}} (kinds_of types) (rewritten s c.args.characters (spot_seen c.args.spot) c.args.buffer.birth c.args.words.now m) (Err f) d new) (sym c.unborn.ensures)
    (comes_unborn (Unit {0}) (Unit {0}) (kinds_of types) _ (rewritten s c.args.characters (spot_seen c.args.spot) c.args.buffer.birth c.args.words.now m) d d new new c.in-Err-rewrite.fault
    (ap (λ (w : Wide). given_characters s (ended_number (forest_kinds types) c.args.depth) c.args.characters w.object.birth w.slot w.word (0 ∷ []) c.args.words.now m) c.wide-place.ensures
    ∙ rewrite_meant types (g.S.Store.limit c.args.store.now) c.args.depth c.requires.owner.0 c.args.ty c.args.spot c.args.buffer content rows c.requires.owner.1 c.args.characters c.requires.text s c.args.words.now)
    (c.in-Err-rewrite.ensures.rewritten s given.cells_is))

pub returns-in-Ok-rewrite-clause-rewritten : goal.returns-in-Ok-rewrite-clause-rewritten
returns-in-Ok-rewrite-clause-rewritten g c = λ s given.
    let types = types_in c.args.scope.now in
    let content = g.S.Store.content c.args.store.now in
    let rows = g.S.Store.rows c.args.store.now in
    let m = meant types content rows in
    let came = c.in-Ok-rewrite.ensures.rewritten s given.cells_is in (
      came.0,
      sym (ap (λ (w : Wide). given_characters s (ended_number (forest_kinds types) c.args.depth) c.args.characters w.object.birth w.slot w.word (0 ∷ []) c.args.words.now m) c.wide-place.ensures
          ∙ rewrite_meant types (g.S.Store.limit c.args.store.now) c.args.depth c.requires.owner.0 c.args.ty c.args.spot c.args.buffer content rows c.requires.owner.1 c.args.characters c.requires.text s c.args.words.now)
          ∙ came.1,
      came.2,
    )
