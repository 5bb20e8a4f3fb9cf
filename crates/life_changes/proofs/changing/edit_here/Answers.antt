use Rattle.life_store.specs.Parts.{parts_at}
use Rattle.life_pointers.specs.Owned.{spot_seen}
use Rattle.life_cells.specs.Scopes.{function_in, texts_in, types_in}
use Rattle.life_cells.specs.Fits.{meant}
use Rattle.life_changes.specs.Edits.{edit_of, edited_at}
use Rattle.life_changes.proofs.Behind.{ok_bounded, ok_fits, ok_grows}
use Rattle.life_changes.proofs.Frames.{edit_goes, edited_behind, in_hand, is_given, some_given, stands_at}
use Rattle.life_changes.proofs.changing.edit_here.Goals as goal

pub edit-requires-clause-stands : goal.edit-requires-clause-stands
edit-requires-clause-stands g c =
    let types = types_in c.args.scope.now in
    let f = function_in c.args.scope.now in
    let content = g.S.Store.content c.args.store.now in
    let rows = g.S.Store.rows c.args.store.now in
    let limit = g.S.Store.limit c.args.store.now in
    (in_hand types f limit c.args.depth c.args.ty c.args.spot content rows c.args.cells.now c.requires.at, stands_at types f limit c.args.depth c.args.ty c.args.spot content rows c.args.cells.now c.requires.at)

pub returns-clause-step : goal.returns-clause-step
returns-clause-step g c = λ s given.
    let types = types_in c.args.scope.now in
    let f = function_in c.args.scope.now in
    let content = g.S.Store.content c.args.store.now in
    let rows = g.S.Store.rows c.args.store.now in
    let limit = g.S.Store.limit c.args.store.now in
    edit_goes types f limit c.args.depth c.args.ty c.args.spot content rows c.args.cells.now c.requires.at s (parts_at types c.args.ty) (edit_of c.args.change) (g.S.Store.content c.edit.new.store) (g.S.Store.rows c.edit.new.store) c.edit.result (c.edit.ensures.edited s given)

pub returns-clause-bounded : goal.returns-clause-bounded
returns-clause-bounded g c =
    let types = types_in c.args.scope.now in
    let f = function_in c.args.scope.now in
    let content = g.S.Store.content c.args.store.now in
    let rows = g.S.Store.rows c.args.store.now in
    let limit = g.S.Store.limit c.args.store.now in
    let here = stands_at types f limit c.args.depth c.args.ty c.args.spot content rows c.args.cells.now c.requires.at in
    let hand = in_hand types f limit c.args.depth c.args.ty c.args.spot content rows c.args.cells.now c.requires.at in
    let s = some_given c.args.growth limit (texts_in c.args.scope.now) in
    let given = is_given c.args.growth limit (texts_in c.args.scope.now) in
    ok_bounded types limit content (g.S.Store.content c.edit.new.store) rows (g.S.Store.rows c.edit.new.store) (edited_at s (parts_at types c.args.ty) (spot_seen c.args.spot) (edit_of c.args.change) (meant types content rows))
    (edited_behind types limit c.args.depth hand c.args.ty c.args.spot content rows here s given.cells_is c.requires.container c.args.change) c.edit.result (c.edit.ensures.edited s given)

pub returns-clause-grows : goal.returns-clause-grows
returns-clause-grows g c =
    let types = types_in c.args.scope.now in
    let f = function_in c.args.scope.now in
    let content = g.S.Store.content c.args.store.now in
    let rows = g.S.Store.rows c.args.store.now in
    let limit = g.S.Store.limit c.args.store.now in
    let here = stands_at types f limit c.args.depth c.args.ty c.args.spot content rows c.args.cells.now c.requires.at in
    let hand = in_hand types f limit c.args.depth c.args.ty c.args.spot content rows c.args.cells.now c.requires.at in
    let s = some_given c.args.growth limit (texts_in c.args.scope.now) in
    let given = is_given c.args.growth limit (texts_in c.args.scope.now) in
    ok_grows types limit content (g.S.Store.content c.edit.new.store) rows (g.S.Store.rows c.edit.new.store) (edited_at s (parts_at types c.args.ty) (spot_seen c.args.spot) (edit_of c.args.change) (meant types content rows))
    (edited_behind types limit c.args.depth hand c.args.ty c.args.spot content rows here s given.cells_is c.requires.container c.args.change) c.edit.result (c.edit.ensures.edited s given)

pub returns-clause-fits : goal.returns-clause-fits
returns-clause-fits g c =
    let types = types_in c.args.scope.now in
    let f = function_in c.args.scope.now in
    let content = g.S.Store.content c.args.store.now in
    let rows = g.S.Store.rows c.args.store.now in
    let limit = g.S.Store.limit c.args.store.now in
    let here = stands_at types f limit c.args.depth c.args.ty c.args.spot content rows c.args.cells.now c.requires.at in
    let hand = in_hand types f limit c.args.depth c.args.ty c.args.spot content rows c.args.cells.now c.requires.at in
    let s = some_given c.args.growth limit (texts_in c.args.scope.now) in
    let given = is_given c.args.growth limit (texts_in c.args.scope.now) in
    ok_fits types limit content (g.S.Store.content c.edit.new.store) rows (g.S.Store.rows c.edit.new.store) (edited_at s (parts_at types c.args.ty) (spot_seen c.args.spot) (edit_of c.args.change) (meant types content rows))
    (edited_behind types limit c.args.depth hand c.args.ty c.args.spot content rows here s given.cells_is c.requires.container c.args.change) c.args.cells.now c.requires.at.ready.early c.requires.at.ready.fits.held c.edit.result (c.edit.ensures.edited s given) c.edit.ensures.rowed c.edit.ensures.later
