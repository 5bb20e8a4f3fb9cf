use Rattle.std.proofs.Common.{List, Some, None, subst, ◌≡◌}
use Rattle.life_core.specs.Operands.{location_of}
use Rattle.life_core.specs.Step.{Erase}
use Rattle.life_store.specs.Doing.{changed, erases}
use Rattle.life_store.specs.Parts.{parts_at}
use Rattle.life_store.specs.Places.{location_cell}
use Rattle.life_seen.specs.Kinds.{kinds_of}
use Rattle.life_pointers.specs.Owned.{spot_seen}
use Rattle.life_pointers.specs.Pointers.{pointer_seen}
use Rattle.life_cells.specs.Cells.{pointer_in, state_in}
use Rattle.life_cells.specs.Fits.{meant}
use Rattle.life_cells.specs.Scopes.{function_in, types_in}
use Rattle.life_cells.specs.declared.cell.Cell.{Cell}
use Rattle.life_changes.proofs.ErasedWays.{erases_lost, erases_stops, erases_with, takes_iterator}
use Rattle.life_changes.proofs.Ways.{goes_alike}
use Rattle.life_changes.proofs.erasing.erase_at.Goals as goal

pub returns-in-None-clause-step : goal.returns-in-None-clause-step
returns-in-None-clause-step g c = λ s output input.
    let types = types_in c.args.scope.now in
    let f = function_in c.args.scope.now in
    let content = g.S.Store.content c.args.store.now in
    let rows = g.S.Store.rows c.args.store.now in
    let limit = g.S.Store.limit c.args.store.now in
    let cells = c.args.cells.now.items in
    let m = meant types content rows in
    erases_lost s types f (parts_at types c.args.ty) c.args.spot (location_of c.args.from.now) (location_of c.args.into.now) m cells
    (subst (λ (cs : List Cell). None ≡ pointer_in (location_cell types f (location_of c.args.from.now) (state_in m cs))) c.deref.ensures.value c.in-None.ensures.is) output input

pub returns-in-Err-clause-step : goal.returns-in-Err-clause-step
returns-in-Err-clause-step g c = λ s output input.
    let types = types_in c.args.scope.now in
    let f = function_in c.args.scope.now in
    let content = g.S.Store.content c.args.store.now in
    let rows = g.S.Store.rows c.args.store.now in
    let limit = g.S.Store.limit c.args.store.now in
    let cells = c.args.cells.now.items in
    let m = meant types content rows in
    erases_stops s types f (parts_at types c.args.ty) c.args.spot (location_of c.args.from.now) (location_of c.args.into.now) m cells c.in-Some.pointer
    (subst (λ (cs : List Cell). Some (pointer_seen c.in-Some.pointer) ≡ pointer_in (location_cell types f (location_of c.args.from.now) (state_in m cs))) c.deref.ensures.value c.in-Some.ensures.is)
    c.in-Err.stop (c.in-Err.ensures.is (kinds_of types) c.requires.at.ready.fits.housed c.in-Some.ensures.fits) output input

pub erase_here-requires-clause-takes : goal.erase_here-requires-clause-takes
erase_here-requires-clause-takes g c =
    let types = types_in c.args.scope.now in
    let f = function_in c.args.scope.now in
    let content = g.S.Store.content c.args.store.now in
    let rows = g.S.Store.rows c.args.store.now in
    let limit = g.S.Store.limit c.args.store.now in
    let cells = c.args.cells.now.items in
    let m = meant types content rows in
    takes_iterator types f c.args.ty (location_of c.args.from.now) (location_of c.args.into.now) (state_in m cells) c.requires.typed c.requires.locations.1

pub returns-in-Ok-clause-step : goal.returns-in-Ok-clause-step
returns-in-Ok-clause-step g c = λ s.
    let types = types_in c.args.scope.now in
    let f = function_in c.args.scope.now in
    let content = g.S.Store.content c.args.store.now in
    let rows = g.S.Store.rows c.args.store.now in
    let limit = g.S.Store.limit c.args.store.now in
    let cells = c.args.cells.now.items in
    let m = meant types content rows in
    goes_alike (changed s types f (parts_at types c.args.ty) (spot_seen c.args.spot) (Erase (location_of c.args.from.now) (location_of c.args.into.now)))
    (erases types f (parts_at types c.args.ty) (spot_seen c.args.spot) (pointer_seen c.in-Ok.iterator) (location_of c.args.into.now)) m cells
    (erases_with s types f (parts_at types c.args.ty) c.args.spot (location_of c.args.from.now) (location_of c.args.into.now) m cells c.in-Some.pointer
    (subst (λ (cs : List Cell). Some (pointer_seen c.in-Some.pointer) ≡ pointer_in (location_cell types f (location_of c.args.from.now) (state_in m cs))) c.deref.ensures.value c.in-Some.ensures.is)
    c.in-Ok.iterator (c.in-Ok.ensures.is (kinds_of types) c.requires.at.ready.fits.housed c.in-Some.ensures.fits))
    _ _ c.erase_here.result (c.erase_here.ensures.step)
