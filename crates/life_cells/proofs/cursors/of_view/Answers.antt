use Rattle.std.proofs.Common.{ap, sym, ◌∙◌}
use Rattle.life_core.specs.Operands.{location_of}
use Rattle.life_store.specs.Effects.{Attempt, on_got}
use Rattle.life_store.specs.Places.{location_cell, pointed}
use Rattle.life_store.specs.State.{Pointer}
use Rattle.life_seen.specs.Kinds.{kinds_of}
use Rattle.life_pointers.specs.Pointers.{pointer_seen}
use Rattle.life_pointers.proofs.MeantSteps.{cursor_is}
use Rattle.life_cells.specs.Cells.{state_in, state_of}
use Rattle.life_cells.specs.Fits.{meant}
use Rattle.life_cells.specs.Scopes.{function_in, types_in}
use Rattle.life_cells.proofs.CellLemmas.{points}
use Rattle.life_cells.proofs.Ranges.{cursor_lost, short_end}
use Rattle.life_cells.proofs.cursors.of_view.Goals as goal

pub returns-in-None-clause-is : goal.returns-in-None-clause-is
returns-in-None-clause-is g c = λ p output input.
    let types = types_in c.args.scope.now in
    let f = function_in c.args.scope.now in
    let content = g.S.Store.content c.args.store.now in
    let rows = g.S.Store.rows c.args.store.now in
    let m = meant types content rows in
    let st = state_of m c.args.cells.now output input in
    cursor_lost types f st p (location_of c.args.location.now) c.args.end c.in-None.ensures.is

pub returns-in-Some-clause-is : goal.returns-in-Some-clause-is
returns-in-Some-clause-is g c = λ p output input.
    let types = types_in c.args.scope.now in
    let f = function_in c.args.scope.now in
    let content = g.S.Store.content c.args.store.now in
    let rows = g.S.Store.rows c.args.store.now in
    let m = meant types content rows in
    let st = state_of m c.args.cells.now output input in
    cursor_is types f st (location_of c.args.location.now) (pointer_seen c.in-Some.view) (points _ (pointer_seen c.in-Some.view) c.in-Some.ensures.is) p c.args.end
    ∙ ap (λ (a : Attempt Pointer). on_got a (λ v. pointed types f p v st)) (sym (c.viewed_end.ensures.is (kinds_of types) c.requires.fits.housed))

pub returns-in-Some-clause-fits : goal.returns-in-Some-clause-fits
returns-in-Some-clause-fits g c =
    let types = types_in c.args.scope.now in
    let f = function_in c.args.scope.now in
    let content = g.S.Store.content c.args.store.now in
    let rows = g.S.Store.rows c.args.store.now in
    let m = meant types content rows in
    c.viewed_end.ensures.fits c.requires.fits.countable
    (short_end c.in-Some.view (location_cell types f (location_of c.args.location.now) (state_in m c.args.cells.now)) (points _ (pointer_seen c.in-Some.view) c.in-Some.ensures.is) c.requires.short)
