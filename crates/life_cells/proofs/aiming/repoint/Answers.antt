use Rattle.std.proofs.Common.{◌≡◌, List, Option, Some, None, ap, subst, ◌∙◌}
use Rattle.life_core.specs.Operands.{location_of}
use Rattle.life_store.specs.Effects.{on_pointer}
use Rattle.life_store.specs.Places.{location_cell, pointed}
use Rattle.life_store.specs.State as state
use Rattle.life_pointers.specs.Pointers.{pointer_seen}
use Rattle.life_cells.specs.Cells.{pointer_in, state_in, state_of}
use Rattle.life_cells.specs.Fits.{meant}
use Rattle.life_cells.specs.Scopes.{function_in, types_in}
use Rattle.life_cells.specs.declared.cell.Cell.{Cell}
use Rattle.life_cells.proofs.CellLemmas.{no_pointer, points}
use Rattle.life_cells.proofs.aiming.repoint.Goals as goal

pub returns-in-None-clause-step : goal.returns-in-None-clause-step
returns-in-None-clause-step g c = λ output input.
    let types = types_in c.args.scope.now in
    let f = function_in c.args.scope.now in
    let content = g.S.Store.content c.args.store.now in
    let rows = g.S.Store.rows c.args.store.now in
    let m = meant types content rows in
    let st = state_of m c.args.cells.now.items output input in
    let none = subst (λ (cs : List Cell). None ≡ pointer_in (location_cell types f (location_of c.args.from.now) (state_in m cs))) c.deref.ensures.value c.in-None.ensures.is in
    no_pointer (location_cell types f (location_of c.args.from.now) st) (λ v. pointed types f (location_of c.args.pointer.now) v st) none

pub returns-in-Some-clause-step : goal.returns-in-Some-clause-step
returns-in-Some-clause-step g c = λ output input.
    let types = types_in c.args.scope.now in
    let f = function_in c.args.scope.now in
    let content = g.S.Store.content c.args.store.now in
    let rows = g.S.Store.rows c.args.store.now in
    let m = meant types content rows in
    let st = state_of m c.args.cells.now.items output input in
    let holds = subst (λ (cs : List Cell). Some (pointer_seen c.in-Some.to) ≡ pointer_in (location_cell types f (location_of c.args.from.now) (state_in m cs))) c.deref.ensures.value c.in-Some.ensures.is in
    ap (λ (o : Option state.Cell). on_pointer o (λ v. pointed types f (location_of c.args.pointer.now) v st)) (points (location_cell types f (location_of c.args.from.now) st) (pointer_seen c.in-Some.to) holds)
    ∙ c.point.ensures.step output input
