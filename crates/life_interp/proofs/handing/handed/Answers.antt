use Rattle.std.proofs.Common.{ap, subst, sym, ◌∙◌}
use Rattle.life_core.specs.Operands.{argument_of}
use Rattle.life_core.specs.declared.operand.Argument.{Argument}
use Rattle.life_store.specs.Calls.{handed}
use Rattle.life_cells.specs.Cells.{state_in, state_of}
use Rattle.life_cells.specs.Fits.{meant}
use Rattle.life_cells.specs.Scopes.{function_in, types_in}
use Rattle.life_interp.specs.CallOperands.{IsArgumentPlace}
use Rattle.life_interp.proofs.handing.handed.Goals as goal

pub returns-in-Value-clause-step : goal.returns-in-Value-clause-step
returns-in-Value-clause-step g c = λ output input.
    let types = types_in c.args.scope.now in
    let f = function_in c.args.scope.now in
    let st = state_of (meant types (g.S.Store.content c.args.store.now) (g.S.Store.rows c.args.store.now)) c.args.cells.now output input in
    c.number_cell.ensures.seen ∙ ap (λ a. handed types f st (argument_of a)) (sym c.in-Value.is)

pub returns-in-Value-clause-fits : goal.returns-in-Value-clause-fits
returns-in-Value-clause-fits g c = c.number_cell.ensures.fits (g.S.Store.content c.args.store.now) (g.S.Store.rows c.args.store.now)

pub returns-in-Given-clause-step : goal.returns-in-Given-clause-step
returns-in-Given-clause-step g c = λ output input.
    let types = types_in c.args.scope.now in
    let f = function_in c.args.scope.now in
    let st = state_of (meant types (g.S.Store.content c.args.store.now) (g.S.Store.rows c.args.store.now)) c.args.cells.now output input in
    c.object_cell.ensures.seen ∙ ap (λ a. handed types f st (argument_of a)) (sym c.in-Given.is)

pub returns-in-Given-clause-fits : goal.returns-in-Given-clause-fits
returns-in-Given-clause-fits g c = c.object_cell.ensures.fits (g.S.Store.content c.args.store.now) (g.S.Store.rows c.args.store.now) c.requires.fits.held

pub pointer_cell-requires-clause-holds : goal.pointer_cell-requires-clause-holds
pointer_cell-requires-clause-holds g c =
    let types = types_in c.args.scope.now in
    let st = state_in (meant types (g.S.Store.content c.args.store.now) (g.S.Store.rows c.args.store.now)) c.args.cells.now in
    subst (λ (a : Argument). IsArgumentPlace types (function_in c.args.scope.now) st (argument_of a)) c.in-Pointer.is c.requires.place

pub returns-in-Pointer-clause-step : goal.returns-in-Pointer-clause-step
returns-in-Pointer-clause-step g c = λ output input.
    let types = types_in c.args.scope.now in
    let f = function_in c.args.scope.now in
    let st = state_of (meant types (g.S.Store.content c.args.store.now) (g.S.Store.rows c.args.store.now)) c.args.cells.now output input in
    c.pointer_cell.ensures.seen ∙ ap (λ a. handed types f st (argument_of a)) (sym c.in-Pointer.is)

pub slot_handed-requires-clause-place : goal.slot_handed-requires-clause-place
slot_handed-requires-clause-place g c =
    let types = types_in c.args.scope.now in
    let st = state_in (meant types (g.S.Store.content c.args.store.now) (g.S.Store.rows c.args.store.now)) c.args.cells.now in
    subst (λ (a : Argument). IsArgumentPlace types (function_in c.args.scope.now) st (argument_of a)) c.in-Slot.is c.requires.place

pub returns-in-Slot-clause-step : goal.returns-in-Slot-clause-step
returns-in-Slot-clause-step g c = λ output input.
    let types = types_in c.args.scope.now in
    let f = function_in c.args.scope.now in
    let st = state_of (meant types (g.S.Store.content c.args.store.now) (g.S.Store.rows c.args.store.now)) c.args.cells.now output input in
    c.slot_handed.ensures.seen output input ∙ ap (λ a. handed types f st (argument_of a)) (sym c.in-Slot.is)
