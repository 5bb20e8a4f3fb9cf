use Rattle.std.proofs.Common.{[], ◌∷◌, Option, Result, ap, refl, subst, sym, ◌∙◌}
use Rattle.std.specs.Prelude.{slice_get, OnOk}
use Rattle.life_core.specs.Operands.{Slot, argument_of, location_of}
use Rattle.life_core.specs.declared.operand.Argument.{Argument}
use Rattle.life_store.specs.Calls.{slots_returned, slot_returned}
use Rattle.life_cells.specs.Cells.{cell_seen, cells_seen, state_of}
use Rattle.life_cells.specs.Fits.{meant, IsFit}
use Rattle.life_cells.specs.Scopes.{function_in, types_in}
use Rattle.life_cells.specs.declared.cell.Cell.{Cell}
use Rattle.life_cells.proofs.FitLemmas.{cell_fits, later_kept}
use Rattle.life_cells.proofs.LocationLemmas.{keeps_itself}
use Rattle.life_slots.specs.Slots.{IsBehind}
use Rattle.life_interp.specs.CallOperands.{slot_values}
use Rattle.life_interp.specs.Returning.{CanReturn}
use Rattle.life_interp.specs.Steps.{LeavesBoth}
use Rattle.life_interp.specs.declared.ending.Ending.{Ending}
use Rattle.life_interp.proofs.CellLemmas.{cells_at}
use Rattle.life_interp.proofs.SlotReturns.{returned_none, returned_one}
use Rattle.life_interp.proofs.StepLemmas.{comes_leaves, leaves_as, ok_settled, seen}
use Rattle.life_interp.proofs.calls.return_one.Goals as goal

pub returns-in-Value-clause-step : goal.returns-in-Value-clause-step
returns-in-Value-clause-step g c = λ output input.
    let types = types_in c.args.scope.now in
    let st = state_of (meant types (g.S.Store.content c.args.store.now) (g.S.Store.rows c.args.store.now)) c.args.cells.now.items output input in
    ap (λ (a : Argument). slots_returned types (function_in c.args.scope.now) (argument_of a ∷ []) (slot_values (cells_seen c.args.left.now) c.args.index (argument_of a ∷ [])) st) c.in-Value.is

pub returns-in-Given-clause-step : goal.returns-in-Given-clause-step
returns-in-Given-clause-step g c = λ output input.
    let types = types_in c.args.scope.now in
    let st = state_of (meant types (g.S.Store.content c.args.store.now) (g.S.Store.rows c.args.store.now)) c.args.cells.now.items output input in
    ap (λ (a : Argument). slots_returned types (function_in c.args.scope.now) (argument_of a ∷ []) (slot_values (cells_seen c.args.left.now) c.args.index (argument_of a ∷ [])) st) c.in-Given.is

pub returns-in-Pointer-clause-step : goal.returns-in-Pointer-clause-step
returns-in-Pointer-clause-step g c = λ output input.
    let types = types_in c.args.scope.now in
    let st = state_of (meant types (g.S.Store.content c.args.store.now) (g.S.Store.rows c.args.store.now)) c.args.cells.now.items output input in
    ap (λ (a : Argument). slots_returned types (function_in c.args.scope.now) (argument_of a ∷ []) (slot_values (cells_seen c.args.left.now) c.args.index (argument_of a ∷ [])) st) c.in-Pointer.is

pub returns-in-None-clause-step : goal.returns-in-None-clause-step
returns-in-None-clause-step g c = λ output input.
    let types = types_in c.args.scope.now in
    let f = function_in c.args.scope.now in
    let st = state_of (meant types (g.S.Store.content c.args.store.now) (g.S.Store.rows c.args.store.now)) c.args.cells.now.items output input in
    let left = cells_seen c.args.left.now in
    ap (λ (a : Argument). slots_returned types f (argument_of a ∷ []) (slot_values left c.args.index (argument_of a ∷ [])) st) c.in-Slot.is
    ∙ returned_none types f (location_of c.in-Slot.location) left c.args.index st (seen c.args.left.now c.args.index _ c.in-None.ensures)

pub return_slot-requires-clause-value : goal.return_slot-requires-clause-value
return_slot-requires-clause-value g c =
    cell_fits (g.S.Store.content c.args.store.now) (g.S.Store.rows c.args.store.now) c.args.left.now c.args.index c.in-Some.value c.requires.left (sym c.in-Some.ensures)

pub return_slot-requires-clause-can : goal.return_slot-requires-clause-can
return_slot-requires-clause-can g c =
    let types = types_in c.args.scope.now in
    let f = function_in c.args.scope.now in
    let content = g.S.Store.content c.args.store.now in
    let rows = g.S.Store.rows c.args.store.now in
    subst (λ (o : Option Cell). CanReturn types f (Slot (location_of c.in-Slot.location)) o content rows c.args.cells.now.items) (sym c.in-Some.ensures)
    (subst (λ (a : Argument). CanReturn types f (argument_of a) (slice_get c.args.left.now c.args.index) content rows c.args.cells.now.items) c.in-Slot.is c.requires.can)

pub returns-in-Some-clause-step : goal.returns-in-Some-clause-step
returns-in-Some-clause-step g c =
    let types = types_in c.args.scope.now in
    let f = function_in c.args.scope.now in
    let m = meant types (g.S.Store.content c.args.store.now) (g.S.Store.rows c.args.store.now) in
    let d = meant types (g.S.Store.content c.return_slot.new.store) (g.S.Store.rows c.return_slot.new.store) in
    let left = cells_seen c.args.left.now in
    let cells = c.args.cells.now.items in
    let l = location_of c.in-Slot.location in
    let v = cell_seen c.in-Some.value in
    let one = slot_returned types f l v in
    let all = slots_returned types f (argument_of c.args.argument.now ∷ []) (slot_values left c.args.index (argument_of c.args.argument.now ∷ [])) in
    leaves_as (λ output input. all (state_of m cells output input)) (λ output input. one (state_of m cells output input)) (state_of d c.return_slot.new.cells.items) c.settled.result
    (λ output input.
    let st = state_of m cells output input in
    ap (λ (a : Argument). slots_returned types f (argument_of a ∷ []) (slot_values left c.args.index (argument_of a ∷ [])) st) c.in-Slot.is
    ∙ returned_one types f l left c.args.index v st (cells_at c.args.left.now c.args.index c.in-Some.value (sym c.in-Some.ensures)))
    (subst (λ (r : Result _ Ending). LeavesBoth one m cells d c.return_slot.new.cells.items r) (sym c.settled.ensures)
    (comes_leaves one m d cells c.return_slot.new.cells.items c.return_slot.result c.return_slot.ensures.step))

pub returns-in-Some-clause-fits : goal.returns-in-Some-clause-fits
returns-in-Some-clause-fits g c =
    let fits = IsFit (types_in c.args.scope.now) (g.S.Store.content c.return_slot.new.store) (g.S.Store.rows c.return_slot.new.store) c.return_slot.new.cells.items in
    subst (λ (r : Result _ Ending). OnOk r fits) (sym c.settled.ensures) (ok_settled c.return_slot.result fits c.return_slot.ensures.fits)

pub returns-in-Some-clause-behind : goal.returns-in-Some-clause-behind
returns-in-Some-clause-behind g c =
    let behind = IsBehind (g.S.Store.content c.args.store.now) (g.S.Store.content c.return_slot.new.store) (g.S.Store.rows c.args.store.now) (g.S.Store.rows c.return_slot.new.store) in
    subst (λ (r : Result _ Ending). OnOk r behind) (sym c.settled.ensures) (ok_settled c.return_slot.result behind c.return_slot.ensures.behind)

pub returns-in-Value-clause-behind : goal.returns-in-Value-clause-behind
returns-in-Value-clause-behind g c =
    let content = g.S.Store.content c.args.store.now in
    let rows = g.S.Store.rows c.args.store.now in
    record { births = refl; clock = refl; later = later_kept content content rows rows (keeps_itself content rows) }

pub returns-in-Given-clause-behind : goal.returns-in-Given-clause-behind
returns-in-Given-clause-behind g c =
    let content = g.S.Store.content c.args.store.now in
    let rows = g.S.Store.rows c.args.store.now in
    record { births = refl; clock = refl; later = later_kept content content rows rows (keeps_itself content rows) }

pub returns-in-Pointer-clause-behind : goal.returns-in-Pointer-clause-behind
returns-in-Pointer-clause-behind g c =
    let content = g.S.Store.content c.args.store.now in
    let rows = g.S.Store.rows c.args.store.now in
    record { births = refl; clock = refl; later = later_kept content content rows rows (keeps_itself content rows) }
