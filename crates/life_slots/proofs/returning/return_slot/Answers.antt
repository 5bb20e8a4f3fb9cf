use Rattle.std.proofs.Common.{List, Some, ap, subst, sym, ◌∙◌}
use Rattle.std.proofs.lemmas.Option.{same_Some}
use Rattle.life_core.specs.Operands.{location_of}
use Rattle.life_store.specs.Calls.{slot_returned}
use Rattle.life_store.specs.State as state
use Rattle.life_pointers.specs.Pointers.{pointer_seen}
use Rattle.life_cells.specs.Cells.{cell_seen, state_of}
use Rattle.life_cells.specs.Fits.{meant}
use Rattle.life_cells.specs.Scopes.{function_in, types_in}
use Rattle.life_cells.specs.Steps.{Comes}
use Rattle.life_cells.specs.declared.cell.Cell.{Cell}
use Rattle.life_cells.specs.declared.cell.Cell.TheVariants as held
use Rattle.life_cells.proofs.CellLemmas.{points}
use Rattle.life_cells.proofs.FitLemmas.{later_kept}
use Rattle.life_slots.specs.Slots.{CanGiveBack}
use Rattle.life_slots.proofs.SlotOperands.{nothing_back}
use Rattle.life_slots.proofs.SlotsBehind.{ok_holds}
use Rattle.life_slots.proofs.returning.return_slot.Goals as goal

pub owner_back-requires-clause-can : goal.owner_back-requires-clause-can
owner_back-requires-clause-can g c =
    let types = types_in c.args.scope.now in
    let f = function_in c.args.scope.now in
    let l = location_of c.args.location.now in
    let content = g.S.Store.content c.args.store.now in
    let rows = g.S.Store.rows c.args.store.now in
    subst (CanGiveBack types f l (held.Object c.in-Some.slot) content rows) (sym c.deref.ensures.value)
    (subst (λ (v : Cell). CanGiveBack types f l v content rows c.args.cells.now.items) c.in-Some.ensures.held c.requires.can)

pub returns-in-Some-clause-step : goal.returns-in-Some-clause-step
returns-in-Some-clause-step g c =
    let types = types_in c.args.scope.now in
    let f = function_in c.args.scope.now in
    let l = location_of c.args.location.now in
    let m = meant types (g.S.Store.content c.args.store.now) (g.S.Store.rows c.args.store.now) in
    let d = meant types (g.S.Store.content c.owner_back.new.store) (g.S.Store.rows c.owner_back.new.store) in
    let cells = c.args.cells.now.items in
    subst (λ (v : Cell). Comes (slot_returned types f l (cell_seen v)) m cells d cells c.owner_back.result) (sym c.in-Some.ensures.held)
    (subst (λ (cs : List Cell). Comes (slot_returned types f l (state.Named c.in-Some.slot.birth)) m cs d cs c.owner_back.result) c.deref.ensures.value c.owner_back.ensures.step)

pub returns-in-None-pointer_of-clause-step : goal.returns-in-None-pointer_of-clause-step
returns-in-None-pointer_of-clause-step g c = λ output input.
    let types = types_in c.args.scope.now in
    let f = function_in c.args.scope.now in
    let st = state_of (meant types (g.S.Store.content c.args.store.now) (g.S.Store.rows c.args.store.now)) c.args.cells.now.items output input in
    nothing_back types f (location_of c.args.location.now) st (cell_seen c.args.value) c.in-None.ensures.is c.in-None-pointer_of.ensures.is

pub point-requires-clause-holds : goal.point-requires-clause-holds
point-requires-clause-holds g c = c.requires.can.pointer (pointer_seen c.in-Some-pointer_of.pointer) c.in-Some-pointer_of.ensures.is

pub point-requires-clause-pointer : goal.point-requires-clause-pointer
point-requires-clause-pointer g c = c.in-Some-pointer_of.ensures.fits (g.S.Store.content c.args.store.now) (g.S.Store.rows c.args.store.now) c.requires.value

pub returns-in-Some-pointer_of-clause-step : goal.returns-in-Some-pointer_of-clause-step
returns-in-Some-pointer_of-clause-step g c = λ output input.
    let types = types_in c.args.scope.now in
    let f = function_in c.args.scope.now in
    let st = state_of (meant types (g.S.Store.content c.args.store.now) (g.S.Store.rows c.args.store.now)) c.args.cells.now.items output input in
    let p = pointer_seen c.in-Some-pointer_of.pointer in
    ap (λ (v : state.Cell). slot_returned types f (location_of c.args.location.now) v st) (same_Some (cell_seen c.args.value) (state.Points p) (points (Some (cell_seen c.args.value)) p c.in-Some-pointer_of.ensures.is))
    ∙ c.point.ensures.step output input

pub returns-in-Some-pointer_of-clause-behind : goal.returns-in-Some-pointer_of-clause-behind
returns-in-Some-pointer_of-clause-behind g c =
    let content = g.S.Store.content c.args.store.now in
    let rows = g.S.Store.rows c.args.store.now in
    let after = g.S.Store.content c.point.new.store in
    let new = g.S.Store.rows c.point.new.store in
    let keeps = c.point.ensures.keeps in
    ok_holds c.point.result _ (record { births = keeps.births; clock = keeps.clock; later = later_kept content after rows new keeps })
