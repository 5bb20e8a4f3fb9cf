use Rattle.std.proofs.Common.{◌≡◌, List, [], ◌∷◌, map, ap, subst, sym, ◌∙◌}
use Rattle.life_core.specs.Operands.{Location, argument_of, location_of}
use Rattle.life_core.specs.declared.operand.Argument.{Argument}
use Rattle.life_store.specs.Calls.{lent, slot_lent}
use Rattle.life_store.specs.Parts.{location_parts}
use Rattle.life_cells.specs.Cells.{state_in, state_of}
use Rattle.life_cells.specs.Fits.{meant}
use Rattle.life_cells.specs.Scopes.{function_in, types_in}
use Rattle.life_cells.specs.declared.cell.Cell.{Cell}
use Rattle.life_cells.specs.declared.cell.Cell.TheVariants as held
use Rattle.life_cells.proofs.FitLemmas.{other_cells, set_fits}
use Rattle.life_cells.proofs.LocationLemmas.{keeps_itself, put_now}
use Rattle.life_slots.specs.Slots.{IsSlotPlace}
use Rattle.life_interp.specs.CallOperands.{IsLentPlace}
use Rattle.life_interp.proofs.HandedLemmas.{places_kept, still_places}
use Rattle.life_interp.proofs.handing.lend_one.Goals as goal

pub returns-in-Given-clause-lent : goal.returns-in-Given-clause-lent
returns-in-Given-clause-lent g c = λ output input.
    let types = types_in c.args.scope.now in
    let f = function_in c.args.scope.now in
    let m = meant types (g.S.Store.content c.args.store.now) (g.S.Store.rows c.args.store.now) in
    ap (λ (a : Argument). lent types f (argument_of a ∷ []) (state_of m c.args.cells.now.items output input)) c.in-Given.is
    ∙ put_now m c.args.cells.now.items c.put_cell.new.cells.items c.in-Given.local held.Empty output input c.put_cell.ensures

pub returns-in-Given-clause-fits : goal.returns-in-Given-clause-fits
returns-in-Given-clause-fits g c =
    let content = g.S.Store.content c.args.store.now in
    let rows = g.S.Store.rows c.args.store.now in
    rw c.put_cell.ensures
    (other_cells (types_in c.args.scope.now) content rows c.args.cells.now.items _ c.requires.fits (set_fits content rows c.args.cells.now.items c.in-Given.local held.Empty c.requires.fits.held tt))

pub returns-in-Given-clause-places : goal.returns-in-Given-clause-places
returns-in-Given-clause-places g c = λ xs places.
    let types = types_in c.args.scope.now in
    let m = meant types (g.S.Store.content c.args.store.now) (g.S.Store.rows c.args.store.now) in
    still_places types (function_in c.args.scope.now) m c.args.cells.now.items c.put_cell.new.cells.items c.in-Given.local c.put_cell.ensures xs places

pub returns-in-Given-clause-keeps : goal.returns-in-Given-clause-keeps
returns-in-Given-clause-keeps g c = keeps_itself (g.S.Store.content c.args.store.now) (g.S.Store.rows c.args.store.now)

pub returns-in-Value-clause-lent : goal.returns-in-Value-clause-lent
returns-in-Value-clause-lent g c = λ output input.
    let types = types_in c.args.scope.now in
    let m = meant types (g.S.Store.content c.args.store.now) (g.S.Store.rows c.args.store.now) in
    ap (λ (a : Argument). lent types (function_in c.args.scope.now) (argument_of a ∷ []) (state_of m c.args.cells.now.items output input)) c.in-Value.is

pub returns-in-Value-clause-places : goal.returns-in-Value-clause-places
returns-in-Value-clause-places g c = λ xs places. places

pub returns-in-Value-clause-keeps : goal.returns-in-Value-clause-keeps
returns-in-Value-clause-keeps g c = keeps_itself (g.S.Store.content c.args.store.now) (g.S.Store.rows c.args.store.now)

pub returns-in-Pointer-clause-lent : goal.returns-in-Pointer-clause-lent
returns-in-Pointer-clause-lent g c = λ output input.
    let types = types_in c.args.scope.now in
    let m = meant types (g.S.Store.content c.args.store.now) (g.S.Store.rows c.args.store.now) in
    ap (λ (a : Argument). lent types (function_in c.args.scope.now) (argument_of a ∷ []) (state_of m c.args.cells.now.items output input)) c.in-Pointer.is

pub returns-in-Pointer-clause-places : goal.returns-in-Pointer-clause-places
returns-in-Pointer-clause-places g c = λ xs places. places

pub returns-in-Pointer-clause-keeps : goal.returns-in-Pointer-clause-keeps
returns-in-Pointer-clause-keeps g c = keeps_itself (g.S.Store.content c.args.store.now) (g.S.Store.rows c.args.store.now)

pub lend_slot-requires-clause-place : goal.lend_slot-requires-clause-place
lend_slot-requires-clause-place g c =
    let types = types_in c.args.scope.now in
    let f = function_in c.args.scope.now in
    let l = location_of c.in-Slot.location in
    let m = meant types (g.S.Store.content c.args.store.now) (g.S.Store.rows c.args.store.now) in
    subst (λ (cells : List Cell). IsSlotPlace types f l (state_in m cells)) (sym c.deref.ensures.value)
    (subst (λ (a : Argument). IsLentPlace types f (state_in m c.args.cells.now.items) (argument_of a)) c.in-Slot.is c.requires.place)

pub returns-in-Slot-clause-lent : goal.returns-in-Slot-clause-lent
returns-in-Slot-clause-lent g c = λ output input.
    let types = types_in c.args.scope.now in
    let f = function_in c.args.scope.now in
    let l = location_of c.in-Slot.location in
    let m = meant types (g.S.Store.content c.args.store.now) (g.S.Store.rows c.args.store.now) in
    let d = meant types (g.S.Store.content c.lend_slot.new.store) (g.S.Store.rows c.lend_slot.new.store) in
    ap (λ (a : Argument). lent types f (argument_of a ∷ []) (state_of m c.args.cells.now.items output input)) c.in-Slot.is
    ∙ subst (λ (cells : List Cell). slot_lent types f (location_parts types f l) l (state_of m cells output input) ≡ state_of d cells output input) c.deref.ensures.value (c.lend_slot.ensures.lent output input)

pub returns-in-Slot-clause-fits : goal.returns-in-Slot-clause-fits
returns-in-Slot-clause-fits g c = c.lend_slot.ensures.fits c.args.cells.now.items c.requires.fits.held

pub returns-in-Slot-clause-places : goal.returns-in-Slot-clause-places
returns-in-Slot-clause-places g c = λ xs places.
    let types = types_in c.args.scope.now in
    let f = function_in c.args.scope.now in
    let m = meant types (g.S.Store.content c.args.store.now) (g.S.Store.rows c.args.store.now) in
    let d = meant types (g.S.Store.content c.lend_slot.new.store) (g.S.Store.rows c.lend_slot.new.store) in
    places_kept types f (state_in m c.args.cells.now.items) (state_in d c.args.cells.now.items)
    (subst (λ (cells : List Cell). (l : Location) → IsSlotPlace types f l (state_in m cells) → IsSlotPlace types f l (state_in d cells)) c.deref.ensures.value c.lend_slot.ensures.places)
    (map argument_of xs) places
