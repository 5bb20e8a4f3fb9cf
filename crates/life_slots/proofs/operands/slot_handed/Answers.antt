use Rattle.std.proofs.Common.{sym, ◌∙◌}
use Rattle.life_core.specs.Operands.{location_of}
use Rattle.life_store.specs.Parts.{location_parts}
use Rattle.life_cells.specs.Cells.{state_of}
use Rattle.life_cells.specs.Fits.{meant}
use Rattle.life_cells.specs.Scopes.{function_in, types_in}
use Rattle.life_slots.proofs.SlotOperands.{owner_hands, pointer_hands}
use Rattle.life_slots.proofs.operands.slot_handed.Goals as goal

pub owned_cell-requires-clause-owner : goal.owned_cell-requires-clause-owner
owned_cell-requires-clause-owner g c = c.requires.place.owner (sym c.is_unique.ensures ∙ c.if-is_unique.true)

pub pointer_cell-requires-clause-holds : goal.pointer_cell-requires-clause-holds
pointer_cell-requires-clause-holds g c = c.requires.place.pointer (sym c.is_unique.ensures ∙ c.if-is_unique.false)

pub returns-then-is_unique-clause-seen : goal.returns-then-is_unique-clause-seen
returns-then-is_unique-clause-seen g c = λ output input.
    let types = types_in c.args.scope.now in
    let f = function_in c.args.scope.now in
    let l = location_of c.args.location.now in
    let st = state_of (meant types (g.S.Store.content c.args.store.now) (g.S.Store.rows c.args.store.now)) c.args.cells.now output input in
    c.owned_cell.ensures.seen ∙ sym (owner_hands types f l st (location_parts types f l) (sym c.is_unique.ensures ∙ c.if-is_unique.true))

pub returns-else-is_unique-clause-seen : goal.returns-else-is_unique-clause-seen
returns-else-is_unique-clause-seen g c = λ output input.
    let types = types_in c.args.scope.now in
    let f = function_in c.args.scope.now in
    let l = location_of c.args.location.now in
    let st = state_of (meant types (g.S.Store.content c.args.store.now) (g.S.Store.rows c.args.store.now)) c.args.cells.now output input in
    c.pointer_cell.ensures.seen ∙ sym (pointer_hands types f l st (location_parts types f l) (sym c.is_unique.ensures ∙ c.if-is_unique.false))
