use Rattle.std.proofs.Common.{Some, ap, ◌∙◌}
use Rattle.life_core.specs.Operands.{location_of}
use Rattle.life_store.specs.Places.{location_cell}
use Rattle.life_store.specs.State.{Cell}
use Rattle.life_pointers.specs.Pointers.{pointer_seen}
use Rattle.life_cells.specs.Cells.{state_in}
use Rattle.life_cells.specs.Fits.{meant}
use Rattle.life_cells.specs.Scopes.{function_in, types_in}
use Rattle.life_slots.proofs.SlotOperands.{no_pointer_handed, pointer_is_handed}
use Rattle.life_slots.proofs.operands.pointer_cell.Goals as goal

pub returns-in-None-clause-seen : goal.returns-in-None-clause-seen
returns-in-None-clause-seen g c =
    let types = types_in c.args.scope.now in
    let f = function_in c.args.scope.now in
    let st = state_in (meant types (g.S.Store.content c.args.store.now) (g.S.Store.rows c.args.store.now)) c.args.cells.now in
    no_pointer_handed (location_cell types f (location_of c.args.location.now) st) c.in-None.ensures.is

pub returns-in-Some-clause-seen : goal.returns-in-Some-clause-seen
returns-in-Some-clause-seen g c =
    let types = types_in c.args.scope.now in
    let f = function_in c.args.scope.now in
    let st = state_in (meant types (g.S.Store.content c.args.store.now) (g.S.Store.rows c.args.store.now)) c.args.cells.now in
    ap (λ (v : Cell). Some v) c.holding.ensures.is ∙ pointer_is_handed (location_cell types f (location_of c.args.location.now) st) (pointer_seen c.in-Some.pointer) c.in-Some.ensures.is

pub returns-in-Some-clause-fits : goal.returns-in-Some-clause-fits
returns-in-Some-clause-fits g c = c.holding.ensures.fits (g.S.Store.content c.args.store.now) (g.S.Store.rows c.args.store.now) c.in-Some.ensures.fits
