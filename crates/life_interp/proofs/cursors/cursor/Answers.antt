use Rattle.std.proofs.Common.{List, Result, OnOk, subst, sym}
use Rattle.life_core.specs.Function.{function_of, program_of}
use Rattle.life_core.specs.Operands.{base_of, location_of}
use Rattle.life_core.specs.Step.{Cursor}
use Rattle.life_cells.specs.Cells.{state_in}
use Rattle.life_cells.specs.Fits.{meant, IsFit}
use Rattle.life_cells.specs.Typed.{IsBase, IsRange}
use Rattle.life_cells.specs.declared.cell.Cell.{Cell}
use Rattle.life_cells.proofs.LocationLemmas.{keeps_itself}
use Rattle.life_store.specs.Doing.{does}
use Rattle.life_interp.specs.Steps.{LeavesBoth}
use Rattle.life_interp.specs.declared.ending.Ending.{Ending}
use Rattle.life_interp.proofs.StepLemmas.{comes_leaves, ok_settled}
use Rattle.life_interp.proofs.cursors.cursor.Goals as goal

pub is_near-requires-clause-fits : goal.is_near-requires-clause-fits
is_near-requires-clause-fits g c =
    let types = (program_of c.args.program.now).types in
    subst (IsFit types (g.S.Store.content c.args.store.now) (g.S.Store.rows c.args.store.now)) (sym c.deref-3.ensures.value) c.requires.fits

pub is_near-requires-clause-base : goal.is_near-requires-clause-base
is_near-requires-clause-base g c =
    let types = (program_of c.args.program.now).types in
    let m = meant types (g.S.Store.content c.args.store.now) (g.S.Store.rows c.args.store.now) in
    subst (λ (cs : List Cell). IsBase types (function_of c.args.f.now) (base_of c.args.base.now) (state_in m cs)) (sym c.deref-3.ensures.value) c.requires.places.1

pub cursor-requires-clause-pointer : goal.cursor-requires-clause-pointer
cursor-requires-clause-pointer g c = c.requires.places.0

pub cursor-requires-clause-base : goal.cursor-requires-clause-base
cursor-requires-clause-base g c =
    let types = (program_of c.args.program.now).types in
    let m = meant types (g.S.Store.content c.args.store.now) (g.S.Store.rows c.args.store.now) in
    subst (λ (cs : List Cell). IsRange types (function_of c.args.f.now) (base_of c.args.base.now) (state_in m cs)) c.deref-3.ensures.value (c.is_near.ensures c.if-is_near.true)

pub returns-then-is_near-clause-step : goal.returns-then-is_near-clause-step
returns-then-is_near-clause-step g c = λ s.
    let types = (program_of c.args.program.now).types in
    let f = function_of c.args.f.now in
    let m = meant types (g.S.Store.content c.args.store.now) (g.S.Store.rows c.args.store.now) in
    let d = meant types (g.S.Store.content c.cursor.new.store) (g.S.Store.rows c.cursor.new.store) in
    let effect = does s types f (Cursor (location_of c.args.pointer.now) (base_of c.args.base.now) c.args.end) in
    subst (λ (r : Result _ Ending). LeavesBoth effect m c.args.cells.now.items d c.cursor.new.cells.items r) (sym c.settled.ensures)
    (comes_leaves effect m d c.args.cells.now.items c.cursor.new.cells.items c.cursor.result c.cursor.ensures.step)

pub returns-then-is_near-clause-fits : goal.returns-then-is_near-clause-fits
returns-then-is_near-clause-fits g c =
    let types = (program_of c.args.program.now).types in
    let fits = IsFit types (g.S.Store.content c.cursor.new.store) (g.S.Store.rows c.cursor.new.store) c.cursor.new.cells.items in
    subst (λ (r : Result _ Ending). OnOk r fits) (sym c.settled.ensures) (ok_settled c.cursor.result fits c.cursor.ensures.fits)

pub returns-else-is_near-clause-keeps : goal.returns-else-is_near-clause-keeps
returns-else-is_near-clause-keeps g c = keeps_itself (g.S.Store.content c.args.store.now) (g.S.Store.rows c.args.store.now)
