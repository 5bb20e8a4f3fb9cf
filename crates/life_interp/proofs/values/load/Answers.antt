use Rattle.std.proofs.Common.{List, Ok, Err, ap, refl, rules, subst, sym, ◌∙◌}
use Rattle.std.proofs.lemmas.Int.{to_z-of_z}
use Rattle.std.proofs.lemmas.Result.{err_from_is_err_and}
use mir.Val.{SFits}
use Rattle.std.specs.Int.{w64}
use Rattle.std.specs.Prelude.{ℤ}
use Rattle.life_core.specs.Operands.{operand_of}
use Rattle.life_store.specs.Doing.{loaded}
use Rattle.life_store.specs.Effects.{Next, put_cell}
use Rattle.life_store.specs.State as state
use Rattle.life_pointers.specs.Attempts.{itself}
use Rattle.life_cells.specs.Cells.{state_of}
use Rattle.life_cells.specs.Fits.{meant, CellsFit}
use Rattle.life_cells.specs.Scopes.{function_in, types_in}
use Rattle.life_cells.specs.declared.cell.Cell.{Cell}
use Rattle.life_cells.specs.declared.cell.Cell.TheVariants as held
use Rattle.life_cells.proofs.FitLemmas.{other_cells, set_fits}
use Rattle.life_cells.proofs.LocationLemmas.{put_now}
use Rattle.life_cells.proofs.StepLemmas.{stopped}
use Rattle.life_interp.specs.Steps.{Reads}
use Rattle.life_interp.proofs.StepLemmas.{err_holds}
use Rattle.life_interp.proofs.values.load.Goals as goal

pub returns-in_err-value-clause-step : goal.returns-in_err-value-clause-step
returns-in_err-value-clause-step g c = λ s texts output input.
    let types = types_in c.args.scope.now in
    let f = function_in c.args.scope.now in
    let m = meant types (g.S.Store.content c.args.store.now) (g.S.Store.rows c.args.store.now) in
    let st = state_of m c.args.cells.now.items output input in
    let stop = c.in_err-value.field-0.0 in
    let reads = subst (λ (cs : List Cell). Reads (λ r. loaded s types f r (operand_of c.args.from.now)) m cs (Err stop)) c.deref.ensures.value (c.in_err-value.ensures s texts) in
    let e = err_from_is_err_and c.from_residual.result c.from_residual.ensures.1 in
    rw (e.1, e.2) (reads c.args.into output input ∙ stopped itself (λ (z : ℤ). Next (put_cell c.args.into (state.Number z) st)) stop)

pub returns-clause-step : goal.returns-clause-step
returns-clause-step g c = λ s texts output input.
    let types = types_in c.args.scope.now in
    let f = function_in c.args.scope.now in
    let m = meant types (g.S.Store.content c.args.store.now) (g.S.Store.rows c.args.store.now) in
    let st = state_of m c.args.cells.now.items output input in
    let value = c.in_ok-value.value in
    let reads = subst (λ (cs : List Cell). Reads (λ r. loaded s types f r (operand_of c.args.from.now)) m cs (Ok value)) c.deref.ensures.value (c.in_ok-value.ensures s texts) in
    let fits : SFits w64 value = search rules in
    reads c.args.into output input
    ∙ ap (λ (z : ℤ). Next (put_cell c.args.into (state.Number z) st)) (sym (to_z-of_z w64 value fits))
    ∙ ap Next (put_now m c.args.cells.now.items c.put_cell.new.cells.items c.args.into (held.Number _) output input c.put_cell.ensures)

pub returns-clause-fits : goal.returns-clause-fits
returns-clause-fits g c =
    let types = types_in c.args.scope.now in
    let content = g.S.Store.content c.args.store.now in
    let rows = g.S.Store.rows c.args.store.now in
    other_cells types content rows c.args.cells.now.items c.put_cell.new.cells.items c.requires.fits
    (subst (CellsFit content rows) (sym c.put_cell.ensures) (set_fits content rows c.args.cells.now.items c.args.into (held.Number _) c.requires.fits.held tt))

pub returns-in_err-value-clause-stays : goal.returns-in_err-value-clause-stays
returns-in_err-value-clause-stays g c = err_holds c.from_residual.result _ refl
