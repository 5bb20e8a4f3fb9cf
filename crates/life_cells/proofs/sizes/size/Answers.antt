use Rattle.std.proofs.Common.{◌≡◌, List, Ok, ap, rules, subst, sym, ◌∙◌}
use Rattle.std.proofs.lemmas.Int.{to_z-of_z}
use mir.Val.{SFits}
use Rattle.std.specs.Int.{w64}
use Rattle.std.specs.Prelude.{ℤ, pos}
use Rattle.life_core.specs.Operands.{base_of}
use Rattle.life_store.specs.Doing.{sized}
use Rattle.life_store.specs.Effects.{Next, put_cell}
use Rattle.life_store.specs.State as state
use Rattle.life_cells.specs.Cells.{state_of}
use Rattle.life_cells.specs.Fits.{meant, CellsFit}
use Rattle.life_cells.specs.Scopes.{function_in, types_in}
use Rattle.life_cells.specs.Steps.{Counts}
use Rattle.life_cells.specs.declared.cell.Cell.TheVariants as held
use Rattle.life_cells.specs.declared.cell.Cell.{Cell}
use Rattle.life_cells.proofs.FitLemmas.{other_cells, set_fits}
use Rattle.life_cells.proofs.LocationLemmas.{put_now}
use Rattle.life_cells.proofs.sizes.size.Goals as goal

pub returns-clause-step : goal.returns-clause-step
returns-clause-step g c = λ output input.
    let types = types_in c.args.scope.now in
    let f = function_in c.args.scope.now in
    let content = g.S.Store.content c.args.store.now in
    let rows = g.S.Store.rows c.args.store.now in
    let m = meant types content rows in
    let st = state_of m c.args.cells.now.items output input in
    let number = c.in_ok-count.count in
    let counts = subst (λ (cs : List Cell). Counts (λ r. sized types f r (base_of c.args.base.now)) m cs (Ok number)) c.deref.ensures.value c.in_ok-count.ensures.is in
    let signed : c.cast_signed.result ≡ pos number = search rules in
    let fits : SFits w64 c.cast_signed.result = search rules in
    counts c.args.into output input
    ∙ ap (λ (z : ℤ). Next (put_cell c.args.into (state.Number z) st)) (sym (to_z-of_z w64 c.cast_signed.result fits ∙ signed))
    ∙ ap Next (put_now m c.args.cells.now.items c.put_cell.new.cells.items c.args.into (held.Number _) output input c.put_cell.ensures)

pub returns-clause-fits : goal.returns-clause-fits
returns-clause-fits g c =
    let types = types_in c.args.scope.now in
    let content = g.S.Store.content c.args.store.now in
    let rows = g.S.Store.rows c.args.store.now in
    other_cells types content rows c.args.cells.now.items c.put_cell.new.cells.items c.requires.fits
    (subst (CellsFit content rows) (sym c.put_cell.ensures) (set_fits content rows c.args.cells.now.items c.args.into (held.Number _) c.requires.fits.held tt))
