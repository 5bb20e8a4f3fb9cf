use Rattle.std.proofs.Common.{ap, rules, subst, sym, ◌∙◌}
use Rattle.std.proofs.lemmas.Int.{to_z-of_z}
use mir.Val.{SFits}
use Rattle.std.specs.Int.{w64}
use Rattle.life_store.specs.Doing.{Next, computed_into, put_cell}
use Rattle.life_store.specs.State as state
use Rattle.life_cells.specs.Cells.{state_of}
use Rattle.life_cells.specs.Fits.{CellsFit}
use Rattle.life_cells.specs.declared.cell.Cell.TheVariants as held
use Rattle.life_cells.proofs.FitLemmas.{set_fits}
use Rattle.life_cells.proofs.LocationLemmas.{put_now}
use Rattle.life_interp.proofs.values.put_computed.Goals as goal

pub returns-in-Ok-clause-step : goal.returns-in-Ok-clause-step
returns-in-Ok-clause-step c = λ content output input.
    let fits : SFits w64 c.in-Ok.value = search rules in
    let st = state_of content c.args.cells.now.items output input in
    ap (λ k. computed_into c.args.into k st) c.in-Ok.is
    ∙ ap (λ z. Next (put_cell c.args.into (state.Number z) st)) (sym (to_z-of_z w64 c.in-Ok.value fits))
    ∙ ap Next (put_now content c.args.cells.now.items c.put_cell.new.cells.items c.args.into (held.Number _) output input c.put_cell.ensures)

pub returns-in-Ok-clause-fits : goal.returns-in-Ok-clause-fits
returns-in-Ok-clause-fits c = λ content rows h.
    subst (CellsFit content rows) (sym c.put_cell.ensures) (set_fits content rows c.args.cells.now.items c.args.into (held.Number _) h tt)
