use Rattle.std.proofs.Common.{List, [], ap, subst, sym, ◌∙◌}
use Rattle.life_core.specs.Function.{function_of, program_of}
use Rattle.life_store.specs.State as state
use Rattle.life_cells.specs.Cells.{cells_seen}
use Rattle.life_cells.specs.Fits.{meant, CellsFit}
use Rattle.life_cells.proofs.FitLemmas.{other_cells}
use Rattle.life_interp.specs.Steps.{Begins}
use Rattle.life_interp.proofs.SlotBirths.{entry_suits}
use Rattle.life_interp.proofs.run.first_cells.Goals as goal

pub given_cells-requires-clause-slots : goal.given_cells-requires-clause-slots
given_cells-requires-clause-slots g c =
    let f = function_of c.args.f.now in
    entry_suits (program_of c.args.program.now).types (g.S.Store.rows c.args.store.now) f 0 f.parameters c.args.input.now c.deref.result.now (ap cells_seen c.deref.ensures.value ∙ c.in-Ok.ensures.values)

pub given_cells-requires-clause-fits : goal.given_cells-requires-clause-fits
given_cells-requires-clause-fits g c =
    let content = g.S.Store.content c.args.store.now in
    let rows = g.S.Store.rows c.args.store.now in
    other_cells (program_of c.args.program.now).types content rows [] c.deref.result.now c.requires.fits (subst (CellsFit content rows) (sym c.deref.ensures.value) (c.in-Ok.ensures.fits content rows))

pub returns-in-Ok-clause-step : goal.returns-in-Ok-clause-step
returns-in-Ok-clause-step g c = λ s e.
    subst (λ (vs : List state.Cell). Begins s (program_of c.args.program.now).types (function_of c.args.f.now) vs (meant (program_of c.args.program.now).types (g.S.Store.content c.args.store.now) (g.S.Store.rows c.args.store.now)) (meant (program_of c.args.program.now).types (g.S.Store.content c.given_cells.new.store) (g.S.Store.rows c.given_cells.new.store)) c.given_cells.result)
    (ap cells_seen c.deref.ensures.value ∙ c.in-Ok.ensures.values) (c.given_cells.ensures.step s e)
