use Rattle.std.proofs.Common.{ap, sym}
use Rattle.std.specs.Prelude.{slice_get}
use Rattle.life_store.specs.Calls.{object_handed}
use Rattle.life_cells.specs.Cells.{cells_seen}
use Rattle.life_cells.proofs.FitLemmas.{cell_fits}
use Rattle.life_cells.specs.declared.cell.Cell.TheVariants as held
use Rattle.life_interp.proofs.CellLemmas.{cells_at, object_handed_none}
use Rattle.life_interp.proofs.handing.object_cell.Goals as goal

pub returns-in-None-clause-seen : goal.returns-in-None-clause-seen
returns-in-None-clause-seen c = object_handed_none (slice_get (cells_seen c.args.cells.now) c.args.local) c.in-None.ensures.is

pub returns-in-Some-clause-seen : goal.returns-in-Some-clause-seen
returns-in-Some-clause-seen c = sym (ap object_handed (cells_at c.args.cells.now c.args.local (held.Object c.in-Some.object) c.in-Some.ensures.held))

pub returns-in-Some-clause-fits : goal.returns-in-Some-clause-fits
returns-in-Some-clause-fits c = λ content rows h. cell_fits content rows c.args.cells.now c.args.local (held.Object c.in-Some.object) h c.in-Some.ensures.held
