use Rattle.std.specs.Prelude.{slice_get}
use Rattle.life_cells.specs.Cells.{cell_seen, cells_seen}
use Rattle.life_interp.proofs.CellLemmas.{object_back, pointer_alone}
use Rattle.life_interp.proofs.handing.cell_back.Goals as goal

pub returns-in-None-clause-seen : goal.returns-in-None-clause-seen
returns-in-None-clause-seen c = pointer_alone (slice_get (cells_seen c.args.cells.now) c.args.local) c.own_cell.result c.in-None.ensures.seen c.own_cell.ensures.seen

pub returns-in-None-clause-fits : goal.returns-in-None-clause-fits
returns-in-None-clause-fits c = λ content rows h. c.own_cell.ensures.fits content rows h

pub returns-in-Some-clause-seen : goal.returns-in-Some-clause-seen
returns-in-Some-clause-seen c = object_back (slice_get (cells_seen c.args.cells.now) c.args.local) (cell_seen c.in-Some.object) c.in-Some.ensures.seen

pub returns-in-Some-clause-fits : goal.returns-in-Some-clause-fits
returns-in-Some-clause-fits c = λ content rows h. c.in-Some.ensures.fits content rows h
