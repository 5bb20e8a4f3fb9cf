use Rattle.std.proofs.Common.{sym}
use Rattle.life_cells.proofs.FitLemmas.{cell_fits}
use Rattle.life_cells.proofs.frame.own_pointer.Goals as goal

pub returns-in-Some-clause-fits : goal.returns-in-Some-clause-fits
returns-in-Some-clause-fits c = λ content rows fits. c.pointer_of.ensures.fits content rows (cell_fits content rows c.args.cells.now c.args.local c.in-Some.cell fits (sym c.in-Some.ensures))
