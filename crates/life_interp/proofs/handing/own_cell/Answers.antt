use Rattle.std.proofs.Common.{Some, ap, sym, ◌∙◌}
use Rattle.std.specs.Prelude.{slice_get}
use Rattle.life_store.specs.Calls.{pointer_handed}
use Rattle.life_store.specs.State as state
use Rattle.life_cells.specs.Cells.{cells_seen}
use Rattle.life_pointers.specs.Pointers.{pointer_seen}
use Rattle.life_cells.proofs.CellLemmas.{points}
use Rattle.life_interp.proofs.CellLemmas.{pointer_handed_none}
use Rattle.life_interp.proofs.handing.own_cell.Goals as goal

pub returns-in-None-clause-seen : goal.returns-in-None-clause-seen
returns-in-None-clause-seen c = pointer_handed_none (slice_get (cells_seen c.args.cells.now) c.args.local) c.in-None.ensures.is

pub returns-in-Some-clause-seen : goal.returns-in-Some-clause-seen
returns-in-Some-clause-seen c =
    ap (λ (v : state.Cell). Some v) c.holding.ensures.is ∙ sym (ap pointer_handed (points (slice_get (cells_seen c.args.cells.now) c.args.local) (pointer_seen c.in-Some.pointer) c.in-Some.ensures.is))

pub returns-in-Some-clause-fits : goal.returns-in-Some-clause-fits
returns-in-Some-clause-fits c = λ content rows h. c.holding.ensures.fits content rows (c.in-Some.ensures.fits content rows h)
