use Rattle.std.proofs.Common.{ap, sym, ◌∙◌}
use Rattle.std.specs.Prelude.{slice_get}
use Rattle.life_store.specs.Calls.{given_back}
use Rattle.life_interp.specs.Cells.{sort_seen}
use Rattle.life_cells.specs.Cells.{cells_seen}
use Rattle.life_interp.proofs.FrameLemmas.{pointer_back_is}
use Rattle.life_interp.proofs.handing.result_of.Goals as goal

pub returns-in-Pointer-clause-seen : goal.returns-in-Pointer-clause-seen
returns-in-Pointer-clause-seen c =
    pointer_back_is c.own_cell.result _ c.own_cell.ensures.seen
    ∙ ap (λ k. given_back (slice_get c.args.types.now.types c.args.f.now.result.0) k (slice_get (cells_seen c.args.cells.now) c.args.f.now.parameters)) (sym (ap sort_seen c.in-Pointer.is) ∙ c.result_sort.ensures)

pub returns-in-Pointer-clause-fits : goal.returns-in-Pointer-clause-fits
returns-in-Pointer-clause-fits c = λ content rows h. c.own_cell.ensures.fits content rows h

pub returns-in-View-clause-seen : goal.returns-in-View-clause-seen
returns-in-View-clause-seen c =
    pointer_back_is c.own_cell-in-View.result _ c.own_cell-in-View.ensures.seen
    ∙ ap (λ k. given_back (slice_get c.args.types.now.types c.args.f.now.result.0) k (slice_get (cells_seen c.args.cells.now) c.args.f.now.parameters)) (sym (ap sort_seen c.in-View.is) ∙ c.result_sort.ensures)

pub returns-in-View-clause-fits : goal.returns-in-View-clause-fits
returns-in-View-clause-fits c = λ content rows h. c.own_cell-in-View.ensures.fits content rows h

pub returns-in-Blank-clause-fits : goal.returns-in-Blank-clause-fits
returns-in-Blank-clause-fits c = λ content rows h. c.other_back.ensures.fits content rows h
