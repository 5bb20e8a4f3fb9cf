use Rattle.std.proofs.Common.{List, ap, sym, ◌∙◌, arith}
use Rattle.std.specs.Prelude.{slice_get}
use Rattle.life_core.specs.Function.{function_of}
use Rattle.std.proofs.lemmas.Option.{slice_get_read, slice_get_past}
use Rattle.life_core.specs.Holdings.{Blank, AnObject, ANumber, APointer, AView}
use Rattle.life_store.specs.Doing.{Next, put_cell}
use Rattle.life_store.specs.State as state
use Rattle.life_cells.specs.Cells.{cells_seen, state_of}
use Rattle.life_cells.specs.Fits.{meant}
use Rattle.life_cells.specs.declared.cell.Cell.{Cell}
use Rattle.life_cells.proofs.FitLemmas.{other_cells, set_fits}
use Rattle.life_cells.proofs.LocationLemmas.{put_now}
use Rattle.life_interp.specs.Cells.{sort_seen}
use Rattle.life_interp.specs.Steps.{is_free}
use Rattle.life_interp.proofs.CellLemmas.{free_empty, taken_lives}
use Rattle.life_interp.proofs.LocalLemmas.{leaves_as, live_is, none_strays}
use Rattle.life_interp.proofs.locals.live.Goals as goal

pub returns-then-index-len-clause-step : goal.returns-then-index-len-clause-step
returns-then-index-len-clause-step g c = λ s e output input.
    none_strays s c.args.types.now (function_of c.args.f.now) c.args.local c.args.form (state_of (meant c.args.types.now (g.S.Store.content c.args.store.now) (g.S.Store.rows c.args.store.now)) c.args.cells.now.items output input)
    (slice_get_past c.args.f.now.locals.items c.args.local (omega (arith, c.if-index-len.true, c.len.ensures, c.args.f.now.locals.ok.0)))

pub returns-then-not-is_free-clause-step : goal.returns-then-not-is_free-clause-step
returns-then-not-is_free-clause-step g c = λ s e output input.
    let locals = c.args.f.now.locals in
    let st = state_of (meant c.args.types.now (g.S.Store.content c.args.store.now) (g.S.Store.rows c.args.store.now)) c.args.cells.now.items output input in
    let taken = ap (λ (cells : List Cell). is_free (slice_get (cells_seen cells) c.args.local)) (sym c.deref.ensures.value) ∙ sym c.is_free.ensures ∙ c.if-not-is_free.true in
    taken_lives s c.args.types.now (function_of c.args.f.now) (slice_get locals.items c.args.local) c.args.form c.args.local st taken

pub returns-in-Object-clause-step : goal.returns-in-Object-clause-step
returns-in-Object-clause-step g c = λ s e.
    let locals = c.args.f.now.locals in
    let local = c.index-declared.result.now in
    let there = slice_get_read locals.items locals.len c.args.local local locals.ok.0 (omega (arith, c.if-index-len.false, c.len.ensures)) c.index-declared.ensures in
    let cell_is = free_empty (slice_get (cells_seen c.args.cells.now.items) c.args.local) (ap (λ (cells : List Cell). is_free (slice_get (cells_seen cells) c.args.local)) (sym c.deref.ensures.value) ∙ sym c.is_free.ensures ∙ c.if-not-is_free.false) in
    let content = meant c.args.types.now (g.S.Store.content c.args.store.now) (g.S.Store.rows c.args.store.now) in
    leaves_as _ _ _ c.born.result
    (λ output input. live_is s c.args.types.now (function_of c.args.f.now) c.args.local local AnObject c.args.form (state_of content c.args.cells.now.items output input) there cell_is (sym (ap sort_seen c.in-Object.is) ∙ c.sort_of.ensures))
    (c.born.ensures.step s e)

pub returns-in-Blank-clause-step : goal.returns-in-Blank-clause-step
returns-in-Blank-clause-step g c = λ s e.
    let locals = c.args.f.now.locals in
    let local = c.index-declared.result.now in
    let there = slice_get_read locals.items locals.len c.args.local local locals.ok.0 (omega (arith, c.if-index-len.false, c.len.ensures)) c.index-declared.ensures in
    let cell_is = free_empty (slice_get (cells_seen c.args.cells.now.items) c.args.local) (ap (λ (cells : List Cell). is_free (slice_get (cells_seen cells) c.args.local)) (sym c.deref.ensures.value) ∙ sym c.is_free.ensures ∙ c.if-not-is_free.false) in
    let content = meant c.args.types.now (g.S.Store.content c.args.store.now) (g.S.Store.rows c.args.store.now) in
    leaves_as _ _ _ c.live_of.result
    (λ output input. live_is s c.args.types.now (function_of c.args.f.now) c.args.local local Blank c.args.form (state_of content c.args.cells.now.items output input) there cell_is (sym (ap sort_seen c.in-Blank.is) ∙ c.sort_of.ensures))
    (c.live_of.ensures.step s e)

pub returns-in-Number-clause-step : goal.returns-in-Number-clause-step
returns-in-Number-clause-step g c = λ s e output input.
    let locals = c.args.f.now.locals in
    let local = c.index-declared.result.now in
    let there = slice_get_read locals.items locals.len c.args.local local locals.ok.0 (omega (arith, c.if-index-len.false, c.len.ensures)) c.index-declared.ensures in
    let cell_is = free_empty (slice_get (cells_seen c.args.cells.now.items) c.args.local) (ap (λ (cells : List Cell). is_free (slice_get (cells_seen cells) c.args.local)) (sym c.deref.ensures.value) ∙ sym c.is_free.ensures ∙ c.if-not-is_free.false) in
    let content = meant c.args.types.now (g.S.Store.content c.args.store.now) (g.S.Store.rows c.args.store.now) in
    live_is s c.args.types.now (function_of c.args.f.now) c.args.local local ANumber c.args.form (state_of content c.args.cells.now.items output input) there cell_is (sym (ap sort_seen c.in-Number.is) ∙ c.sort_of.ensures)

pub returns-in-Pointer-clause-step : goal.returns-in-Pointer-clause-step
returns-in-Pointer-clause-step g c = λ s e output input.
    let locals = c.args.f.now.locals in
    let local = c.index-declared.result.now in
    let there = slice_get_read locals.items locals.len c.args.local local locals.ok.0 (omega (arith, c.if-index-len.false, c.len.ensures)) c.index-declared.ensures in
    let cell_is = free_empty (slice_get (cells_seen c.args.cells.now.items) c.args.local) (ap (λ (cells : List Cell). is_free (slice_get (cells_seen cells) c.args.local)) (sym c.deref.ensures.value) ∙ sym c.is_free.ensures ∙ c.if-not-is_free.false) in
    let content = meant c.args.types.now (g.S.Store.content c.args.store.now) (g.S.Store.rows c.args.store.now) in
    let st = state_of content c.args.cells.now.items output input in
    live_is s c.args.types.now (function_of c.args.f.now) c.args.local local APointer c.args.form st there cell_is (sym (ap sort_seen c.in-Pointer.is) ∙ c.sort_of.ensures)
    ∙ ap (λ (v : state.Cell). Next (put_cell c.args.local v st)) (sym (c.holding.ensures.is ∙ ap state.Points c.born_pointer.ensures.is))
    ∙ ap Next (put_now content c.args.cells.now.items c.put_cell.new.cells.items c.args.local c.holding.result output input c.put_cell.ensures)

pub returns-in-Pointer-clause-fits : goal.returns-in-Pointer-clause-fits
returns-in-Pointer-clause-fits g c =
    let content = g.S.Store.content c.args.store.now in
    let rows = g.S.Store.rows c.args.store.now in
    rw c.put_cell.ensures
    (other_cells c.args.types.now content rows c.args.cells.now.items _ c.requires.fits
    (set_fits content rows c.args.cells.now.items c.args.local c.holding.result c.requires.fits.held (c.holding.ensures.fits content rows (c.born_pointer.ensures.fits content rows))))

pub returns-in-View-clause-step : goal.returns-in-View-clause-step
returns-in-View-clause-step g c = λ s e output input.
    let locals = c.args.f.now.locals in
    let local = c.index-declared.result.now in
    let there = slice_get_read locals.items locals.len c.args.local local locals.ok.0 (omega (arith, c.if-index-len.false, c.len.ensures)) c.index-declared.ensures in
    let cell_is = free_empty (slice_get (cells_seen c.args.cells.now.items) c.args.local) (ap (λ (cells : List Cell). is_free (slice_get (cells_seen cells) c.args.local)) (sym c.deref.ensures.value) ∙ sym c.is_free.ensures ∙ c.if-not-is_free.false) in
    let content = meant c.args.types.now (g.S.Store.content c.args.store.now) (g.S.Store.rows c.args.store.now) in
    let st = state_of content c.args.cells.now.items output input in
    live_is s c.args.types.now (function_of c.args.f.now) c.args.local local AView c.args.form st there cell_is (sym (ap sort_seen c.in-View.is) ∙ c.sort_of.ensures)
    ∙ ap (λ (v : state.Cell). Next (put_cell c.args.local v st)) (sym (c.holding-in-View.ensures.is ∙ ap state.Points c.empty_view.ensures.is))
    ∙ ap Next (put_now content c.args.cells.now.items c.put_cell-in-View.new.cells.items c.args.local c.holding-in-View.result output input c.put_cell-in-View.ensures)

pub returns-in-View-clause-fits : goal.returns-in-View-clause-fits
returns-in-View-clause-fits g c =
    let content = g.S.Store.content c.args.store.now in
    let rows = g.S.Store.rows c.args.store.now in
    rw c.put_cell-in-View.ensures
    (other_cells c.args.types.now content rows c.args.cells.now.items _ c.requires.fits
    (set_fits content rows c.args.cells.now.items c.args.local c.holding-in-View.result c.requires.fits.held (c.holding-in-View.ensures.fits content rows (c.empty_view.ensures.fits content rows))))
