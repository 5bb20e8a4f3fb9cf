use Rattle.std.proofs.Common.{List, ap, false, sym, ◌∙◌}
use Rattle.std.specs.Prelude.{slice_get}
use Rattle.life_core.specs.Holdings.{AnObject}
use Rattle.life_core.specs.Step.{Live}
use Rattle.life_core.specs.declared.instr.Form.TheVariants as form
use Rattle.life_cells.specs.Cells.{cells_seen, state_of}
use Rattle.life_cells.specs.Fits.{meant}
use Rattle.life_cells.specs.Scopes.{function_in, texts_in, types_in}
use Rattle.life_cells.specs.declared.cell.Cell.{Cell}
use Rattle.life_interp.specs.Steps.{is_free}
use Rattle.life_interp.proofs.CellLemmas.{free_empty}
use Rattle.life_interp.proofs.LocalLemmas.{live_is}
use Rattle.life_interp.proofs.QuickSteps.{left_attempt, nothing_done}
use Rattle.life_interp.proofs.locals.free_born.Goals as goal

pub returns-then-not-is_free-clause-done : goal.returns-then-not-is_free-clause-done
returns-then-not-is_free-clause-done g c =
    nothing_done (types_in c.args.scope.now) (function_in c.args.scope.now) (g.S.Store.limit c.args.store.now) (texts_in c.args.scope.now) (Live c.args.local form.Plain) (g.S.Store.content c.args.store.now) (g.S.Store.rows c.args.store.now) c.args.cells.now c.requires.fits

pub returns-in-Err-clause-done : goal.returns-in-Err-clause-done
returns-in-Err-clause-done g c =
    left_attempt (types_in c.args.scope.now) (function_in c.args.scope.now) (g.S.Store.limit c.args.store.now) (texts_in c.args.scope.now) (Live c.args.local form.Plain) (g.S.Store.content c.args.store.now) (g.S.Store.content c.born.new.store) (g.S.Store.rows c.args.store.now) (g.S.Store.rows c.born.new.store) c.args.cells.now c.born.new.cells
    c.requires.fits c.in-Err.ensures.content_stays c.in-Err.ensures.rows_stay c.in-Err.ensures.cells_stay

pub returns-in-Ok-clause-done : goal.returns-in-Ok-clause-done
returns-in-Ok-clause-done g c =
    let types = types_in c.args.scope.now in
    let f = function_in c.args.scope.now in
    let m = meant types (g.S.Store.content c.args.store.now) (g.S.Store.rows c.args.store.now) in
    let cells = c.args.cells.now in
    let cell_is = free_empty (slice_get (cells_seen cells.items) c.args.local) (ap (λ (cs : List Cell). is_free (slice_get (cells_seen cs) c.args.local)) (sym c.deref.ensures.value) ∙ sym c.is_free.ensures ∙ c.if-not-is_free.false) in
    record {
      step = λ s set output input.
          live_is s types f c.args.local c.args.declared AnObject form.Plain (state_of m cells.items output input) c.requires.declared cell_is c.requires.object
          ∙ c.in-Ok.ensures.step s set.cells output input;
      fits = c.in-Ok.ensures.fits;
      later = c.in-Ok.ensures.later;
      grows = c.in-Ok.ensures.grows;
    }
