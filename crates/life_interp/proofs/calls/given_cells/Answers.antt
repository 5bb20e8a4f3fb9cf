use Rattle.std.proofs.Common.{ap, subst, sym, ◌∙◌, arith}
use Rattle.life_core.specs.Function.{function_of, program_of}
use Rattle.life_store.specs.Calls.{parameters_given}
use Rattle.life_store.specs.State.{State}
use Rattle.life_cells.specs.Cells.{cells_seen}
use Rattle.life_interp.specs.Steps.{TellsEnd}
use Rattle.life_cells.specs.Fits.{meant}
use Rattle.life_cells.proofs.FitLemmas.{other_cells}
use Rattle.life_interp.proofs.FitLemmas.{blank_fits}
use Rattle.life_interp.proofs.FrameLemmas.{frame_is}
use Rattle.life_interp.proofs.calls.given_cells.Goals as goal

pub give_all-requires-clause-fits : goal.give_all-requires-clause-fits
give_all-requires-clause-fits g c = rw c.in-Ok.ensures (other_cells _ _ _ c.args.values.now _ c.requires.fits (blank_fits _ _ _))

pub give_all-requires-clause-slots : goal.give_all-requires-clause-slots
give_all-requires-clause-slots g c = c.requires.slots

pub give_all-requires-clause-values : goal.give_all-requires-clause-values
give_all-requires-clause-values g c = c.requires.fits.held

pub returns-in-Err-give_all-clause-step : goal.returns-in-Err-give_all-clause-step
returns-in-Err-give_all-clause-step g c = λ s e output input.
    let f = function_of c.args.f.now in
    let is = frame_is f (meant (program_of c.args.program.now).types (g.S.Store.content c.args.store.now) (g.S.Store.rows c.args.store.now)) c.in-Ok.cells.items c.len.result output input c.in-Ok.ensures (omega (arith, c.len.ensures, c.args.f.now.locals.ok.0)) in
    subst (λ (st : State). TellsEnd (parameters_given s (program_of c.args.program.now).types f 0 (cells_seen c.args.values.now) st) c.in-Err-give_all.ending) (sym is)
    (c.in-Err-give_all.ensures.step s e output input)

pub returns-in-Ok-give_all-clause-step : goal.returns-in-Ok-give_all-clause-step
returns-in-Ok-give_all-clause-step g c = λ s e output input.
    let f = function_of c.args.f.now in
    let is = frame_is f (meant (program_of c.args.program.now).types (g.S.Store.content c.args.store.now) (g.S.Store.rows c.args.store.now)) c.in-Ok.cells.items c.len.result output input c.in-Ok.ensures (omega (arith, c.len.ensures, c.args.f.now.locals.ok.0)) in
    ap (parameters_given s (program_of c.args.program.now).types f 0 (cells_seen c.args.values.now)) is ∙ c.in-Ok-give_all.ensures.step s e output input
