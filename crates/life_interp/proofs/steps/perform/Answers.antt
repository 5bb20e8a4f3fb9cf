use Rattle.std.proofs.Common.{drop, subst, sym}
use Rattle.life_core.specs.declared.instr.Instr.{Instr}
use Rattle.life_core.specs.Function.{function_of, program_of}
use Rattle.life_core.specs.Step.{step_of}
use Rattle.life_store.specs.Doing.{does}
use Rattle.life_interp.specs.Walking.{Performs, Sunk}
use Rattle.life_cells.specs.Cells.{state_in}
use Rattle.life_cells.specs.Fits.{meant}
use Rattle.life_interp.specs.Accessed.{HasPlaces}
use Rattle.life_interp.proofs.SoundPlaces.{has_places}
use Rattle.life_interp.proofs.StepLemmas.{ok_holds}
use Rattle.life_interp.proofs.WalkLemmas.{fit_where_ok, performs_quiet, untouched}
use Rattle.life_interp.proofs.steps.perform.Goals as goal

pub pass-requires-clause-viewed : goal.pass-requires-clause-viewed
pass-requires-clause-viewed g c =
    let p = program_of c.args.program.now in
    let f = function_of c.args.f.now in
    let st = state_in (meant p.types (g.S.Store.content c.args.store.now) (g.S.Store.rows c.args.store.now)) c.args.cells.now.items in
    subst (λ (i : Instr). HasPlaces p.types f st (step_of i)) c.in-Port.is (has_places p f st c.args.layouts.now c.requires.layouts (step_of c.args.instr.now) c.requires.at)

pub returns-in-Port-clause-step : goal.returns-in-Port-clause-step
returns-in-Port-clause-step g c = λ s set growing.
    let content = meant (program_of c.args.program.now).types (g.S.Store.content c.args.store.now) (g.S.Store.rows c.args.store.now) in
    let k : Sunk = record { old = g.O.Sink.taken c.args.out.now; new = g.O.Sink.taken c.pass.new.out; faults = g.O.Sink.faults c.args.out.now; later = g.O.Sink.faults c.pass.new.out } in
    subst (λ (i : Instr). Performs (does s (program_of c.args.program.now).types (function_of c.args.f.now) (step_of i)) content c.args.cells.now.items (drop c.args.taken.now c.args.input.now) content c.pass.new.cells.items (drop c.pass.new.taken c.args.input.now) k c.pass.result)
    (sym c.in-Port.is) (c.pass.ensures.step s set.texts)

pub returns-in-Port-clause-fits : goal.returns-in-Port-clause-fits
returns-in-Port-clause-fits g c =
    let content = g.S.Store.content c.args.store.now in
    let rows = g.S.Store.rows c.args.store.now in
    fit_where_ok (program_of c.args.program.now).types content rows c.args.cells.now.items c.pass.new.cells.items c.pass.result c.requires.fits (c.pass.ensures.fits content rows c.requires.fits.held)

pub returns-in_default : goal.returns-in_default
returns-in_default g c = record {
  step = λ s set growing.
      let k : Sunk = record { old = g.O.Sink.taken c.args.out.now; new = g.O.Sink.taken c.args.out.now; faults = g.O.Sink.faults c.args.out.now; later = g.O.Sink.faults c.args.out.now } in
      performs_quiet (does s (program_of c.args.program.now).types (function_of c.args.f.now) (step_of c.args.instr.now)) (meant (program_of c.args.program.now).types (g.S.Store.content c.args.store.now) (g.S.Store.rows c.args.store.now)) (meant (program_of c.args.program.now).types (g.S.Store.content c.act.new.store) (g.S.Store.rows c.act.new.store)) c.args.cells.now.items c.act.new.cells.items
      (drop c.args.taken.now c.args.input.now) k c.act.result (untouched (g.O.Sink.taken c.args.out.now) (g.O.Sink.faults c.args.out.now)) (c.act.ensures.step s set growing);
  fits = c.act.ensures.fits;
  bounded = c.act.ensures.bounded;
  later = c.act.ensures.later;
  grows = c.act.ensures.grows;
  limit = c.act.ensures.limit;
}

pub returns-in-Port-clause-bounded : goal.returns-in-Port-clause-bounded
returns-in-Port-clause-bounded g c = ok_holds c.pass.result _ c.requires.bounded
