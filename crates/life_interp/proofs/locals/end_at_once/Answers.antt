use Rattle.std.proofs.Common.{[], ◌∷◌, ap, arith}
use Rattle.life_core.specs.Step.{End}
use Rattle.life_store.specs.Doing.{Effect, end_locals, on_next}
use Rattle.life_cells.specs.Scopes.{function_in, texts_in, types_in}
use Rattle.life_interp.proofs.QuickSteps.{left_attempt}
use Rattle.life_interp.proofs.locals.end_at_once.Goals as goal

pub end_one-requires-clause-stands : goal.end_one-requires-clause-stands
end_one-requires-clause-stands g c = (function_in c.args.scope.now, c.requires.stands.0, c.requires.stands.1)

pub returns-in-Err-clause-done : goal.returns-in-Err-clause-done
returns-in-Err-clause-done g c =
    left_attempt (types_in c.args.scope.now) (function_in c.args.scope.now) (g.S.Store.limit c.args.store.now) (texts_in c.args.scope.now) (End (c.args.local ∷ [])) (g.S.Store.content c.args.store.now) (g.S.Store.content c.end_one.new.store) (g.S.Store.rows c.args.store.now) (g.S.Store.rows c.end_one.new.store) c.args.cells.now c.end_one.new.cells
    c.requires.fits c.in-Err.ensures.content_stays c.in-Err.ensures.rows_stay c.in-Err.ensures.cells_stay

pub returns-in-Ok-clause-done : goal.returns-in-Ok-clause-done
returns-in-Ok-clause-done g c =
    let types = types_in c.args.scope.now in
    let f = function_in c.args.scope.now in
    let q = c.in-Ok.ensures in
    let births = q.births in
    let clock = q.clock in
    record {
      step = λ s set output input. ap (λ (e : Effect). on_next e (end_locals types f [])) (q.step f c.requires.stands.0 c.requires.stands.1 output input);
      fits = q.fits;
      later = q.later;
      grows = record { births = omega (arith, births); clock = omega (arith, clock) };
    }
