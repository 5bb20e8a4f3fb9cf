use Rattle.life_core.specs.Operands.{location_of, source_of}
use Rattle.life_store.specs.Doing.{aimed}
use Rattle.life_cells.specs.Fits.{meant}
use Rattle.life_cells.specs.Scopes.{function_in, types_in}
use Rattle.life_cells.proofs.StepLemmas.{made_points}
use Rattle.life_cells.proofs.aiming.aim.Goals as goal

pub returns-clause-step : goal.returns-clause-step
returns-clause-step g c = λ s texts.
    let types = types_in c.args.scope.now in
    let f = function_in c.args.scope.now in
    let m = meant types (g.S.Store.content c.args.store.now) (g.S.Store.rows c.args.store.now) in
    made_points types f (λ p. aimed s types f p (source_of c.args.source.now)) (location_of c.args.pointer.now) m c.args.cells.now.items c.deref.result.now c.deref.ensures.value
    c.in_ok-to.to _ _ c.point.result (c.in_ok-to.ensures.is s texts) c.point.ensures.step
