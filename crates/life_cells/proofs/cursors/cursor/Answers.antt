use Rattle.life_core.specs.Operands.{base_of, location_of}
use Rattle.life_store.specs.Doing.{cursor}
use Rattle.life_cells.specs.Fits.{meant}
use Rattle.life_cells.specs.Scopes.{function_in, types_in}
use Rattle.life_cells.proofs.StepLemmas.{made_points}
use Rattle.life_cells.proofs.cursors.cursor.Goals as goal

pub returns-clause-step : goal.returns-clause-step
returns-clause-step g c =
    let types = types_in c.args.scope.now in
    let f = function_in c.args.scope.now in
    let m = meant types (g.S.Store.content c.args.store.now) (g.S.Store.rows c.args.store.now) in
    made_points types f (λ p. cursor types f p (base_of c.args.base.now) c.args.end) (location_of c.args.pointer.now) m c.args.cells.now.items c.deref.result.now c.deref.ensures.value
    c.in_ok-to.to _ _ c.point.result c.in_ok-to.ensures.is c.point.ensures.step
