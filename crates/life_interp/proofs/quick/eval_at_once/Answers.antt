use Rattle.std.proofs.Common.{false, subst, sym}
use Rattle.std.specs.declared.alloc.Global.{Global}
use Rattle.std.specs.declared.vec.Vec.{Vec}
use Rattle.life_core.specs.Step.{Eval}
use Rattle.life_cells.specs.Fits.{meant}
use Rattle.life_cells.specs.Scopes.{function_in, texts_in, types_in}
use Rattle.life_cells.specs.declared.cell.Cell.{Cell}
use Rattle.life_interp.specs.Quick.{Attempts}
use Rattle.life_interp.proofs.QuickSteps.{cells_done, nothing_done}
use Rattle.life_interp.proofs.quick.eval_at_once.Goals as goal

pub returns-in-Ok : goal.returns-in-Ok
returns-in-Ok c = λ limit content rows fits.
    let types = types_in c.args.scope.now in
    let f = function_in c.args.scope.now in
    cells_done types f limit (texts_in c.args.scope.now) (Eval c.args.into c.args.operation) content rows c.args.cells.now c.evaluate.new.cells fits (c.in-Ok.ensures.fits content rows fits.held)
    (λ s set output input. c.in-Ok.ensures.step (meant types content rows) output input)

pub returns-in-Err : goal.returns-in-Err
returns-in-Err c = λ limit content rows fits.
    let types = types_in c.args.scope.now in
    let f = function_in c.args.scope.now in
    subst (λ (new : Vec Cell Global). Attempts types f limit (texts_in c.args.scope.now) (Eval c.args.into c.args.operation) content content rows rows c.args.cells.now new false) (sym c.in-Err.ensures.stays)
    (nothing_done types f limit (texts_in c.args.scope.now) (Eval c.args.into c.args.operation) content rows c.args.cells.now fits)
