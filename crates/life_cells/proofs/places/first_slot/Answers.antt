use Rattle.std.proofs.Common.{arith}
use Rattle.life_cells.proofs.PlaceLemmas.{first_gone, first_here, first_past}
use Rattle.life_cells.proofs.places.first_slot.Goals as goal

pub returns-then-shape-gt0 : goal.returns-then-shape-gt0
returns-then-shape-gt0 g c = λ kinds housed fits.
    first_here kinds (g.S.Store.content c.args.store.now) (g.S.Store.rows c.args.store.now) c.args.object housed fits c.in-Ok.shape c.in-Ok.ensures.shape c.in-Ok.ensures.wide c.if-shape-gt0.true

pub returns-else-shape-gt0 : goal.returns-else-shape-gt0
returns-else-shape-gt0 g c = λ kinds housed fits.
    first_past kinds (g.S.Store.content c.args.store.now) (g.S.Store.rows c.args.store.now) c.args.object housed fits c.in-Ok.shape c.in-Ok.ensures.shape (omega (arith, c.if-shape-gt0.false))

pub returns-in-Err : goal.returns-in-Err
returns-in-Err g c = λ kinds housed fits.
    first_gone kinds (g.S.Store.content c.args.store.now) (g.S.Store.rows c.args.store.now) c.args.object housed fits c.in-Err.field-0 c.in-Err.ensures.shape
