use Rattle.life_cells.proofs.PlaceLemmas.{first_here}
use Rattle.life_interp.proofs.spots.first_spot.Goals as goal

pub returns-then-shape-gt0-clause-here : goal.returns-then-shape-gt0-clause-here
returns-then-shape-gt0-clause-here g c = λ kinds housed fits.
    first_here kinds (g.S.Store.content c.args.store.now) (g.S.Store.rows c.args.store.now) c.args.object housed fits c.in-Ok.shape c.in-Ok.ensures.shape c.in-Ok.ensures.wide c.if-shape-gt0.true
