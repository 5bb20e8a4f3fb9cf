use Rattle.life_pointers.proofs.Short.{clock_fits, same_fits}
use Rattle.life_pointers.proofs.iterators.moved.Goals as goal

pub returns-clause-fits : goal.returns-clause-fits
returns-clause-fits g c = λ can.
    let content = g.S.Store.content c.args.store.now in
    let rows = g.S.Store.rows c.args.store.now in
    let fits = same_fits content rows c.args.iterator c.in_ok-iterator.iterator c.in_ok-iterator.ensures.same c.requires in
    c.at_index.ensures.fits content rows fits (clock_fits content c.now.result c.now.ensures can) c.in_ok-index.ensures.short
