use Rattle.life_pointers.proofs.Short.{clock_fits}
use Rattle.life_pointers.proofs.owned.owned_end.Goals as goal

pub returns-clause-fits : goal.returns-clause-fits
returns-clause-fits g c = λ kinds o is can.
    let content = g.S.Store.content c.args.store.now in
    c.pointer_to.ensures.fits content (g.S.Store.rows c.args.store.now) (c.in_ok-buffer.ensures.fits kinds o is) (clock_fits content c.now.result c.now.ensures can)
