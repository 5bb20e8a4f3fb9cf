use Rattle.life_pointers.proofs.Owning.{owned_fits, owned_is}
use Rattle.life_pointers.proofs.owned.owned_by.Goals as goal

pub returns-clause-is : goal.returns-clause-is
returns-clause-is g c = λ kinds o is.
    owned_is kinds (g.S.Store.content c.args.store.now) (g.S.Store.rows c.args.store.now) c.args.owner o is c.owned.result (c.owned.ensures kinds o is)

pub returns-clause-fits : goal.returns-clause-fits
returns-clause-fits g c = λ kinds o is.
    owned_fits kinds (g.S.Store.content c.args.store.now) (g.S.Store.rows c.args.store.now) c.args.owner o is c.owned.result (c.owned.ensures kinds o is)
