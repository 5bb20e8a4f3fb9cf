use Rattle.life_seen.specs.Seen.{seen}
use Rattle.life_pointers.specs.Pointers.{pointer_seen}
use Rattle.life_pointers.proofs.Owning.{element_there}
use Rattle.life_pointers.proofs.owned.element_in.Goals as goal

pub returns-clause-is : goal.returns-clause-is
returns-clause-is g c = λ kinds housed fits.
    element_there (seen kinds (g.S.Store.content c.args.store.now) (g.S.Store.rows c.args.store.now)) c.args.choice c.args.buffer.birth c.length.result c.in_ok-index.index c.now.result (pointer_seen c.pointer_to.result)
    c.in_ok-index.ensures.is (c.length.ensures.is kinds housed fits) c.now.ensures c.pointer_to.ensures.is
