use Rattle.life_store.specs.Edits.{buffer_of}
use Rattle.life_seen.specs.Seen.{seen}
use Rattle.life_pointers.specs.Owned.{spot_seen}
use Rattle.life_pointers.specs.Pointers.{pointer_seen}
use Rattle.life_pointers.proofs.Owning.{whole_there}
use Rattle.life_pointers.proofs.owned.owned_whole.Goals as goal

pub returns-clause-is : goal.returns-clause-is
returns-clause-is g c = λ kinds o is.
    let m = seen kinds (g.S.Store.content c.args.store.now) (g.S.Store.rows c.args.store.now) in
    whole_there m (buffer_of m (spot_seen c.args.owner)) c.in_ok-buffer.buffer.birth c.length.result c.now.result (pointer_seen c.pointer_to.result)
    (c.in_ok-buffer.ensures.is kinds o is) (c.length.ensures.is kinds is.housed (c.in_ok-buffer.ensures.fits kinds o is)) c.now.ensures c.pointer_to.ensures.is
