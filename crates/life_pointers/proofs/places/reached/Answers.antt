use Rattle.std.proofs.Common.{refl, arith}
use Rattle.life_store.specs.References.{object_of}
use Rattle.life_pointers.proofs.Placing.{at_end, here}
use Rattle.life_pointers.proofs.places.reached.Goals as goal

pub returns-then-spot-length-clause-is : goal.returns-then-spot-length-clause-is
returns-then-spot-length-clause-is g c = λ kinds housed fits.
    let content = g.S.Store.content c.args.store.now in
    let rows = g.S.Store.rows c.args.store.now in
    here kinds content rows housed c.args.spot fits c.length.result (object_of content rows c.args.spot.object) refl c.requires c.length.ensures.slots c.length.ensures.wide c.if-spot-length.true

pub returns-else-spot-length-clause-is : goal.returns-else-spot-length-clause-is
returns-else-spot-length-clause-is g c = λ kinds housed fits.
    let content = g.S.Store.content c.args.store.now in
    let rows = g.S.Store.rows c.args.store.now in
    at_end kinds content rows housed c.args.spot fits c.length.result (object_of content rows c.args.spot.object) refl c.requires c.length.ensures.slots (omega (arith, c.if-spot-length.false))
