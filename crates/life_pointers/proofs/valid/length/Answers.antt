use Rattle.life_pointers.proofs.Validity.{size_gone, size_there}
use Rattle.life_pointers.proofs.valid.length.Goals as goal

pub returns-in-Ok-clause-is : goal.returns-in-Ok-clause-is
returns-in-Ok-clause-is g c = λ kinds housed fits. size_there kinds (g.S.Store.content c.args.store.now) (g.S.Store.rows c.args.store.now) c.args.object housed fits c.in-Ok.shape c.in-Ok.ensures.shape

pub returns-in-Err-clause-is : goal.returns-in-Err-clause-is
returns-in-Err-clause-is g c = λ kinds housed fits. size_gone kinds (g.S.Store.content c.args.store.now) (g.S.Store.rows c.args.store.now) c.args.object housed fits c.in-Err.field-0 c.in-Err.ensures.shape
