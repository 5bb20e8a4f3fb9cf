use Rattle.life_seen.specs.Seen.{seen}
use Rattle.life_interp.proofs.NumberLemmas.{shows_value}
use Rattle.life_interp.proofs.locals.new_object.Goals as goal

pub returns-in-Ok-clause-shows : goal.returns-in-Ok-clause-shows
returns-in-Ok-clause-shows g c = λ kinds housed.
    shows_value kinds (seen kinds (g.S.Store.content c.args.store.now) (g.S.Store.rows c.args.store.now)) (g.S.Store.content c.born_one.new.store) (g.S.Store.rows c.born_one.new.store) c.args.ty (c.in-Ok.ensures.shows kinds housed)
