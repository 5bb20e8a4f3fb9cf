use Rattle.life_words.proofs.Owning.{taken_out}
use Rattle.life_words.proofs.Rowing.{owner_apart, put_still}
use Rattle.life_words.proofs.owners.take_owned.Goals as goal

pub returns-in-Ok-clause-shows : goal.returns-in-Ok-clause-shows
returns-in-Ok-clause-shows g c kinds o is =
    let put = rw is.there at c.in-Ok.ensures.written in
    taken_out kinds (g.S.Store.content c.args.store.now) (g.S.Store.rows c.args.store.now) c.args.object c.args.slot c.args.word o is (g.S.Store.content c.put.new.self) (g.S.Store.rows c.put.new.self) put c.in-Ok.ensures.rows_stay

pub returns-in-Ok-clause-rowed : goal.returns-in-Ok-clause-rowed
returns-in-Ok-clause-rowed g c kinds o is whole rowed =
    let put = rw is.there at c.in-Ok.ensures.written in
    put_still kinds (g.S.Store.content c.args.store.now) (g.S.Store.rows c.args.store.now) rowed c.args.object o is.there (g.S.Store.content c.put.new.self) (g.S.Store.rows c.put.new.self) c.args.slot c.args.word 0 whole (owner_apart is.owner)
    put c.in-Ok.ensures.rows_stay
