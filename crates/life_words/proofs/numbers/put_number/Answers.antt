use Rattle.life_seen.proofs.PlainWords.{shows_number}
use Rattle.life_words.proofs.Rowing.{plain_apart, put_still}
use Rattle.life_words.proofs.numbers.put_number.Goals as goal

pub returns-in-Ok-clause-shows : goal.returns-in-Ok-clause-shows
returns-in-Ok-clause-shows g c kinds o is =
    let put = rw is.there at c.in-Ok.ensures.written in
    shows_number kinds (g.S.Store.content c.args.store.now) (g.S.Store.rows c.args.store.now) is.housed c.args.object c.args.slot c.args.word c.args.value o is.there is.plain
    (g.S.Store.content c.put.new.self) (g.S.Store.rows c.put.new.self) put c.in-Ok.ensures.rows_stay

pub returns-in-Ok-clause-rowed : goal.returns-in-Ok-clause-rowed
returns-in-Ok-clause-rowed g c kinds o is whole rowed =
    let put = rw is.there at c.in-Ok.ensures.written in
    put_still kinds (g.S.Store.content c.args.store.now) (g.S.Store.rows c.args.store.now) rowed c.args.object o is.there (g.S.Store.content c.put.new.self) (g.S.Store.rows c.put.new.self) c.args.slot c.args.word c.args.value whole (plain_apart is.plain)
    put c.in-Ok.ensures.rows_stay
