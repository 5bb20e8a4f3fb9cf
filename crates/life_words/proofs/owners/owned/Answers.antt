use Rattle.std.proofs.Common.{sym, ◌∙◌}
use Rattle.life_words.proofs.Owning.{holds, same_ok}
use Rattle.life_words.proofs.owners.owned.Goals as goal

pub returns-in-Ok : goal.returns-in-Ok
returns-in-Ok g c kinds o is =
    let content = g.S.Store.content c.args.store.now in
    let rows = g.S.Store.rows c.args.store.now in
    let got = rw is.there at c.get.ensures in
    holds kinds content rows c.args.object c.args.slot c.args.word o is c.in-Ok.held (same_ok (sym got ∙ c.in-Ok.is)) c.living.result c.living.ensures
