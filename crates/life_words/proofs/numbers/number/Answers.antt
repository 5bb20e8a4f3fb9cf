use Rattle.std.proofs.Common.{sym, ◌∙◌}
use Rattle.life_seen.proofs.PlainWords.{plain_read}
use Rattle.life_seen.specs.Named.{names_of}
use Rattle.life_words.proofs.Owning.{same_ok}
use Rattle.life_words.proofs.numbers.number.Goals as goal

pub returns-in-Ok : goal.returns-in-Ok
returns-in-Ok g c kinds o is =
    let got = rw is.there at c.get.ensures in
    same_ok (sym c.in-Ok.is ∙ got) ∙ sym (plain_read kinds (names_of (g.S.Store.content c.args.store.now) (g.S.Store.rows c.args.store.now)) o c.args.slot c.args.word is.plain)
