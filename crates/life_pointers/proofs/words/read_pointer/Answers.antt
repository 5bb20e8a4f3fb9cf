use Rattle.std.proofs.Common.{◌∙◌}
use Rattle.life_pointers.proofs.Reading.{read, readable}
use Rattle.life_pointers.proofs.words.read_pointer.Goals as goal

pub returns-clause-is : goal.returns-clause-is
returns-clause-is g c = λ kinds o is rowed.
    let content = g.S.Store.content c.args.store.now in
    let rows = g.S.Store.rows c.args.store.now in
    let first = rw is.there at c.word_of-first.ensures in
    let index = rw is.there at c.word_of-index.ensures in
    let count = rw is.there at c.word_of-count.ensures in
    let fourth = rw is.there at c.word_of-fourth.ensures in
    let last = rw is.there at c.word_of-last.ensures in
    c.pointer_from.ensures.is content rows (readable kinds content rows c.args.object c.args.slot c.args.word o is rowed _ _ _ _ _ first index count fourth last)
    ∙ read kinds content rows c.args.object c.args.slot c.args.word o is rowed _ _ _ _ _ first index count fourth last

pub returns-clause-fits : goal.returns-clause-fits
returns-clause-fits g c = λ kinds o is rowed.
    let content = g.S.Store.content c.args.store.now in
    let rows = g.S.Store.rows c.args.store.now in
    let first = rw is.there at c.word_of-first.ensures in
    let index = rw is.there at c.word_of-index.ensures in
    let count = rw is.there at c.word_of-count.ensures in
    let fourth = rw is.there at c.word_of-fourth.ensures in
    let last = rw is.there at c.word_of-last.ensures in
    c.pointer_from.ensures.fits content rows (readable kinds content rows c.args.object c.args.slot c.args.word o is rowed _ _ _ _ _ first index count fourth last)
