use Rattle.std.proofs.Common.{List, ℕ, ap, ◌∙◌}
use Rattle.life_store.specs.Content.{with_object}
use Rattle.life_store.specs.Held.{with_words}
use Rattle.life_pointers.proofs.Reading.{rowed_written, shows_written}
use Rattle.life_pointers.proofs.words.write_pointer.Goals as goal

pub returns-clause-shows : goal.returns-clause-shows
returns-clause-shows g c = λ kinds o is.
    let content = g.S.Store.content c.args.store.now in
    let wrote = rw is.there at c.put_words.ensures.wrote in
    let last = wrote ∙ ap (λ (ws : List ℕ). with_object c.args.object.birth (with_words c.args.slot c.args.word ws o) content) c.stored.ensures.is in
    shows_written kinds content (g.S.Store.rows c.args.store.now) c.args.object c.args.slot c.args.word o is c.args.pointer c.stored.ensures.small
    (g.S.Store.content c.put_words.new.store) (g.S.Store.rows c.put_words.new.store) last c.put_words.ensures.rows

pub returns-clause-rowed : goal.returns-clause-rowed
returns-clause-rowed g c = λ kinds o is wide fits rowed.
    let content = g.S.Store.content c.args.store.now in
    let wrote = rw is.there at c.put_words.ensures.wrote in
    let last = wrote ∙ ap (λ (ws : List ℕ). with_object c.args.object.birth (with_words c.args.slot c.args.word ws o) content) c.stored.ensures.is in
    rowed_written kinds content (g.S.Store.rows c.args.store.now) c.args.object c.args.slot c.args.word o is c.args.pointer c.stored.ensures.small
    (g.S.Store.content c.put_words.new.store) (g.S.Store.rows c.put_words.new.store) last c.put_words.ensures.rows wide fits rowed
