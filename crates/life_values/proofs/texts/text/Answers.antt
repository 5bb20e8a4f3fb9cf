use Rattle.life_seen.specs.Kinds.{kinds_of}
use Rattle.life_values.proofs.TextsBorn.{can_write, text_comes, text_fails, text_later}
use Rattle.life_values.proofs.texts.text.Goals as goal

pub returns-in-Err-clause-text : goal.returns-in-Err-clause-text
returns-in-Err-clause-text g c s cells =
    text_fails (kinds_of c.args.types.now) c.args.ty c.args.characters.now (g.S.Store.limit c.args.store.now) (g.S.Store.content c.args.store.now) (g.S.Store.rows c.args.store.now)
    c.in-Err.fault c.in-Err.ensures.cells (g.S.Store.content c.born_sized.new.store) (g.S.Store.rows c.born_sized.new.store) s cells

pub write_characters-requires-clause-can : goal.write_characters-requires-clause-can
write_characters-requires-clause-can g c =
    can_write (kinds_of c.args.types.now) c.args.ty c.args.characters.now (g.S.Store.limit c.args.store.now) (g.S.Store.content c.args.store.now) (g.S.Store.rows c.args.store.now)
    c.in-Ok.ensures.room c.in-Ok.text c.in-Ok.ensures.number (g.S.Store.content c.born_sized.new.store) (g.S.Store.rows c.born_sized.new.store) (c.in-Ok.ensures.shows (kinds_of c.args.types.now) c.requires.housed) c.in-Ok.ensures.placed c.requires.plain

pub returns-in-Ok-clause-text : goal.returns-in-Ok-clause-text
returns-in-Ok-clause-text g c s cells =
    text_comes (kinds_of c.args.types.now) c.args.ty c.args.characters.now (g.S.Store.limit c.args.store.now) (g.S.Store.content c.args.store.now) (g.S.Store.rows c.args.store.now)
    c.in-Ok.ensures.room c.in-Ok.text c.in-Ok.ensures.number (g.S.Store.content c.born_sized.new.store) (g.S.Store.rows c.born_sized.new.store) (c.in-Ok.ensures.shows (kinds_of c.args.types.now) c.requires.housed) c.in-Ok.ensures.placed
    (g.S.Store.content c.write_characters.new.store) (g.S.Store.rows c.write_characters.new.store) c.write_characters.ensures.shows c.write_characters.ensures.rows s cells

pub returns-in-Ok-clause-later : goal.returns-in-Ok-clause-later
returns-in-Ok-clause-later g c =
    text_later (kinds_of c.args.types.now) c.args.ty c.args.characters.now (g.S.Store.limit c.args.store.now) (g.S.Store.content c.args.store.now) (g.S.Store.rows c.args.store.now)
    c.in-Ok.ensures.room c.in-Ok.text c.in-Ok.ensures.number (g.S.Store.content c.born_sized.new.store) (g.S.Store.rows c.born_sized.new.store) (c.in-Ok.ensures.shows (kinds_of c.args.types.now) c.requires.housed) c.in-Ok.ensures.placed
    (g.S.Store.content c.write_characters.new.store) (g.S.Store.rows c.write_characters.new.store) c.write_characters.ensures.shows c.write_characters.ensures.rows c.in-Ok.ensures.later

pub returns-in-Ok-clause-rowed : goal.returns-in-Ok-clause-rowed
returns-in-Ok-clause-rowed g c rowed = c.write_characters.ensures.rowed (c.in-Ok.ensures.rowed (kinds_of c.args.types.now) rowed)
