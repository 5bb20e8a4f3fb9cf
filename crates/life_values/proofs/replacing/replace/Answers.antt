use Rattle.life_forest.specs.Kinds.{kinds_of as forest_kinds}
use Rattle.life_seen.specs.Kinds.{kinds_of}
use Rattle.life_values.proofs.AlikeKinds.{alike_kinds}
use Rattle.life_values.proofs.StillRowed.{are_whole}
use Rattle.life_values.proofs.TakenOver.{can_own, own_keeps, replace_later, replace_shows, word_there}
use Rattle.life_values.proofs.replacing.replace.Goals as goal

pub end_words-requires-clause-can : goal.end_words-requires-clause-can
end_words-requires-clause-can g c = c.requires.can.empty

pub own-requires-clause-has : goal.own-requires-clause-has
own-requires-clause-has g c =
    word_there (kinds_of c.args.types.now) (forest_kinds c.args.types.now) (alike_kinds c.args.types.now) c.args.depth c.args.spot c.args.owners.now c.args.other (g.S.Store.content c.args.store.now) (g.S.Store.rows c.args.store.now) c.requires.can
    (g.S.Store.content c.end_words.new.store) (g.S.Store.rows c.end_words.new.store) c.end_words.ensures.emptied c.end_words.ensures.later

pub own-requires-clause-lives : goal.own-requires-clause-lives
own-requires-clause-lives g c =
    can_own (kinds_of c.args.types.now) (forest_kinds c.args.types.now) (alike_kinds c.args.types.now) c.args.depth c.args.spot c.args.owners.now c.args.other (g.S.Store.content c.args.store.now) (g.S.Store.rows c.args.store.now) c.requires.can
    (g.S.Store.content c.end_words.new.store) (g.S.Store.rows c.end_words.new.store) c.end_words.ensures.emptied c.end_words.ensures.later

pub returns-clause-replaced : goal.returns-clause-replaced
returns-clause-replaced g c =
    replace_shows (kinds_of c.args.types.now) (forest_kinds c.args.types.now) (alike_kinds c.args.types.now) c.args.depth c.args.spot c.args.owners.now c.args.other (g.S.Store.content c.args.store.now) (g.S.Store.rows c.args.store.now) c.requires.can
    (g.S.Store.content c.end_words.new.store) (g.S.Store.rows c.end_words.new.store) c.end_words.ensures.emptied c.end_words.ensures.later (g.S.Store.content c.own.new.store) (g.S.Store.rows c.own.new.store) c.own.ensures.shows c.own.ensures.rows

pub returns-clause-later : goal.returns-clause-later
returns-clause-later g c =
    replace_later (kinds_of c.args.types.now) (forest_kinds c.args.types.now) (alike_kinds c.args.types.now) c.args.depth c.args.spot c.args.owners.now c.args.other (g.S.Store.content c.args.store.now) (g.S.Store.rows c.args.store.now) c.requires.can
    (g.S.Store.content c.end_words.new.store) (g.S.Store.rows c.end_words.new.store) c.end_words.ensures.emptied c.end_words.ensures.later (g.S.Store.content c.own.new.store) (g.S.Store.rows c.own.new.store) c.own.ensures.shows c.own.ensures.rows

pub returns-clause-rowed : goal.returns-clause-rowed
returns-clause-rowed g c rowed =
    own_keeps (kinds_of c.args.types.now) (forest_kinds c.args.types.now) (alike_kinds c.args.types.now) c.args.depth c.args.spot c.args.owners.now c.args.other (g.S.Store.content c.args.store.now) (g.S.Store.rows c.args.store.now) c.requires.can
    (g.S.Store.content c.end_words.new.store) (g.S.Store.rows c.end_words.new.store) c.end_words.ensures.emptied c.end_words.ensures.later (are_whole c.args.types.now) (g.S.Store.content c.own.new.store) (g.S.Store.rows c.own.new.store) c.own.ensures.rowed
    (c.end_words.ensures.rowed rowed)
