use Rattle.std.proofs.Common.{refl}
use Rattle.life_forest.specs.Kinds.{kinds_of as forest_kinds}
use Rattle.life_seen.specs.Kinds.{kinds_of}
use Rattle.life_values.proofs.AlikeKinds.{alike_kinds}
use Rattle.life_values.proofs.Renewing.{can_count, none_later, none_shows, own_keeps, owned_lives, some_later, some_shows, word_there, word_there_still}
use Rattle.life_values.proofs.StillRowed.{are_whole, owner_keeps}
use Rattle.life_values.proofs.taking.renew.Goals as goal

pub take_owned-requires : goal.take_owned-requires
take_owned-requires g c =
    word_there (kinds_of c.args.types.now) (forest_kinds c.args.types.now) (alike_kinds c.args.types.now) c.args.object c.args.slot c.args.word (g.S.Store.content c.args.store.now) (g.S.Store.rows c.args.store.now) c.requires.can

pub renumbered-renamed-requires-clause-lives : goal.renumbered-renamed-requires-clause-lives
renumbered-renamed-requires-clause-lives g c =
    owned_lives (kinds_of c.args.types.now) (forest_kinds c.args.types.now) (alike_kinds c.args.types.now) c.args.object c.args.slot c.args.word (g.S.Store.content c.args.store.now) (g.S.Store.rows c.args.store.now) c.requires.can
    _ c.in-Some.ensures.held (g.S.Store.content c.take_owned.new.store) (g.S.Store.rows c.take_owned.new.store) c.in-Some.ensures.shows c.in-Some.ensures.rows c.in-Some.owned refl

pub renumbered-renamed-requires-clause-countable : goal.renumbered-renamed-requires-clause-countable
renumbered-renamed-requires-clause-countable g c =
    can_count (kinds_of c.args.types.now) (forest_kinds c.args.types.now) (alike_kinds c.args.types.now) c.args.object c.args.slot c.args.word (g.S.Store.content c.args.store.now) (g.S.Store.rows c.args.store.now) c.requires.can
    _ c.in-Some.ensures.held (g.S.Store.content c.take_owned.new.store) (g.S.Store.rows c.take_owned.new.store) c.in-Some.ensures.shows c.in-Some.ensures.rows c.in-Some.owned refl c.requires.countable

pub own-requires-clause-has : goal.own-requires-clause-has
own-requires-clause-has g c =
    word_there_still (kinds_of c.args.types.now) (forest_kinds c.args.types.now) (alike_kinds c.args.types.now) c.args.object c.args.slot c.args.word (g.S.Store.content c.args.store.now) (g.S.Store.rows c.args.store.now) c.requires.can
    _ c.in-Some.ensures.held (g.S.Store.content c.take_owned.new.store) (g.S.Store.rows c.take_owned.new.store) c.in-Some.ensures.shows c.in-Some.ensures.rows c.in-Some.owned refl
    (g.S.Store.content c.renumbered-renamed.new.store) (g.S.Store.rows c.renumbered-renamed.new.store) c.renumbered-renamed.result c.renumbered-renamed.ensures.number c.renumbered-renamed.ensures.placed c.renumbered-renamed.ensures.later
    c.renumbered-renamed.ensures.shows

pub returns-in-Some-clause-shows : goal.returns-in-Some-clause-shows
returns-in-Some-clause-shows g c =
    some_shows (kinds_of c.args.types.now) (forest_kinds c.args.types.now) (alike_kinds c.args.types.now) c.args.object c.args.slot c.args.word (g.S.Store.content c.args.store.now) (g.S.Store.rows c.args.store.now) c.requires.can
    _ c.in-Some.ensures.held (g.S.Store.content c.take_owned.new.store) (g.S.Store.rows c.take_owned.new.store) c.in-Some.ensures.shows c.in-Some.ensures.rows c.in-Some.owned refl
    (g.S.Store.content c.renumbered-renamed.new.store) (g.S.Store.rows c.renumbered-renamed.new.store) c.renumbered-renamed.result c.renumbered-renamed.ensures.number c.renumbered-renamed.ensures.placed c.renumbered-renamed.ensures.later
    c.renumbered-renamed.ensures.shows (g.S.Store.content c.own.new.store) (g.S.Store.rows c.own.new.store) c.own.ensures.shows c.own.ensures.rows

pub returns-in-Some-clause-later : goal.returns-in-Some-clause-later
returns-in-Some-clause-later g c =
    some_later (kinds_of c.args.types.now) (forest_kinds c.args.types.now) (alike_kinds c.args.types.now) c.args.object c.args.slot c.args.word (g.S.Store.content c.args.store.now) (g.S.Store.rows c.args.store.now) c.requires.can
    _ c.in-Some.ensures.held (g.S.Store.content c.take_owned.new.store) (g.S.Store.rows c.take_owned.new.store) c.in-Some.ensures.shows c.in-Some.ensures.rows c.in-Some.owned refl
    (g.S.Store.content c.renumbered-renamed.new.store) (g.S.Store.rows c.renumbered-renamed.new.store) c.renumbered-renamed.result c.renumbered-renamed.ensures.number c.renumbered-renamed.ensures.placed c.renumbered-renamed.ensures.later
    c.renumbered-renamed.ensures.shows (g.S.Store.content c.own.new.store) (g.S.Store.rows c.own.new.store) c.own.ensures.shows c.own.ensures.rows

pub returns-in_default-clause-shows : goal.returns-in_default-clause-shows
returns-in_default-clause-shows g c =
    none_shows (kinds_of c.args.types.now) (forest_kinds c.args.types.now) (alike_kinds c.args.types.now) c.args.object c.args.slot c.args.word (g.S.Store.content c.args.store.now) (g.S.Store.rows c.args.store.now) c.requires.can
    _ c.in_default.ensures.held (g.S.Store.content c.take_owned.new.store) (g.S.Store.rows c.take_owned.new.store) c.in_default.ensures.shows c.in_default.ensures.rows refl

pub returns-in_default-clause-later : goal.returns-in_default-clause-later
returns-in_default-clause-later g c =
    none_later (kinds_of c.args.types.now) (forest_kinds c.args.types.now) (alike_kinds c.args.types.now) c.args.object c.args.slot c.args.word (g.S.Store.content c.args.store.now) (g.S.Store.rows c.args.store.now) c.requires.can
    _ c.in_default.ensures.held (g.S.Store.content c.take_owned.new.store) (g.S.Store.rows c.take_owned.new.store) c.in_default.ensures.shows c.in_default.ensures.rows refl

pub returns-in-Some-clause-rowed : goal.returns-in-Some-clause-rowed
returns-in-Some-clause-rowed g c rowed =
    own_keeps (kinds_of c.args.types.now) (forest_kinds c.args.types.now) (alike_kinds c.args.types.now) c.args.object c.args.slot c.args.word (g.S.Store.content c.args.store.now) (g.S.Store.rows c.args.store.now) c.requires.can
    _ c.in-Some.ensures.held (g.S.Store.content c.take_owned.new.store) (g.S.Store.rows c.take_owned.new.store) c.in-Some.ensures.shows c.in-Some.ensures.rows c.in-Some.owned refl
    (g.S.Store.content c.renumbered-renamed.new.store) (g.S.Store.rows c.renumbered-renamed.new.store) c.renumbered-renamed.result c.renumbered-renamed.ensures.number c.renumbered-renamed.ensures.placed c.renumbered-renamed.ensures.later
    c.renumbered-renamed.ensures.shows (are_whole c.args.types.now) (g.S.Store.content c.own.new.store) (g.S.Store.rows c.own.new.store) c.own.ensures.rowed
    (c.renumbered-renamed.ensures.rowed (kinds_of c.args.types.now)
    (owner_keeps c.args.types.now (g.S.Store.content c.args.store.now) (g.S.Store.rows c.args.store.now) c.args.object c.requires.can.object c.requires.can.housed c.requires.can.placed c.requires.can.there c.args.word c.requires.can.own
    (g.S.Store.content c.take_owned.new.store) (g.S.Store.rows c.take_owned.new.store) c.in-Some.ensures.rowed rowed))

pub returns-in_default-clause-rowed : goal.returns-in_default-clause-rowed
returns-in_default-clause-rowed g c rowed =
    owner_keeps c.args.types.now (g.S.Store.content c.args.store.now) (g.S.Store.rows c.args.store.now) c.args.object c.requires.can.object c.requires.can.housed c.requires.can.placed c.requires.can.there c.args.word c.requires.can.own
    (g.S.Store.content c.take_owned.new.store) (g.S.Store.rows c.take_owned.new.store) c.in_default.ensures.rowed rowed
