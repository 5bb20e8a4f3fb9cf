use Rattle.life_forest.specs.Kinds.{kinds_of as forest_kinds}
use Rattle.life_seen.specs.Kinds.{kinds_of}
use Rattle.life_seen.specs.Seen.{seen}
use Rattle.life_values.proofs.TakenLeaves.{as_characters, characters_shown}
use Rattle.life_values.proofs.taking.take_leaf.Goals as goal

pub renew-requires-clause-can : goal.renew-requires-clause-can
renew-requires-clause-can g c =
    as_characters (kinds_of c.args.types.now) (forest_kinds c.args.types.now) c.args.spot.object c.args.spot.slot _ c.args.leaf.holds (g.S.Store.content c.args.store.now) (g.S.Store.rows c.args.store.now) c.requires.can c.in-Characters.is

pub returns-in-Characters-clause-shows : goal.returns-in-Characters-clause-shows
returns-in-Characters-clause-shows g c =
    characters_shown (kinds_of c.args.types.now) c.args.spot.object.birth c.args.spot.slot _ c.args.leaf.holds (seen (kinds_of c.args.types.now) (g.S.Store.content c.args.store.now) (g.S.Store.rows c.args.store.now))
    (g.S.Store.content c.renew.new.store) (g.S.Store.rows c.renew.new.store) c.in-Characters.is c.renew.ensures.shows

pub returns-in-Characters-clause-rowed : goal.returns-in-Characters-clause-rowed
returns-in-Characters-clause-rowed g c rowed = c.renew.ensures.rowed rowed
