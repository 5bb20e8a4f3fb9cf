use Rattle.life_seen.specs.Kinds.{kinds_of}
use Rattle.life_seen.proofs.References.{later_then}
use Rattle.life_values.proofs.SlotsGoing.{both_show, disown_can}
use Rattle.life_values.proofs.moving.move_words.Goals as goal

pub disown-requires : goal.disown-requires
disown-requires g c = record {
  can =
      disown_can (kinds_of c.args.types.now) c.args.from c.args.to c.args.width c.args.owners.now (g.S.Store.content c.args.store.now) (g.S.Store.rows c.args.store.now) c.requires.can
      (g.S.Store.content c.copy_words.new.store) (g.S.Store.rows c.copy_words.new.store) c.copy_words.ensures.shows c.copy_words.ensures.rows;
}

pub returns-clause-moved : goal.returns-clause-moved
returns-clause-moved g c =
    both_show (kinds_of c.args.types.now) c.args.from c.args.to c.args.width c.args.owners.now (g.S.Store.content c.args.store.now) (g.S.Store.rows c.args.store.now) c.requires.can
    (g.S.Store.content c.copy_words.new.store) (g.S.Store.rows c.copy_words.new.store) c.copy_words.ensures.shows c.copy_words.ensures.rows
    (g.S.Store.content c.disown.new.store) (g.S.Store.rows c.disown.new.store) c.disown.ensures.disowned

pub returns-clause-later : goal.returns-clause-later
returns-clause-later g c =
    later_then (g.S.Store.content c.args.store.now) (g.S.Store.content c.copy_words.new.store) (g.S.Store.content c.disown.new.store) (g.S.Store.rows c.args.store.now) (g.S.Store.rows c.copy_words.new.store) (g.S.Store.rows c.disown.new.store)
    c.copy_words.ensures.later c.disown.ensures.later

pub returns-clause-rowed : goal.returns-clause-rowed
returns-clause-rowed g c o there wide uncut rowed = c.disown.ensures.rowed (c.copy_words.ensures.rowed o there wide uncut rowed)
