use Rattle.life_seen.proofs.References.{later_then}
use Rattle.life_values.proofs.Flat.{layouts_own}
use Rattle.life_moves.proofs.Overwriting.{empty_can, over, over_shows, target_d, target_long, uncut, words_can}
use Rattle.life_moves.proofs.carrying.overwrite.Goals as goal

pub end_words-requires-clause-layouts : goal.end_words-requires-clause-layouts
end_words-requires-clause-layouts g c = layouts_own c.args.types.now c.args.layouts.now c.requires.layouts

pub end_words-requires-clause-can : goal.end_words-requires-clause-can
end_words-requires-clause-can g c =
    empty_can c.args.types.now c.requires.ordered c.args.layouts.now c.requires.layouts (g.S.Store.limit c.args.store.now) c.args.depth c.args.ty c.args.from c.args.to (g.S.Store.content c.args.store.now) (g.S.Store.rows c.args.store.now) c.requires.can
    c.owners_of-owners.result.now c.owners_of-owners.ensures c.width_of-width.result c.width_of-width.ensures

pub copy_words-requires : goal.copy_words-requires
copy_words-requires g c = record {
  can =
      words_can c.args.types.now c.requires.ordered c.args.layouts.now c.requires.layouts (g.S.Store.limit c.args.store.now) c.args.depth c.args.ty c.args.from c.args.to (g.S.Store.content c.args.store.now) (g.S.Store.rows c.args.store.now) c.requires.can
      c.owners_of-owners.result.now c.owners_of-owners.ensures c.width_of-width.result c.width_of-width.ensures
      (g.S.Store.content c.end_words.new.store) (g.S.Store.rows c.end_words.new.store) c.end_words.ensures.emptied c.end_words.ensures.later;
}

pub returns-clause-shows : goal.returns-clause-shows
returns-clause-shows g c =
    over_shows c.args.types.now c.requires.ordered c.args.layouts.now c.requires.layouts (g.S.Store.limit c.args.store.now) c.args.depth c.args.ty c.args.from c.args.to (g.S.Store.content c.args.store.now) (g.S.Store.rows c.args.store.now) c.requires.can
    c.owners_of-owners.result.now c.owners_of-owners.ensures c.width_of-width.result c.width_of-width.ensures
    (g.S.Store.content c.end_words.new.store) (g.S.Store.rows c.end_words.new.store) c.end_words.ensures.emptied c.end_words.ensures.later
    (g.S.Store.content c.copy_words.new.store) (g.S.Store.rows c.copy_words.new.store) c.copy_words.ensures.shows

pub returns-clause-over : goal.returns-clause-over
returns-clause-over g c =
    over c.args.types.now c.requires.ordered c.args.layouts.now c.requires.layouts (g.S.Store.limit c.args.store.now) c.args.depth c.args.ty c.args.from c.args.to (g.S.Store.content c.args.store.now) (g.S.Store.rows c.args.store.now) c.requires.can
    c.owners_of-owners.result.now c.owners_of-owners.ensures c.width_of-width.result c.width_of-width.ensures
    (g.S.Store.content c.end_words.new.store) (g.S.Store.rows c.end_words.new.store) c.end_words.ensures.emptied c.end_words.ensures.later
    (g.S.Store.content c.copy_words.new.store) (g.S.Store.rows c.copy_words.new.store) c.copy_words.ensures.shows

pub returns-clause-later : goal.returns-clause-later
returns-clause-later g c =
    later_then (g.S.Store.content c.args.store.now) (g.S.Store.content c.end_words.new.store) (g.S.Store.content c.copy_words.new.store) (g.S.Store.rows c.args.store.now) (g.S.Store.rows c.end_words.new.store) (g.S.Store.rows c.copy_words.new.store)
    c.end_words.ensures.later c.copy_words.ensures.later

pub returns-clause-rowed : goal.returns-clause-rowed
returns-clause-rowed g c rowed =
    c.copy_words.ensures.rowed _
    (target_d c.args.types.now c.requires.ordered c.args.layouts.now c.requires.layouts (g.S.Store.limit c.args.store.now) c.args.depth c.args.ty c.args.from c.args.to (g.S.Store.content c.args.store.now) (g.S.Store.rows c.args.store.now) c.requires.can
    c.owners_of-owners.result.now c.owners_of-owners.ensures c.width_of-width.result c.width_of-width.ensures
    (g.S.Store.content c.end_words.new.store) (g.S.Store.rows c.end_words.new.store) c.end_words.ensures.emptied c.end_words.ensures.later)
    (target_long c.args.types.now c.requires.ordered c.args.layouts.now c.requires.layouts (g.S.Store.limit c.args.store.now) c.args.depth c.args.ty c.args.from c.args.to (g.S.Store.content c.args.store.now) (g.S.Store.rows c.args.store.now) c.requires.can
    c.owners_of-owners.result.now c.owners_of-owners.ensures c.width_of-width.result c.width_of-width.ensures
    (g.S.Store.content c.end_words.new.store) (g.S.Store.rows c.end_words.new.store) c.end_words.ensures.emptied c.end_words.ensures.later)
    (uncut c.args.types.now c.requires.ordered c.args.layouts.now c.requires.layouts (g.S.Store.limit c.args.store.now) c.args.depth c.args.ty c.args.from c.args.to (g.S.Store.content c.args.store.now) (g.S.Store.rows c.args.store.now) c.requires.can
    c.owners_of-owners.result.now c.owners_of-owners.ensures c.width_of-width.result c.width_of-width.ensures
    (g.S.Store.content c.end_words.new.store) (g.S.Store.rows c.end_words.new.store) c.end_words.ensures.emptied c.end_words.ensures.later c.requires.wide)
    (c.end_words.ensures.rowed rowed)
