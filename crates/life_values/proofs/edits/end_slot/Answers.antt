use Rattle.std.proofs.Common.{arith}
use Rattle.life_forest.specs.Kinds.{kinds_of as forest_kinds}
use Rattle.life_seen.specs.Kinds.{kinds_of}
use Rattle.life_values.proofs.Popping.{slot_can}
use Rattle.life_values.proofs.edits.end_slot.Goals as goal

pub end_words-requires-clause-can : goal.end_words-requires-clause-can
end_words-requires-clause-can g c =
    let fits = c.ranges.width.fits in
    slot_can (kinds_of c.args.types.now) (forest_kinds c.args.types.now) c.args.depth c.args.object c.args.slot c.args.width c.args.owners.now (g.S.Store.content c.args.store.now) (g.S.Store.rows c.args.store.now) c.requires.can
    (omega (arith, fits))

pub returns-clause-small : goal.returns-clause-small
returns-clause-small g c = let fits = c.ranges.width.fits in omega (arith, fits)

pub returns-clause-rowed : goal.returns-clause-rowed
returns-clause-rowed g c rowed = c.end_words.ensures.rowed rowed
