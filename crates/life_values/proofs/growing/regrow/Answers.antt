use Rattle.std.proofs.Common.{arith, sym, ◌∙◌}
use Rattle.life_seen.specs.Kinds.{kinds_of}
use Rattle.life_values.proofs.GoingOver.{at_least, birth_fails, fresh_uncut, hand_births, hand_can, hand_clock, not_dead, own_keeps, regrown_comes, regrown_later, word_there}
use Rattle.life_values.proofs.growing.regrow.Goals as goal

pub unreachable-requires : goal.unreachable-requires
unreachable-requires g c =
    not_dead c.args.types.now c.args.layouts.now c.requires.layouts c.args.spot c.args.buffer c.args.capacity c.args.size (g.S.Store.content c.args.store.now) (g.S.Store.rows c.args.store.now) c.requires.can c.in-Err.field-0 (sym c.shape.ensures.shape ∙ c.in-Err.is)

pub born_roomy-requires-clause-wide : goal.born_roomy-requires-clause-wide
born_roomy-requires-clause-wide g c =
    at_least c.args.types.now c.args.layouts.now c.requires.layouts c.args.spot c.args.buffer c.args.capacity c.args.size (g.S.Store.content c.args.store.now) (g.S.Store.rows c.args.store.now) c.requires.can
    c.in-Ok.shape (sym c.shape.ensures.shape ∙ c.in-Ok.is) c.width_of-width.result c.width_of-width.ensures c.shape.ensures.wide

pub born_roomy-requires-clause-fits : goal.born_roomy-requires-clause-fits
born_roomy-requires-clause-fits g c = c.requires.can.fits

pub born_roomy-requires-clause-births : goal.born_roomy-requires-clause-births
born_roomy-requires-clause-births g c = let b = c.requires.births c.requires.can.own.buffer c.requires.can.own.there in omega (arith, b)

pub returns-in-Err-born_roomy-clause-regrown : goal.returns-in-Err-born_roomy-clause-regrown
returns-in-Err-born_roomy-clause-regrown g c s o cells there =
    birth_fails c.args.types.now c.args.layouts.now c.requires.layouts c.args.spot c.args.buffer c.args.capacity c.args.size (g.S.Store.content c.args.store.now) (g.S.Store.rows c.args.store.now) c.requires.can
    c.in-Ok.shape (sym c.shape.ensures.shape ∙ c.in-Ok.is) c.width_of-width.result c.width_of-width.ensures (g.S.Store.limit c.args.store.now) c.in-Err-born_roomy.fault c.in-Err-born_roomy.ensures.cells
    (g.S.Store.content c.born_roomy.new.store) (g.S.Store.rows c.born_roomy.new.store) s o cells there

pub own-requires-clause-has : goal.own-requires-clause-has
own-requires-clause-has g c =
    word_there c.args.types.now c.args.layouts.now c.requires.layouts c.args.spot c.args.buffer c.args.capacity c.args.size (g.S.Store.content c.args.store.now) (g.S.Store.rows c.args.store.now) c.requires.can
    c.in-Ok.shape (sym c.shape.ensures.shape ∙ c.in-Ok.is) c.width_of-width.result c.width_of-width.ensures
    c.in-Ok-born_roomy.fresh c.in-Ok-born_roomy.ensures.number (g.S.Store.content c.born_roomy.new.store) (g.S.Store.rows c.born_roomy.new.store) (c.in-Ok-born_roomy.ensures.shows (kinds_of c.args.types.now) c.requires.can.own.housed) c.in-Ok-born_roomy.ensures.placed c.in-Ok-born_roomy.ensures.later

pub hand_over-requires-clause-can : goal.hand_over-requires-clause-can
hand_over-requires-clause-can g c =
    hand_can c.args.types.now c.args.layouts.now c.requires.layouts c.args.spot c.args.buffer c.args.capacity c.args.size (g.S.Store.content c.args.store.now) (g.S.Store.rows c.args.store.now) c.requires.can
    c.in-Ok.shape (sym c.shape.ensures.shape ∙ c.in-Ok.is) c.width_of-width.result c.width_of-width.ensures
    c.in-Ok-born_roomy.fresh c.in-Ok-born_roomy.ensures.number (g.S.Store.content c.born_roomy.new.store) (g.S.Store.rows c.born_roomy.new.store) (c.in-Ok-born_roomy.ensures.shows (kinds_of c.args.types.now) c.requires.can.own.housed) c.in-Ok-born_roomy.ensures.placed c.in-Ok-born_roomy.ensures.later
    (g.S.Store.content c.own.new.store) (g.S.Store.rows c.own.new.store) c.own.ensures.shows c.own.ensures.rows
    c.leaves_of-leaves.result.now c.leaves_of-leaves.ensures c.owners_of-owners.result.now c.owners_of-owners.ensures c.is_width.ensures

pub hand_over-requires-clause-small : goal.hand_over-requires-clause-small
hand_over-requires-clause-small g c = let n = c.is_count.ensures in omega (arith, n)

pub hand_over-requires-clause-births : goal.hand_over-requires-clause-births
hand_over-requires-clause-births g c =
    hand_births c.args.types.now c.args.layouts.now c.requires.layouts c.args.spot c.args.buffer c.args.capacity c.args.size (g.S.Store.content c.args.store.now) (g.S.Store.rows c.args.store.now) c.requires.can
    c.in-Ok.shape (sym c.shape.ensures.shape ∙ c.in-Ok.is) c.width_of-width.result c.width_of-width.ensures
    c.in-Ok-born_roomy.fresh c.in-Ok-born_roomy.ensures.number (g.S.Store.content c.born_roomy.new.store) (g.S.Store.rows c.born_roomy.new.store) (c.in-Ok-born_roomy.ensures.shows (kinds_of c.args.types.now) c.requires.can.own.housed) c.in-Ok-born_roomy.ensures.placed c.in-Ok-born_roomy.ensures.later
    (g.S.Store.content c.own.new.store) (g.S.Store.rows c.own.new.store) c.own.ensures.shows c.own.ensures.rows
    c.leaves_of-leaves.result.now c.leaves_of-leaves.ensures c.owners_of-owners.result.now c.owners_of-owners.ensures c.is_width.ensures
    (c.requires.births c.requires.can.own.buffer c.requires.can.own.there)

pub hand_over-requires-clause-clock : goal.hand_over-requires-clause-clock
hand_over-requires-clause-clock g c =
    hand_clock c.args.types.now c.args.layouts.now c.requires.layouts c.args.spot c.args.buffer c.args.capacity c.args.size (g.S.Store.content c.args.store.now) (g.S.Store.rows c.args.store.now) c.requires.can
    c.in-Ok.shape (sym c.shape.ensures.shape ∙ c.in-Ok.is) c.width_of-width.result c.width_of-width.ensures
    c.in-Ok-born_roomy.fresh c.in-Ok-born_roomy.ensures.number (g.S.Store.content c.born_roomy.new.store) (g.S.Store.rows c.born_roomy.new.store) (c.in-Ok-born_roomy.ensures.shows (kinds_of c.args.types.now) c.requires.can.own.housed) c.in-Ok-born_roomy.ensures.placed c.in-Ok-born_roomy.ensures.later
    (g.S.Store.content c.own.new.store) (g.S.Store.rows c.own.new.store) c.own.ensures.shows c.own.ensures.rows
    c.leaves_of-leaves.result.now c.leaves_of-leaves.ensures c.owners_of-owners.result.now c.owners_of-owners.ensures c.is_width.ensures c.requires.clock

pub returns-in-Ok-born_roomy-clause-regrown : goal.returns-in-Ok-born_roomy-clause-regrown
returns-in-Ok-born_roomy-clause-regrown g c s o cells there =
    regrown_comes c.args.types.now c.args.layouts.now c.requires.layouts c.args.spot c.args.buffer c.args.capacity c.args.size (g.S.Store.content c.args.store.now) (g.S.Store.rows c.args.store.now) c.requires.can
    c.in-Ok.shape (sym c.shape.ensures.shape ∙ c.in-Ok.is) c.width_of-width.result c.width_of-width.ensures
    c.in-Ok-born_roomy.fresh c.in-Ok-born_roomy.ensures.number (g.S.Store.content c.born_roomy.new.store) (g.S.Store.rows c.born_roomy.new.store) (c.in-Ok-born_roomy.ensures.shows (kinds_of c.args.types.now) c.requires.can.own.housed) c.in-Ok-born_roomy.ensures.placed c.in-Ok-born_roomy.ensures.later
    (g.S.Store.content c.own.new.store) (g.S.Store.rows c.own.new.store) c.own.ensures.shows c.own.ensures.rows
    c.leaves_of-leaves.result.now c.leaves_of-leaves.ensures c.owners_of-owners.result.now c.owners_of-owners.ensures c.is_width.ensures
    (g.S.Store.content c.hand_over.new.store) (g.S.Store.rows c.hand_over.new.store) c.hand_over.ensures.over c.hand_over.ensures.later (g.S.Store.limit c.args.store.now) c.in-Ok-born_roomy.ensures.room s o cells there

pub returns-in-Ok-born_roomy-clause-later : goal.returns-in-Ok-born_roomy-clause-later
returns-in-Ok-born_roomy-clause-later g c =
    regrown_later c.args.types.now c.args.layouts.now c.requires.layouts c.args.spot c.args.buffer c.args.capacity c.args.size (g.S.Store.content c.args.store.now) (g.S.Store.rows c.args.store.now) c.requires.can
    c.in-Ok.shape (sym c.shape.ensures.shape ∙ c.in-Ok.is) c.width_of-width.result c.width_of-width.ensures
    c.in-Ok-born_roomy.fresh c.in-Ok-born_roomy.ensures.number (g.S.Store.content c.born_roomy.new.store) (g.S.Store.rows c.born_roomy.new.store) (c.in-Ok-born_roomy.ensures.shows (kinds_of c.args.types.now) c.requires.can.own.housed) c.in-Ok-born_roomy.ensures.placed c.in-Ok-born_roomy.ensures.later
    (g.S.Store.content c.own.new.store) (g.S.Store.rows c.own.new.store) c.own.ensures.shows c.own.ensures.rows
    c.leaves_of-leaves.result.now c.leaves_of-leaves.ensures c.owners_of-owners.result.now c.owners_of-owners.ensures c.is_width.ensures
    (g.S.Store.content c.hand_over.new.store) (g.S.Store.rows c.hand_over.new.store) c.hand_over.ensures.over c.hand_over.ensures.later

pub returns-in-Ok-born_roomy-clause-rowed : goal.returns-in-Ok-born_roomy-clause-rowed
returns-in-Ok-born_roomy-clause-rowed g c rowed =
    let fresh =
    fresh_uncut c.args.types.now c.args.layouts.now c.requires.layouts c.args.spot c.args.buffer c.args.capacity c.args.size (g.S.Store.content c.args.store.now) (g.S.Store.rows c.args.store.now) c.requires.can
    c.in-Ok.shape (sym c.shape.ensures.shape ∙ c.in-Ok.is) c.width_of-width.result c.width_of-width.ensures
    c.in-Ok-born_roomy.fresh c.in-Ok-born_roomy.ensures.number (g.S.Store.content c.born_roomy.new.store) (g.S.Store.rows c.born_roomy.new.store) (c.in-Ok-born_roomy.ensures.shows (kinds_of c.args.types.now) c.requires.can.own.housed) c.in-Ok-born_roomy.ensures.placed c.in-Ok-born_roomy.ensures.later
    (g.S.Store.content c.own.new.store) (g.S.Store.rows c.own.new.store) c.own.ensures.shows c.own.ensures.rows in
    c.hand_over.ensures.rowed fresh.0 fresh.1 fresh.2
    (own_keeps c.args.types.now c.args.layouts.now c.requires.layouts c.args.spot c.args.buffer c.args.capacity c.args.size (g.S.Store.content c.args.store.now) (g.S.Store.rows c.args.store.now) c.requires.can
    c.in-Ok.shape (sym c.shape.ensures.shape ∙ c.in-Ok.is) c.width_of-width.result c.width_of-width.ensures
    c.in-Ok-born_roomy.fresh c.in-Ok-born_roomy.ensures.number (g.S.Store.content c.born_roomy.new.store) (g.S.Store.rows c.born_roomy.new.store) (c.in-Ok-born_roomy.ensures.shows (kinds_of c.args.types.now) c.requires.can.own.housed) c.in-Ok-born_roomy.ensures.placed c.in-Ok-born_roomy.ensures.later
    (g.S.Store.content c.own.new.store) (g.S.Store.rows c.own.new.store) c.own.ensures.rowed (c.in-Ok-born_roomy.ensures.rowed (kinds_of c.args.types.now) rowed))
