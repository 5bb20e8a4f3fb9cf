use Rattle.std.proofs.Common.{sym, ◌∙◌}
use Rattle.life_values.proofs.GivenAway.{consume_shows, hand_births, hand_can, not_dead, target_uncut}
use Rattle.life_values.proofs.consuming.consume.Goals as goal

pub unreachable-requires : goal.unreachable-requires
unreachable-requires g c =
    not_dead c.args.types.now c.args.layouts.now c.requires.layouts c.args.temporary c.args.to c.args.slot (g.S.Store.content c.args.store.now) (g.S.Store.rows c.args.store.now) c.requires.can c.in-Err.field-0 (sym c.shape.ensures.shape ∙ c.in-Err.is)

pub hand_over-requires-clause-can : goal.hand_over-requires-clause-can
hand_over-requires-clause-can g c =
    hand_can c.args.types.now c.args.layouts.now c.requires.layouts c.args.temporary c.args.to c.args.slot (g.S.Store.content c.args.store.now) (g.S.Store.rows c.args.store.now) c.requires.can
    c.in-Ok.shape (sym c.shape.ensures.shape ∙ c.in-Ok.is) c.width_of-width.result c.width_of-width.ensures c.is_width.ensures c.leaves_of-leaves.result.now c.leaves_of-leaves.ensures c.owners_of-owners.result.now c.owners_of-owners.ensures

pub hand_over-requires-clause-births : goal.hand_over-requires-clause-births
hand_over-requires-clause-births g c =
    hand_births c.args.types.now c.args.layouts.now c.requires.layouts c.args.temporary c.args.to c.args.slot (g.S.Store.content c.args.store.now) (g.S.Store.rows c.args.store.now) c.requires.can
    c.in-Ok.shape (sym c.shape.ensures.shape ∙ c.in-Ok.is) c.width_of-width.result c.width_of-width.ensures c.is_width.ensures c.leaves_of-leaves.result.now c.leaves_of-leaves.ensures c.owners_of-owners.result.now c.owners_of-owners.ensures c.requires.births

pub returns-clause-consumed : goal.returns-clause-consumed
returns-clause-consumed g c o there =
    consume_shows c.args.types.now c.args.layouts.now c.requires.layouts c.args.temporary c.args.to c.args.slot (g.S.Store.content c.args.store.now) (g.S.Store.rows c.args.store.now) c.requires.can
    c.in-Ok.shape (sym c.shape.ensures.shape ∙ c.in-Ok.is) c.width_of-width.result c.width_of-width.ensures c.is_width.ensures c.leaves_of-leaves.result.now c.leaves_of-leaves.ensures c.owners_of-owners.result.now c.owners_of-owners.ensures
    (g.S.Store.content c.hand_over.new.store) (g.S.Store.rows c.hand_over.new.store) c.hand_over.ensures.over o there

pub returns-clause-rowed : goal.returns-clause-rowed
returns-clause-rowed g c rowed =
    c.hand_over.ensures.rowed c.requires.can.target c.requires.can.target_there
    (target_uncut c.args.types.now c.args.layouts.now c.requires.layouts c.args.temporary c.args.to c.args.slot (g.S.Store.content c.args.store.now) (g.S.Store.rows c.args.store.now) c.requires.can
    c.in-Ok.shape (sym c.shape.ensures.shape ∙ c.in-Ok.is) c.width_of-width.result c.width_of-width.ensures c.is_width.ensures c.leaves_of-leaves.result.now c.leaves_of-leaves.ensures c.owners_of-owners.result.now c.owners_of-owners.ensures)
    rowed
