use Rattle.std.proofs.Common.{sym, ◌∙◌, arith}
use Rattle.life_values.proofs.Flat.{layouts_own}
use Rattle.life_moves.proofs.GivingOver.{can_over, leaf_count, moved_later, moved_shows, none_given, not_dead, out_keeps, some_given, take_can, word_taken, word_there}
use Rattle.life_moves.proofs.giving.move_to.Goals as goal

pub unreachable-requires : goal.unreachable-requires
unreachable-requires g c = not_dead c.args.types.now c.requires.ordered c.args.depth c.args.from c.args.to (g.S.Store.content c.args.store.now) (g.S.Store.rows c.args.store.now) c.requires.can c.in-Err.field-0 (sym c.shape.ensures.shape ∙ c.in-Err.is)

pub has_value-requires : goal.has_value-requires
has_value-requires g c = word_there c.args.types.now c.requires.ordered c.args.depth c.args.from c.args.to (g.S.Store.content c.args.store.now) (g.S.Store.rows c.args.store.now) c.requires.can

pub returns-then-not-has_value-clause-moved : goal.returns-then-not-has_value-clause-moved
returns-then-not-has_value-clause-moved g c =
    none_given c.args.types.now c.requires.ordered c.args.depth c.args.from c.args.to (g.S.Store.content c.args.store.now) (g.S.Store.rows c.args.store.now) c.requires.can
    c.args.layouts.now c.requires.layouts c.in-Ok.shape (sym c.shape.ensures.shape ∙ c.in-Ok.is) c.leaves_of-leaves.result.now c.leaves_of-leaves.ensures
    c.has_value.result c.has_value.ensures c.if-not-has_value.true

pub take_value-requires-clause-can : goal.take_value-requires-clause-can
take_value-requires-clause-can g c =
    take_can c.args.types.now c.requires.ordered c.args.depth c.args.from c.args.to (g.S.Store.content c.args.store.now) (g.S.Store.rows c.args.store.now) c.requires.can
    c.args.layouts.now c.requires.layouts c.in-Ok.shape (sym c.shape.ensures.shape ∙ c.in-Ok.is) c.leaves_of-leaves.result.now c.leaves_of-leaves.ensures

pub take_value-requires-clause-births : goal.take_value-requires-clause-births
take_value-requires-clause-births g c =
    let one =
    leaf_count c.args.types.now c.requires.ordered c.args.depth c.args.from c.args.to (g.S.Store.content c.args.store.now) (g.S.Store.rows c.args.store.now) c.requires.can
    c.args.layouts.now c.requires.layouts c.in-Ok.shape (sym c.shape.ensures.shape ∙ c.in-Ok.is) c.leaves_of-leaves.result.now c.leaves_of-leaves.ensures in
    let few = c.requires.births in
    omega (arith, one, few)

pub take_owned-other-requires : goal.take_owned-other-requires
take_owned-other-requires g c =
    word_taken c.args.types.now c.requires.ordered c.args.depth c.args.from c.args.to (g.S.Store.content c.args.store.now) (g.S.Store.rows c.args.store.now) c.requires.can
    c.args.layouts.now c.requires.layouts c.in-Ok.shape (sym c.shape.ensures.shape ∙ c.in-Ok.is) c.leaves_of-leaves.result.now c.leaves_of-leaves.ensures
    (g.S.Store.content c.take_value.new.store) (g.S.Store.rows c.take_value.new.store) c.take_value.ensures.taken c.take_value.ensures.later

pub replace_if-requires-clause-layouts : goal.replace_if-requires-clause-layouts
replace_if-requires-clause-layouts g c = layouts_own c.args.types.now c.args.layouts.now c.requires.layouts

pub replace_if-requires-clause-can : goal.replace_if-requires-clause-can
replace_if-requires-clause-can g c =
    can_over c.args.types.now c.requires.ordered c.args.depth c.args.from c.args.to (g.S.Store.content c.args.store.now) (g.S.Store.rows c.args.store.now) c.requires.can
    c.args.layouts.now c.requires.layouts c.in-Ok.shape (sym c.shape.ensures.shape ∙ c.in-Ok.is) c.leaves_of-leaves.result.now c.leaves_of-leaves.ensures
    (g.S.Store.content c.take_value.new.store) (g.S.Store.rows c.take_value.new.store) c.take_value.ensures.taken c.take_value.ensures.later
    c.take_owned-other.result c.take_owned-other.ensures.held (g.S.Store.content c.take_owned-other.new.store) (g.S.Store.rows c.take_owned-other.new.store) c.take_owned-other.ensures.shows c.take_owned-other.ensures.rows
    c.owners_of-owners.result.now c.owners_of-owners.ensures c.requires.can.small

pub returns-clause-moved : goal.returns-clause-moved
returns-clause-moved g c =
    some_given c.args.types.now c.requires.ordered c.args.depth c.args.from c.args.to (g.S.Store.content c.args.store.now) (g.S.Store.rows c.args.store.now) c.requires.can
    c.args.layouts.now c.requires.layouts c.in-Ok.shape (sym c.shape.ensures.shape ∙ c.in-Ok.is) c.leaves_of-leaves.result.now c.leaves_of-leaves.ensures
    c.has_value.result c.has_value.ensures c.if-not-has_value.false (g.S.Store.content c.replace_if.new.store) (g.S.Store.rows c.replace_if.new.store)
    (moved_shows c.args.types.now c.requires.ordered c.args.depth c.args.from c.args.to (g.S.Store.content c.args.store.now) (g.S.Store.rows c.args.store.now) c.requires.can
    c.args.layouts.now c.requires.layouts c.in-Ok.shape (sym c.shape.ensures.shape ∙ c.in-Ok.is) c.leaves_of-leaves.result.now c.leaves_of-leaves.ensures
    (g.S.Store.content c.take_value.new.store) (g.S.Store.rows c.take_value.new.store) c.take_value.ensures.taken c.take_value.ensures.later
    c.take_owned-other.result c.take_owned-other.ensures.held (g.S.Store.content c.take_owned-other.new.store) (g.S.Store.rows c.take_owned-other.new.store) c.take_owned-other.ensures.shows c.take_owned-other.ensures.rows
    c.owners_of-owners.result.now c.owners_of-owners.ensures c.requires.can.small
    (g.S.Store.content c.replace_if.new.store) (g.S.Store.rows c.replace_if.new.store) c.replace_if.ensures.replaced)

pub returns-clause-later : goal.returns-clause-later
returns-clause-later g c =
    moved_later c.args.types.now c.requires.ordered c.args.depth c.args.from c.args.to (g.S.Store.content c.args.store.now) (g.S.Store.rows c.args.store.now) c.requires.can
    c.args.layouts.now c.requires.layouts c.in-Ok.shape (sym c.shape.ensures.shape ∙ c.in-Ok.is) c.leaves_of-leaves.result.now c.leaves_of-leaves.ensures
    (g.S.Store.content c.take_value.new.store) (g.S.Store.rows c.take_value.new.store) c.take_value.ensures.taken c.take_value.ensures.later
    c.take_owned-other.result c.take_owned-other.ensures.held (g.S.Store.content c.take_owned-other.new.store) (g.S.Store.rows c.take_owned-other.new.store) c.take_owned-other.ensures.shows c.take_owned-other.ensures.rows
    c.owners_of-owners.result.now c.owners_of-owners.ensures c.requires.can.small
    (g.S.Store.content c.replace_if.new.store) (g.S.Store.rows c.replace_if.new.store) c.replace_if.ensures.replaced
    c.replace_if.ensures.later

pub returns-clause-rowed : goal.returns-clause-rowed
returns-clause-rowed g c rowed =
    c.replace_if.ensures.rowed
    (out_keeps c.args.types.now c.requires.ordered c.args.depth c.args.from c.args.to (g.S.Store.content c.args.store.now) (g.S.Store.rows c.args.store.now) c.requires.can
    c.args.layouts.now c.requires.layouts c.in-Ok.shape (sym c.shape.ensures.shape ∙ c.in-Ok.is) c.leaves_of-leaves.result.now c.leaves_of-leaves.ensures
    (g.S.Store.content c.take_value.new.store) (g.S.Store.rows c.take_value.new.store) c.take_value.ensures.taken c.take_value.ensures.later
    (g.S.Store.content c.take_owned-other.new.store) (g.S.Store.rows c.take_owned-other.new.store) c.take_owned-other.ensures.rowed (c.take_value.ensures.rowed rowed))
