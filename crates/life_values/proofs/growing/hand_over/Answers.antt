use Rattle.std.proofs.Common.{subst, sym, ◌∙◌, arith}
use Rattle.std.proofs.lemmas.Option.{same_Some}
use Rattle.life_store.specs.Content.{Object}
use Rattle.life_forest.specs.Kinds.{kinds_of as forest_kinds}
use Rattle.life_seen.specs.Kinds.{kinds_of}
use Rattle.life_values.specs.Moved.{AreUncut}
use Rattle.life_values.proofs.AlikeKinds.{alike_kinds}
use Rattle.life_values.proofs.HandingOver.{from_lives, move_can, over_later, over_shows, to_d}
use Rattle.life_values.proofs.StillRowed.{end_keeps}
use Rattle.life_values.proofs.growing.hand_over.Goals as goal

pub take_slots-requires-clause-can : goal.take_slots-requires-clause-can
take_slots-requires-clause-can g c = c.requires.can.1.take

pub take_slots-requires-clause-small : goal.take_slots-requires-clause-small
take_slots-requires-clause-small g c = let f = c.ranges.count.fits in omega (arith, f)

pub move_slots-requires-clause-from_small : goal.move_slots-requires-clause-from_small
move_slots-requires-clause-from_small g c = let f = c.ranges.count.fits in omega (arith, f)

pub move_slots-requires-clause-can : goal.move_slots-requires-clause-can
move_slots-requires-clause-can g c =
    move_can (kinds_of c.args.types.now) (forest_kinds c.args.types.now) (alike_kinds c.args.types.now) c.requires.can.0 c.args.from c.args.to c.args.width c.args.leaves.now c.args.owners.now c.args.onto c.args.count
    (g.S.Store.content c.args.store.now) (g.S.Store.rows c.args.store.now) c.requires.can.1 c.ranges.width.fits
    (g.S.Store.content c.take_slots.new.store) (g.S.Store.rows c.take_slots.new.store) c.take_slots.ensures.taken c.take_slots.ensures.later

pub unreachable-requires : goal.unreachable-requires
unreachable-requires g c =
    from_lives (kinds_of c.args.types.now) (forest_kinds c.args.types.now) (alike_kinds c.args.types.now) c.requires.can.0 c.args.from c.args.to c.args.width c.args.leaves.now c.args.owners.now c.args.onto c.args.count
    (g.S.Store.content c.args.store.now) (g.S.Store.rows c.args.store.now) c.requires.can.1 c.ranges.width.fits
    (g.S.Store.content c.take_slots.new.store) (g.S.Store.rows c.take_slots.new.store) c.take_slots.ensures.taken c.take_slots.ensures.later
    (g.S.Store.content c.move_slots.new.store) (g.S.Store.rows c.move_slots.new.store) c.move_slots.ensures.moved c.move_slots.ensures.rows c.in-Err.ensures.lives

pub returns-clause-over : goal.returns-clause-over
returns-clause-over g c =
    over_shows (kinds_of c.args.types.now) (forest_kinds c.args.types.now) (alike_kinds c.args.types.now) c.requires.can.0 c.args.from c.args.to c.args.width c.args.leaves.now c.args.owners.now c.args.onto c.args.count
    (g.S.Store.content c.args.store.now) (g.S.Store.rows c.args.store.now) c.requires.can.1 c.ranges.width.fits
    (g.S.Store.content c.take_slots.new.store) (g.S.Store.rows c.take_slots.new.store) c.take_slots.ensures.taken c.take_slots.ensures.later
    (g.S.Store.content c.move_slots.new.store) (g.S.Store.rows c.move_slots.new.store) c.move_slots.ensures.moved c.move_slots.ensures.rows
    (g.S.Store.content c.finish.new.self) (g.S.Store.rows c.finish.new.self) c.in-Ok.ensures.ended c.in-Ok.ensures.row

pub returns-clause-later : goal.returns-clause-later
returns-clause-later g c =
    over_later (kinds_of c.args.types.now) (forest_kinds c.args.types.now) (alike_kinds c.args.types.now) c.requires.can.0 c.args.from c.args.to c.args.width c.args.leaves.now c.args.owners.now c.args.onto c.args.count
    (g.S.Store.content c.args.store.now) (g.S.Store.rows c.args.store.now) c.requires.can.1 c.ranges.width.fits
    (g.S.Store.content c.take_slots.new.store) (g.S.Store.rows c.take_slots.new.store) c.take_slots.ensures.taken c.take_slots.ensures.later
    (g.S.Store.content c.move_slots.new.store) (g.S.Store.rows c.move_slots.new.store) c.move_slots.ensures.moved c.move_slots.ensures.rows
    (g.S.Store.content c.finish.new.self) (g.S.Store.rows c.finish.new.self) c.in-Ok.ensures.ended c.in-Ok.ensures.row c.move_slots.ensures.later

pub returns-clause-rowed : goal.returns-clause-rowed
returns-clause-rowed g c o there uncut rowed =
    let can = c.requires.can.1 in
    end_keeps (kinds_of c.args.types.now) (g.S.Store.content c.move_slots.new.store) (g.S.Store.rows c.move_slots.new.store) c.args.from (g.S.Store.content c.finish.new.self) (g.S.Store.rows c.finish.new.self) c.in-Ok.ensures.ended c.in-Ok.ensures.row
    (c.move_slots.ensures.rowed can.target
    (to_d (kinds_of c.args.types.now) (forest_kinds c.args.types.now) (alike_kinds c.args.types.now) c.requires.can.0 c.args.from c.args.to c.args.width c.args.leaves.now c.args.owners.now c.args.onto c.args.count
    (g.S.Store.content c.args.store.now) (g.S.Store.rows c.args.store.now) can c.ranges.width.fits (g.S.Store.content c.take_slots.new.store) (g.S.Store.rows c.take_slots.new.store) c.take_slots.ensures.taken c.take_slots.ensures.later)
    (subst (λ (x : Object). AreUncut (kinds_of c.args.types.now x.ty) 0 c.args.width) (same_Some o can.target (sym there ∙ can.target_there)) uncut)
    (c.take_slots.ensures.rowed rowed))
