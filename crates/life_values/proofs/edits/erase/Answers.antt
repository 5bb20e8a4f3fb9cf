use Rattle.std.proofs.Common.{◌+◌, ◌-◌, arith, refl, sym, ◌∙◌}
use Rattle.life_store.specs.References.{object_of}
use Rattle.life_seen.specs.Kinds.{kinds_of}
use Rattle.life_values.proofs.ErasingSlots.{can_count, can_cut, erase_later, erase_shows, give_can, inside, move_can, not_dead, still_there, still_uncut, take_births, take_can, take_clock}
use Rattle.life_values.proofs.Flat.{layouts_own}
use Rattle.life_values.proofs.StillRowed.{slots_keep}
use Rattle.life_values.proofs.edits.erase.Goals as goal

pub unreachable-requires : goal.unreachable-requires
unreachable-requires g c =
    not_dead c.args.types.now c.args.layouts.now c.args.depth c.args.buffer c.args.index (g.S.Store.content c.args.store.now) (g.S.Store.rows c.args.store.now) c.requires.can c.in-Err.field-0 (sym c.shape.ensures.shape ∙ c.in-Err.is)

pub end_slot-requires-clause-layouts : goal.end_slot-requires-clause-layouts
end_slot-requires-clause-layouts g c = layouts_own c.args.types.now c.args.layouts.now c.requires.layouts

pub end_slot-requires-clause-can : goal.end_slot-requires-clause-can
end_slot-requires-clause-can g c =
    give_can c.args.types.now c.args.layouts.now c.args.depth c.args.buffer c.args.index (g.S.Store.content c.args.store.now) (g.S.Store.rows c.args.store.now) c.requires.can c.in-Ok.shape (sym c.shape.ensures.shape ∙ c.in-Ok.is) c.requires.layouts
    c.owners_of-owners.result.now c.owners_of-owners.ensures c.width_of-width.result c.width_of-width.ensures

pub overflow_add-next : goal.overflow_add-next
overflow_add-next g c =
    let i = inside c.args.types.now c.args.layouts.now c.args.depth c.args.buffer c.args.index (g.S.Store.content c.args.store.now) (g.S.Store.rows c.args.store.now) c.requires.can c.in-Ok.shape (sym c.shape.ensures.shape ∙ c.in-Ok.is) c.requires.layouts
    c.owners_of-owners.result.now c.owners_of-owners.ensures c.width_of-width.result c.width_of-width.ensures in
    let n = c.is_count.ensures in
    omega (arith, i, n)

pub overflow_sub-count : goal.overflow_sub-count
overflow_sub-count g c =
    let i = inside c.args.types.now c.args.layouts.now c.args.depth c.args.buffer c.args.index (g.S.Store.content c.args.store.now) (g.S.Store.rows c.args.store.now) c.requires.can c.in-Ok.shape (sym c.shape.ensures.shape ∙ c.in-Ok.is) c.requires.layouts
    c.owners_of-owners.result.now c.owners_of-owners.ensures c.width_of-width.result c.width_of-width.ensures in
    let n = c.is_count.ensures in
    omega (arith, i, n)

pub overflow_add-size : goal.overflow_add-size
overflow_add-size g c =
    let i = inside c.args.types.now c.args.layouts.now c.args.depth c.args.buffer c.args.index (g.S.Store.content c.args.store.now) (g.S.Store.rows c.args.store.now) c.requires.can c.in-Ok.shape (sym c.shape.ensures.shape ∙ c.in-Ok.is) c.requires.layouts
    c.owners_of-owners.result.now c.owners_of-owners.ensures c.width_of-width.result c.width_of-width.ensures in
    let n = c.is_count.ensures in
    omega (arith, i, n)

pub take_slots-requires-clause-can : goal.take_slots-requires-clause-can
take_slots-requires-clause-can g c =
    let i = inside c.args.types.now c.args.layouts.now c.args.depth c.args.buffer c.args.index (g.S.Store.content c.args.store.now) (g.S.Store.rows c.args.store.now) c.requires.can c.in-Ok.shape (sym c.shape.ensures.shape ∙ c.in-Ok.is) c.requires.layouts
    c.owners_of-owners.result.now c.owners_of-owners.ensures c.width_of-width.result c.width_of-width.ensures in
    take_can c.args.types.now c.args.layouts.now c.args.depth c.args.buffer c.args.index (g.S.Store.content c.args.store.now) (g.S.Store.rows c.args.store.now) c.requires.can c.in-Ok.shape (sym c.shape.ensures.shape ∙ c.in-Ok.is) c.requires.layouts
    c.owners_of-owners.result.now c.owners_of-owners.ensures c.width_of-width.result c.width_of-width.ensures
    c.end_slot.ensures.small (g.S.Store.content c.end_slot.new.store) (g.S.Store.rows c.end_slot.new.store) c.end_slot.ensures.emptied c.end_slot.ensures.later
    c.leaves_of-leaves.result.now c.leaves_of-leaves.ensures (c.in-Ok.shape.length - (c.args.index + 1)) (omega (arith, i))

pub take_slots-requires-clause-small : goal.take_slots-requires-clause-small
take_slots-requires-clause-small g c =
    let i = inside c.args.types.now c.args.layouts.now c.args.depth c.args.buffer c.args.index (g.S.Store.content c.args.store.now) (g.S.Store.rows c.args.store.now) c.requires.can c.in-Ok.shape (sym c.shape.ensures.shape ∙ c.in-Ok.is) c.requires.layouts
    c.owners_of-owners.result.now c.owners_of-owners.ensures c.width_of-width.result c.width_of-width.ensures in
    let n = c.is_count.ensures in
    omega (arith, i, n)

pub take_slots-requires-clause-births : goal.take_slots-requires-clause-births
take_slots-requires-clause-births g c =
    let i = inside c.args.types.now c.args.layouts.now c.args.depth c.args.buffer c.args.index (g.S.Store.content c.args.store.now) (g.S.Store.rows c.args.store.now) c.requires.can c.in-Ok.shape (sym c.shape.ensures.shape ∙ c.in-Ok.is) c.requires.layouts
    c.owners_of-owners.result.now c.owners_of-owners.ensures c.width_of-width.result c.width_of-width.ensures in
    take_births c.args.types.now c.args.layouts.now c.args.depth c.args.buffer c.args.index (g.S.Store.content c.args.store.now) (g.S.Store.rows c.args.store.now) c.requires.can c.in-Ok.shape (sym c.shape.ensures.shape ∙ c.in-Ok.is) c.requires.layouts
    c.owners_of-owners.result.now c.owners_of-owners.ensures c.width_of-width.result c.width_of-width.ensures
    c.end_slot.ensures.small (g.S.Store.content c.end_slot.new.store) (g.S.Store.rows c.end_slot.new.store) c.end_slot.ensures.emptied c.end_slot.ensures.later
    c.leaves_of-leaves.result.now c.leaves_of-leaves.ensures (c.in-Ok.shape.length - (c.args.index + 1)) (omega (arith, i)) c.requires.births

pub take_slots-requires-clause-clock : goal.take_slots-requires-clause-clock
take_slots-requires-clause-clock g c =
    let i = inside c.args.types.now c.args.layouts.now c.args.depth c.args.buffer c.args.index (g.S.Store.content c.args.store.now) (g.S.Store.rows c.args.store.now) c.requires.can c.in-Ok.shape (sym c.shape.ensures.shape ∙ c.in-Ok.is) c.requires.layouts
    c.owners_of-owners.result.now c.owners_of-owners.ensures c.width_of-width.result c.width_of-width.ensures in
    take_clock c.args.types.now c.args.layouts.now c.args.depth c.args.buffer c.args.index (g.S.Store.content c.args.store.now) (g.S.Store.rows c.args.store.now) c.requires.can c.in-Ok.shape (sym c.shape.ensures.shape ∙ c.in-Ok.is) c.requires.layouts
    c.owners_of-owners.result.now c.owners_of-owners.ensures c.width_of-width.result c.width_of-width.ensures
    c.end_slot.ensures.small (g.S.Store.content c.end_slot.new.store) (g.S.Store.rows c.end_slot.new.store) c.end_slot.ensures.emptied c.end_slot.ensures.later
    c.leaves_of-leaves.result.now c.leaves_of-leaves.ensures (c.in-Ok.shape.length - (c.args.index + 1)) (omega (arith, i)) c.requires.clock

pub move_slots-requires-clause-can : goal.move_slots-requires-clause-can
move_slots-requires-clause-can g c =
    let i = inside c.args.types.now c.args.layouts.now c.args.depth c.args.buffer c.args.index (g.S.Store.content c.args.store.now) (g.S.Store.rows c.args.store.now) c.requires.can c.in-Ok.shape (sym c.shape.ensures.shape ∙ c.in-Ok.is) c.requires.layouts
    c.owners_of-owners.result.now c.owners_of-owners.ensures c.width_of-width.result c.width_of-width.ensures in
    move_can c.args.types.now c.args.layouts.now c.args.depth c.args.buffer c.args.index (g.S.Store.content c.args.store.now) (g.S.Store.rows c.args.store.now) c.requires.can c.in-Ok.shape (sym c.shape.ensures.shape ∙ c.in-Ok.is) c.requires.layouts
    c.owners_of-owners.result.now c.owners_of-owners.ensures c.width_of-width.result c.width_of-width.ensures
    c.end_slot.ensures.small (g.S.Store.content c.end_slot.new.store) (g.S.Store.rows c.end_slot.new.store) c.end_slot.ensures.emptied c.end_slot.ensures.later
    c.leaves_of-leaves.result.now c.leaves_of-leaves.ensures (c.in-Ok.shape.length - (c.args.index + 1)) (omega (arith, i))
    (g.S.Store.content c.take_slots.new.store) (g.S.Store.rows c.take_slots.new.store) c.take_slots.ensures.taken c.take_slots.ensures.later

pub move_slots-requires-clause-from_small : goal.move_slots-requires-clause-from_small
move_slots-requires-clause-from_small g c =
    let i = inside c.args.types.now c.args.layouts.now c.args.depth c.args.buffer c.args.index (g.S.Store.content c.args.store.now) (g.S.Store.rows c.args.store.now) c.requires.can c.in-Ok.shape (sym c.shape.ensures.shape ∙ c.in-Ok.is) c.requires.layouts
    c.owners_of-owners.result.now c.owners_of-owners.ensures c.width_of-width.result c.width_of-width.ensures in
    let n = c.is_count.ensures in
    omega (arith, i, n)

pub move_slots-requires-clause-to_small : goal.move_slots-requires-clause-to_small
move_slots-requires-clause-to_small g c =
    let i = inside c.args.types.now c.args.layouts.now c.args.depth c.args.buffer c.args.index (g.S.Store.content c.args.store.now) (g.S.Store.rows c.args.store.now) c.requires.can c.in-Ok.shape (sym c.shape.ensures.shape ∙ c.in-Ok.is) c.requires.layouts
    c.owners_of-owners.result.now c.owners_of-owners.ensures c.width_of-width.result c.width_of-width.ensures in
    let n = c.is_count.ensures in
    omega (arith, i, n)

pub resize-requires-clause-countable : goal.resize-requires-clause-countable
resize-requires-clause-countable g c =
    let i = inside c.args.types.now c.args.layouts.now c.args.depth c.args.buffer c.args.index (g.S.Store.content c.args.store.now) (g.S.Store.rows c.args.store.now) c.requires.can c.in-Ok.shape (sym c.shape.ensures.shape ∙ c.in-Ok.is) c.requires.layouts
    c.owners_of-owners.result.now c.owners_of-owners.ensures c.width_of-width.result c.width_of-width.ensures in
    can_count c.args.types.now c.args.layouts.now c.args.depth c.args.buffer c.args.index (g.S.Store.content c.args.store.now) (g.S.Store.rows c.args.store.now) c.requires.can c.in-Ok.shape (sym c.shape.ensures.shape ∙ c.in-Ok.is) c.requires.layouts
    c.owners_of-owners.result.now c.owners_of-owners.ensures c.width_of-width.result c.width_of-width.ensures
    c.end_slot.ensures.small (g.S.Store.content c.end_slot.new.store) (g.S.Store.rows c.end_slot.new.store) c.end_slot.ensures.emptied c.end_slot.ensures.later
    c.leaves_of-leaves.result.now c.leaves_of-leaves.ensures (c.in-Ok.shape.length - (c.args.index + 1)) (omega (arith, i))
    (g.S.Store.content c.take_slots.new.store) (g.S.Store.rows c.take_slots.new.store) c.take_slots.ensures.taken c.take_slots.ensures.later
    (g.S.Store.content c.move_slots.new.store) (g.S.Store.rows c.move_slots.new.store) c.move_slots.ensures.moved c.move_slots.ensures.rows c.move_slots.ensures.later c.requires.births c.requires.clock

pub resize-requires-clause-fits : goal.resize-requires-clause-fits
resize-requires-clause-fits g c =
    let i = inside c.args.types.now c.args.layouts.now c.args.depth c.args.buffer c.args.index (g.S.Store.content c.args.store.now) (g.S.Store.rows c.args.store.now) c.requires.can c.in-Ok.shape (sym c.shape.ensures.shape ∙ c.in-Ok.is) c.requires.layouts
    c.owners_of-owners.result.now c.owners_of-owners.ensures c.width_of-width.result c.width_of-width.ensures in
    can_cut c.args.types.now c.args.layouts.now c.args.depth c.args.buffer c.args.index (g.S.Store.content c.args.store.now) (g.S.Store.rows c.args.store.now) c.requires.can c.in-Ok.shape (sym c.shape.ensures.shape ∙ c.in-Ok.is) c.requires.layouts
    c.owners_of-owners.result.now c.owners_of-owners.ensures c.width_of-width.result c.width_of-width.ensures
    c.end_slot.ensures.small (g.S.Store.content c.end_slot.new.store) (g.S.Store.rows c.end_slot.new.store) c.end_slot.ensures.emptied c.end_slot.ensures.later
    c.leaves_of-leaves.result.now c.leaves_of-leaves.ensures (c.in-Ok.shape.length - (c.args.index + 1)) (omega (arith, i))
    (g.S.Store.content c.take_slots.new.store) (g.S.Store.rows c.take_slots.new.store) c.take_slots.ensures.taken c.take_slots.ensures.later
    (g.S.Store.content c.move_slots.new.store) (g.S.Store.rows c.move_slots.new.store) c.move_slots.ensures.moved c.move_slots.ensures.rows c.move_slots.ensures.later

pub unreachable-requires-in-Err-resize : goal.unreachable-requires-in-Err-resize
unreachable-requires-in-Err-resize g c =
    let i = inside c.args.types.now c.args.layouts.now c.args.depth c.args.buffer c.args.index (g.S.Store.content c.args.store.now) (g.S.Store.rows c.args.store.now) c.requires.can c.in-Ok.shape (sym c.shape.ensures.shape ∙ c.in-Ok.is) c.requires.layouts
    c.owners_of-owners.result.now c.owners_of-owners.ensures c.width_of-width.result c.width_of-width.ensures in
    still_there c.args.types.now c.args.layouts.now c.args.depth c.args.buffer c.args.index (g.S.Store.content c.args.store.now) (g.S.Store.rows c.args.store.now) c.requires.can c.in-Ok.shape (sym c.shape.ensures.shape ∙ c.in-Ok.is) c.requires.layouts
    c.owners_of-owners.result.now c.owners_of-owners.ensures c.width_of-width.result c.width_of-width.ensures
    c.end_slot.ensures.small (g.S.Store.content c.end_slot.new.store) (g.S.Store.rows c.end_slot.new.store) c.end_slot.ensures.emptied c.end_slot.ensures.later
    c.leaves_of-leaves.result.now c.leaves_of-leaves.ensures (c.in-Ok.shape.length - (c.args.index + 1)) (omega (arith, i))
    (g.S.Store.content c.take_slots.new.store) (g.S.Store.rows c.take_slots.new.store) c.take_slots.ensures.taken c.take_slots.ensures.later
    (g.S.Store.content c.move_slots.new.store) (g.S.Store.rows c.move_slots.new.store) c.move_slots.ensures.moved c.move_slots.ensures.rows c.move_slots.ensures.later c.in-Err-resize.ensures.lives

pub returns-clause-erased : goal.returns-clause-erased
returns-clause-erased g c o there =
    let i = inside c.args.types.now c.args.layouts.now c.args.depth c.args.buffer c.args.index (g.S.Store.content c.args.store.now) (g.S.Store.rows c.args.store.now) c.requires.can c.in-Ok.shape (sym c.shape.ensures.shape ∙ c.in-Ok.is) c.requires.layouts
    c.owners_of-owners.result.now c.owners_of-owners.ensures c.width_of-width.result c.width_of-width.ensures in
    erase_shows c.args.types.now c.args.layouts.now c.args.depth c.args.buffer c.args.index (g.S.Store.content c.args.store.now) (g.S.Store.rows c.args.store.now) c.requires.can c.in-Ok.shape (sym c.shape.ensures.shape ∙ c.in-Ok.is) c.requires.layouts
    c.owners_of-owners.result.now c.owners_of-owners.ensures c.width_of-width.result c.width_of-width.ensures
    c.end_slot.ensures.small (g.S.Store.content c.end_slot.new.store) (g.S.Store.rows c.end_slot.new.store) c.end_slot.ensures.emptied c.end_slot.ensures.later
    c.leaves_of-leaves.result.now c.leaves_of-leaves.ensures (c.in-Ok.shape.length - (c.args.index + 1)) (omega (arith, i))
    (g.S.Store.content c.take_slots.new.store) (g.S.Store.rows c.take_slots.new.store) c.take_slots.ensures.taken c.take_slots.ensures.later
    (g.S.Store.content c.move_slots.new.store) (g.S.Store.rows c.move_slots.new.store) c.move_slots.ensures.moved c.move_slots.ensures.rows c.move_slots.ensures.later
    (g.S.Store.content c.resize.new.self) (g.S.Store.rows c.resize.new.self) c.in-Ok-resize.ensures.resized c.in-Ok-resize.ensures.rows_stay o there

pub returns-clause-later : goal.returns-clause-later
returns-clause-later g c =
    let i = inside c.args.types.now c.args.layouts.now c.args.depth c.args.buffer c.args.index (g.S.Store.content c.args.store.now) (g.S.Store.rows c.args.store.now) c.requires.can c.in-Ok.shape (sym c.shape.ensures.shape ∙ c.in-Ok.is) c.requires.layouts
    c.owners_of-owners.result.now c.owners_of-owners.ensures c.width_of-width.result c.width_of-width.ensures in
    erase_later c.args.types.now c.args.layouts.now c.args.depth c.args.buffer c.args.index (g.S.Store.content c.args.store.now) (g.S.Store.rows c.args.store.now) c.requires.can c.in-Ok.shape (sym c.shape.ensures.shape ∙ c.in-Ok.is) c.requires.layouts
    c.owners_of-owners.result.now c.owners_of-owners.ensures c.width_of-width.result c.width_of-width.ensures
    c.end_slot.ensures.small (g.S.Store.content c.end_slot.new.store) (g.S.Store.rows c.end_slot.new.store) c.end_slot.ensures.emptied c.end_slot.ensures.later
    c.leaves_of-leaves.result.now c.leaves_of-leaves.ensures (c.in-Ok.shape.length - (c.args.index + 1)) (omega (arith, i))
    (g.S.Store.content c.take_slots.new.store) (g.S.Store.rows c.take_slots.new.store) c.take_slots.ensures.taken c.take_slots.ensures.later
    (g.S.Store.content c.move_slots.new.store) (g.S.Store.rows c.move_slots.new.store) c.move_slots.ensures.moved c.move_slots.ensures.rows c.move_slots.ensures.later
    (g.S.Store.content c.resize.new.self) (g.S.Store.rows c.resize.new.self) c.in-Ok-resize.ensures.resized c.in-Ok-resize.ensures.rows_stay

pub returns-clause-rowed : goal.returns-clause-rowed
returns-clause-rowed g c rowed =
    let i = inside c.args.types.now c.args.layouts.now c.args.depth c.args.buffer c.args.index (g.S.Store.content c.args.store.now) (g.S.Store.rows c.args.store.now) c.requires.can c.in-Ok.shape (sym c.shape.ensures.shape ∙ c.in-Ok.is) c.requires.layouts
    c.owners_of-owners.result.now c.owners_of-owners.ensures c.width_of-width.result c.width_of-width.ensures in
    let still =
    still_uncut c.args.types.now c.args.layouts.now c.args.depth c.args.buffer c.args.index (g.S.Store.content c.args.store.now) (g.S.Store.rows c.args.store.now) c.requires.can c.in-Ok.shape (sym c.shape.ensures.shape ∙ c.in-Ok.is) c.requires.layouts
    c.owners_of-owners.result.now c.owners_of-owners.ensures c.width_of-width.result c.width_of-width.ensures
    c.end_slot.ensures.small (g.S.Store.content c.end_slot.new.store) (g.S.Store.rows c.end_slot.new.store) c.end_slot.ensures.emptied c.end_slot.ensures.later
    c.leaves_of-leaves.result.now c.leaves_of-leaves.ensures (c.in-Ok.shape.length - (c.args.index + 1)) (omega (arith, i))
    (g.S.Store.content c.take_slots.new.store) (g.S.Store.rows c.take_slots.new.store) c.take_slots.ensures.taken c.take_slots.ensures.later in
    slots_keep (kinds_of c.args.types.now) (g.S.Store.content c.move_slots.new.store) (g.S.Store.rows c.move_slots.new.store) c.args.buffer (g.S.Store.content c.resize.new.self) (g.S.Store.rows c.resize.new.self) (c.in-Ok.shape.length - (c.args.index + 1) + c.args.index) c.args.index (object_of (g.S.Store.content c.move_slots.new.store) (g.S.Store.rows c.move_slots.new.store) c.args.buffer) refl
    c.in-Ok-resize.ensures.lives c.in-Ok-resize.ensures.resized c.in-Ok-resize.ensures.rows_stay
    (c.move_slots.ensures.rowed still.0 still.1 still.2 (c.take_slots.ensures.rowed (c.end_slot.ensures.rowed rowed)))
