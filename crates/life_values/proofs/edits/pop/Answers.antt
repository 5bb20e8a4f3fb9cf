use Rattle.std.proofs.Common.{◌-◌, refl, sym, ◌∙◌, arith}
use Rattle.life_store.specs.References.{object_of}
use Rattle.life_seen.specs.Kinds.{kinds_of}
use Rattle.life_values.proofs.Flat.{layouts_own}
use Rattle.life_values.proofs.Popping.{can_count, can_cut, last_can, not_dead, pop_later, pop_none, pop_shows, still_there}
use Rattle.life_values.proofs.StillRowed.{slots_keep}
use Rattle.life_values.proofs.edits.pop.Goals as goal

pub unreachable-requires : goal.unreachable-requires
unreachable-requires g c =
    not_dead c.args.types.now c.args.layouts.now c.args.depth c.args.buffer (g.S.Store.content c.args.store.now) (g.S.Store.rows c.args.store.now) c.requires.can c.in-Err.field-0 (sym c.shape.ensures.shape ∙ c.in-Err.is)

pub returns-then-shape-eq0-clause-popped : goal.returns-then-shape-eq0-clause-popped
returns-then-shape-eq0-clause-popped g c o there =
    pop_none c.args.types.now c.args.layouts.now c.args.depth c.args.buffer (g.S.Store.content c.args.store.now) (g.S.Store.rows c.args.store.now) c.requires.can c.in-Ok.shape (sym c.shape.ensures.shape ∙ c.in-Ok.is)
    c.if-shape-eq0.true o there (g.S.Store.content c.args.store.now) (g.S.Store.rows c.args.store.now)

pub end_slot-requires-clause-layouts : goal.end_slot-requires-clause-layouts
end_slot-requires-clause-layouts g c = layouts_own c.args.types.now c.args.layouts.now c.requires.layouts

pub end_slot-requires-clause-can : goal.end_slot-requires-clause-can
end_slot-requires-clause-can g c =
    let some = c.if-shape-eq0.false in
    last_can c.args.types.now c.args.layouts.now c.args.depth c.args.buffer (g.S.Store.content c.args.store.now) (g.S.Store.rows c.args.store.now) c.requires.can c.in-Ok.shape (sym c.shape.ensures.shape ∙ c.in-Ok.is) c.requires.layouts
    c.owners_of-owners.result.now c.owners_of-owners.ensures c.width_of-width.result c.width_of-width.ensures _ (omega (arith, some))

pub resize-requires-clause-countable : goal.resize-requires-clause-countable
resize-requires-clause-countable g c =
    let some = c.if-shape-eq0.false in
    can_count c.args.types.now c.args.layouts.now c.args.depth c.args.buffer (g.S.Store.content c.args.store.now) (g.S.Store.rows c.args.store.now) c.requires.can c.in-Ok.shape (sym c.shape.ensures.shape ∙ c.in-Ok.is) c.requires.layouts
    c.owners_of-owners.result.now c.owners_of-owners.ensures c.width_of-width.result c.width_of-width.ensures _ (omega (arith, some))
    c.end_slot.ensures.small (g.S.Store.content c.end_slot.new.store) (g.S.Store.rows c.end_slot.new.store) c.end_slot.ensures.emptied c.end_slot.ensures.later c.requires.countable

pub resize-requires-clause-fits : goal.resize-requires-clause-fits
resize-requires-clause-fits g c =
    let some = c.if-shape-eq0.false in
    can_cut c.args.types.now c.args.layouts.now c.args.depth c.args.buffer (g.S.Store.content c.args.store.now) (g.S.Store.rows c.args.store.now) c.requires.can c.in-Ok.shape (sym c.shape.ensures.shape ∙ c.in-Ok.is) c.requires.layouts
    c.owners_of-owners.result.now c.owners_of-owners.ensures c.width_of-width.result c.width_of-width.ensures _ (omega (arith, some))
    c.end_slot.ensures.small (g.S.Store.content c.end_slot.new.store) (g.S.Store.rows c.end_slot.new.store) c.end_slot.ensures.emptied c.end_slot.ensures.later

pub unreachable-requires-in-Err-resize : goal.unreachable-requires-in-Err-resize
unreachable-requires-in-Err-resize g c =
    let some = c.if-shape-eq0.false in
    still_there c.args.types.now c.args.layouts.now c.args.depth c.args.buffer (g.S.Store.content c.args.store.now) (g.S.Store.rows c.args.store.now) c.requires.can c.in-Ok.shape (sym c.shape.ensures.shape ∙ c.in-Ok.is) c.requires.layouts
    c.owners_of-owners.result.now c.owners_of-owners.ensures c.width_of-width.result c.width_of-width.ensures _ (omega (arith, some))
    c.end_slot.ensures.small (g.S.Store.content c.end_slot.new.store) (g.S.Store.rows c.end_slot.new.store) c.end_slot.ensures.emptied c.end_slot.ensures.later c.in-Err-resize.ensures.lives

pub returns-clause-popped : goal.returns-clause-popped
returns-clause-popped g c =
    let some = c.if-shape-eq0.false in
    pop_shows c.args.types.now c.args.layouts.now c.args.depth c.args.buffer (g.S.Store.content c.args.store.now) (g.S.Store.rows c.args.store.now) c.requires.can c.in-Ok.shape (sym c.shape.ensures.shape ∙ c.in-Ok.is) c.requires.layouts
    c.owners_of-owners.result.now c.owners_of-owners.ensures c.width_of-width.result c.width_of-width.ensures _ (omega (arith, some))
    c.end_slot.ensures.small (g.S.Store.content c.end_slot.new.store) (g.S.Store.rows c.end_slot.new.store) c.end_slot.ensures.emptied c.end_slot.ensures.later
    (g.S.Store.content c.resize.new.self) (g.S.Store.rows c.resize.new.self) c.in-Ok-resize.ensures.resized c.in-Ok-resize.ensures.rows_stay

pub returns-clause-later : goal.returns-clause-later
returns-clause-later g c =
    let some = c.if-shape-eq0.false in
    pop_later c.args.types.now c.args.layouts.now c.args.depth c.args.buffer (g.S.Store.content c.args.store.now) (g.S.Store.rows c.args.store.now) c.requires.can c.in-Ok.shape (sym c.shape.ensures.shape ∙ c.in-Ok.is) c.requires.layouts
    c.owners_of-owners.result.now c.owners_of-owners.ensures c.width_of-width.result c.width_of-width.ensures _ (omega (arith, some))
    c.end_slot.ensures.small (g.S.Store.content c.end_slot.new.store) (g.S.Store.rows c.end_slot.new.store) c.end_slot.ensures.emptied c.end_slot.ensures.later
    (g.S.Store.content c.resize.new.self) (g.S.Store.rows c.resize.new.self) c.in-Ok-resize.ensures.resized c.in-Ok-resize.ensures.rows_stay

pub returns-clause-rowed : goal.returns-clause-rowed
returns-clause-rowed g c rowed =
    slots_keep (kinds_of c.args.types.now) (g.S.Store.content c.end_slot.new.store) (g.S.Store.rows c.end_slot.new.store) c.args.buffer (g.S.Store.content c.resize.new.self) (g.S.Store.rows c.resize.new.self) (c.in-Ok.shape.length - 1) (c.in-Ok.shape.length - 1) (object_of (g.S.Store.content c.end_slot.new.store) (g.S.Store.rows c.end_slot.new.store) c.args.buffer) refl
    c.in-Ok-resize.ensures.lives c.in-Ok-resize.ensures.resized c.in-Ok-resize.ensures.rows_stay (c.end_slot.ensures.rowed rowed)

pub returns-then-shape-eq0-clause-rowed : goal.returns-then-shape-eq0-clause-rowed
returns-then-shape-eq0-clause-rowed g c rowed = rowed
