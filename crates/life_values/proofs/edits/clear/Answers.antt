use Rattle.std.proofs.Common.{refl, sym, ◌∙◌, arith}
use Rattle.life_store.specs.References.{object_of}
use Rattle.life_seen.specs.Kinds.{kinds_of}
use Rattle.life_values.proofs.Flat.{layouts_own}
use Rattle.life_values.proofs.SlotsCleared.{can_count, can_cut, clear_later, clear_shows, give_can, not_dead, progress_begin, progress_next, same_length, still_there}
use Rattle.life_values.proofs.StillRowed.{slots_keep}
use Rattle.life_values.proofs.edits.clear.Goals as goal

pub unreachable-requires : goal.unreachable-requires
unreachable-requires g c = not_dead c.args.types.now c.args.layouts.now c.args.depth c.args.buffer (g.S.Store.content c.args.store.now) (g.S.Store.rows c.args.store.now) c.requires.can c.in-Err.field-0 (sym c.shape.ensures.shape ∙ c.in-Err.is)

pub loop-slot-init : goal.loop-slot-init
loop-slot-init g c = record {
  limit = refl;
  rowed = λ rowed. rowed;
  progress = λ can shape asked laid own wide. progress_begin c.args.types.now c.args.layouts.now c.args.depth c.args.buffer (g.S.Store.content c.args.store.now) (g.S.Store.rows c.args.store.now) can shape asked laid c.owners_of-owners.result.now own c.width_of-width.result wide;
}

pub end_slot-requires-clause-layouts : goal.end_slot-requires-clause-layouts
end_slot-requires-clause-layouts g c = layouts_own c.args.types.now c.args.layouts.now c.requires.layouts

pub end_slot-requires-clause-can : goal.end_slot-requires-clause-can
end_slot-requires-clause-can g c =
    give_can c.args.types.now c.args.layouts.now c.args.depth c.args.buffer (g.S.Store.content c.args.store.now) (g.S.Store.rows c.args.store.now) c.requires.can c.in-Ok.shape (sym c.shape.ensures.shape ∙ c.in-Ok.is) c.requires.layouts c.owners_of-owners.result.now c.owners_of-owners.ensures c.width_of-width.result c.width_of-width.ensures
    (g.S.Store.content c.loop-slot.store) (g.S.Store.rows c.loop-slot.store) c.loop-slot.slot (c.loop-slot.invariant.progress c.requires.can c.in-Ok.shape (sym c.shape.ensures.shape ∙ c.in-Ok.is) c.requires.layouts c.owners_of-owners.ensures c.width_of-width.ensures) c.loop-slot-test.true

pub loop-slot-preserved : goal.loop-slot-preserved
loop-slot-preserved g c = record {
  limit = c.end_slot.ensures.limit ∙ c.loop-slot.invariant.limit;
  rowed = λ rowed. c.end_slot.ensures.rowed (c.loop-slot.invariant.rowed rowed);
  progress = λ can shape asked laid own wide.
      let same = same_length shape c.in-Ok.shape (sym asked ∙ sym c.shape.ensures.shape ∙ c.in-Ok.is) in
      let test = c.loop-slot-test.true in
      progress_next c.args.types.now c.args.layouts.now c.args.depth c.args.buffer (g.S.Store.content c.args.store.now) (g.S.Store.rows c.args.store.now) can shape asked laid c.owners_of-owners.result.now own c.width_of-width.result wide
      (g.S.Store.content c.loop-slot.store) (g.S.Store.rows c.loop-slot.store) c.loop-slot.slot (c.loop-slot.invariant.progress can shape asked laid own wide) (omega (arith, same, test))
      c.end_slot.ensures.small (g.S.Store.content c.end_slot.new.store) (g.S.Store.rows c.end_slot.new.store) c.end_slot.ensures.emptied c.end_slot.ensures.later;
}

pub resize-requires-clause-countable : goal.resize-requires-clause-countable
resize-requires-clause-countable g c =
    can_count c.args.types.now c.args.layouts.now c.args.depth c.args.buffer (g.S.Store.content c.args.store.now) (g.S.Store.rows c.args.store.now) c.requires.can c.in-Ok.shape (sym c.shape.ensures.shape ∙ c.in-Ok.is) c.requires.layouts c.owners_of-owners.result.now c.owners_of-owners.ensures c.width_of-width.result c.width_of-width.ensures
    (g.S.Store.content c.loop-slot.store) (g.S.Store.rows c.loop-slot.store) c.loop-slot.slot (c.loop-slot.invariant.progress c.requires.can c.in-Ok.shape (sym c.shape.ensures.shape ∙ c.in-Ok.is) c.requires.layouts c.owners_of-owners.ensures c.width_of-width.ensures) c.requires.countable

pub resize-requires-clause-fits : goal.resize-requires-clause-fits
resize-requires-clause-fits g c =
    can_cut c.args.types.now c.args.layouts.now c.args.depth c.args.buffer (g.S.Store.content c.args.store.now) (g.S.Store.rows c.args.store.now) c.requires.can c.in-Ok.shape (sym c.shape.ensures.shape ∙ c.in-Ok.is) c.requires.layouts c.owners_of-owners.result.now c.owners_of-owners.ensures c.width_of-width.result c.width_of-width.ensures
    (g.S.Store.content c.loop-slot.store) (g.S.Store.rows c.loop-slot.store) c.loop-slot.slot (c.loop-slot.invariant.progress c.requires.can c.in-Ok.shape (sym c.shape.ensures.shape ∙ c.in-Ok.is) c.requires.layouts c.owners_of-owners.ensures c.width_of-width.ensures)

pub unreachable-requires-in-Err-resize : goal.unreachable-requires-in-Err-resize
unreachable-requires-in-Err-resize g c =
    still_there c.args.types.now c.args.layouts.now c.args.depth c.args.buffer (g.S.Store.content c.args.store.now) (g.S.Store.rows c.args.store.now) c.requires.can c.in-Ok.shape (sym c.shape.ensures.shape ∙ c.in-Ok.is) c.requires.layouts c.owners_of-owners.result.now c.owners_of-owners.ensures c.width_of-width.result c.width_of-width.ensures
    (g.S.Store.content c.loop-slot.store) (g.S.Store.rows c.loop-slot.store) c.loop-slot.slot (c.loop-slot.invariant.progress c.requires.can c.in-Ok.shape (sym c.shape.ensures.shape ∙ c.in-Ok.is) c.requires.layouts c.owners_of-owners.ensures c.width_of-width.ensures) c.in-Err-resize.ensures.lives

pub returns-clause-cleared : goal.returns-clause-cleared
returns-clause-cleared g c o there =
    let past = c.loop-slot-test.false in
    clear_shows c.args.types.now c.args.layouts.now c.args.depth c.args.buffer (g.S.Store.content c.args.store.now) (g.S.Store.rows c.args.store.now) c.requires.can c.in-Ok.shape (sym c.shape.ensures.shape ∙ c.in-Ok.is) c.requires.layouts c.owners_of-owners.result.now c.owners_of-owners.ensures c.width_of-width.result c.width_of-width.ensures
    (g.S.Store.content c.loop-slot.store) (g.S.Store.rows c.loop-slot.store) c.loop-slot.slot (c.loop-slot.invariant.progress c.requires.can c.in-Ok.shape (sym c.shape.ensures.shape ∙ c.in-Ok.is) c.requires.layouts c.owners_of-owners.ensures c.width_of-width.ensures)
    (g.S.Store.content c.resize.new.self) (g.S.Store.rows c.resize.new.self) c.in-Ok-resize.ensures.resized c.in-Ok-resize.ensures.rows_stay (omega (arith, past)) o there

pub returns-clause-later : goal.returns-clause-later
returns-clause-later g c =
    clear_later c.args.types.now c.args.layouts.now c.args.depth c.args.buffer (g.S.Store.content c.args.store.now) (g.S.Store.rows c.args.store.now) c.requires.can c.in-Ok.shape (sym c.shape.ensures.shape ∙ c.in-Ok.is) c.requires.layouts c.owners_of-owners.result.now c.owners_of-owners.ensures c.width_of-width.result c.width_of-width.ensures
    (g.S.Store.content c.loop-slot.store) (g.S.Store.rows c.loop-slot.store) c.loop-slot.slot (c.loop-slot.invariant.progress c.requires.can c.in-Ok.shape (sym c.shape.ensures.shape ∙ c.in-Ok.is) c.requires.layouts c.owners_of-owners.ensures c.width_of-width.ensures)
    (g.S.Store.content c.resize.new.self) (g.S.Store.rows c.resize.new.self) c.in-Ok-resize.ensures.resized c.in-Ok-resize.ensures.rows_stay

pub returns-clause-limit : goal.returns-clause-limit
returns-clause-limit g c = c.in-Ok-resize.ensures.limit ∙ c.loop-slot.invariant.limit

pub returns-clause-rowed : goal.returns-clause-rowed
returns-clause-rowed g c rowed =
    slots_keep (kinds_of c.args.types.now) (g.S.Store.content c.loop-slot.store) (g.S.Store.rows c.loop-slot.store) c.args.buffer (g.S.Store.content c.resize.new.self) (g.S.Store.rows c.resize.new.self) 0 0 (object_of (g.S.Store.content c.loop-slot.store) (g.S.Store.rows c.loop-slot.store) c.args.buffer) refl
    c.in-Ok-resize.ensures.lives c.in-Ok-resize.ensures.resized c.in-Ok-resize.ensures.rows_stay (c.loop-slot.invariant.rowed rowed)
