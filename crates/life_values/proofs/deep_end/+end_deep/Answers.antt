use Rattle.std.proofs.Common.{◌-◌, sym, ◌∙◌, arith}
use Rattle.std.proofs.lemmas.Option.{none-some}
use Rattle.life_forest.specs.Kinds.{kinds_of as forest_kinds}
use Rattle.life_seen.specs.Kinds.{kinds_of}
use Rattle.life_values.proofs.AlikeKinds.{alike_kinds, index_less}
use Rattle.life_values.proofs.Deep.{end_later, not_dead, now, progress_begin}
use Rattle.life_values.proofs.DeepSteps.{all_done, deep_enough, found_before, slot_done, then_can, word_done, word_keeps, word_there, words_there}
use Rattle.life_values.proofs.StillRowed.{end_keeps}
use Rattle.life_values.proofs.deep_end.+end_deep.Goals as goal

pub unreachable-requires : goal.unreachable-requires
unreachable-requires g t c =
    not_dead (kinds_of c.args.types.now) (forest_kinds c.args.types.now) (alike_kinds c.args.types.now) c.args.depth c.args.object (g.S.Store.content c.args.store.now) (g.S.Store.rows c.args.store.now) c.requires.can
    c.in-Err.field-0 (sym c.shape.ensures.shape ∙ c.in-Err.is)

pub loop-slot-init : goal.loop-slot-init
loop-slot-init g t c = record {
  slot = omega arith;
  index = omega arith;
  limit = λ i. g.S.Store.limit c.args.store.now;
  rowed = λ rowed. rowed;
  progress = λ can. progress_begin (kinds_of c.args.types.now) (forest_kinds c.args.types.now) (alike_kinds c.args.types.now) c.args.depth c.args.object (g.S.Store.content c.args.store.now) (g.S.Store.rows c.args.store.now) can c.owners_of-owners.result.now;
}

pub next_in-requires : goal.next_in-requires
next_in-requires g t c = record {
  has = words_there c.args.types.now c.args.layouts.now c.args.depth c.args.object (g.S.Store.content c.args.store.now) (g.S.Store.rows c.args.store.now) c.requires.can c.requires.layouts c.in-Ok.shape (sym c.shape.ensures.shape ∙ c.in-Ok.is)
      c.owners_of-owners.result.now c.owners_of-owners.ensures (g.S.Store.content c.loop-slot.store) (g.S.Store.rows c.loop-slot.store) c.loop-slot.slot c.loop-slot.index (c.loop-slot.invariant.progress c.requires.can) c.loop-slot-test.true;
}

pub loop-slot-preserved-in-None : goal.loop-slot-preserved-in-None
loop-slot-preserved-in-None g t c = record {
  slot = let h = c.loop-slot-test.true in omega (arith, h);
  index = omega arith;
  limit = c.loop-slot.invariant.limit;
  rowed = c.loop-slot.invariant.rowed;
  progress = λ can. slot_done c.args.types.now c.args.layouts.now c.args.depth c.args.object (g.S.Store.content c.args.store.now) (g.S.Store.rows c.args.store.now) can c.requires.layouts c.in-Ok.shape (sym c.shape.ensures.shape ∙ c.in-Ok.is)
      c.owners_of-owners.result.now c.owners_of-owners.ensures (g.S.Store.content c.loop-slot.store) (g.S.Store.rows c.loop-slot.store) c.loop-slot.slot c.loop-slot.index (c.loop-slot.invariant.progress can) c.in-None.ensures.next;
}

pub take_owned-requires : goal.take_owned-requires
take_owned-requires g t c =
    word_there c.args.types.now c.args.layouts.now c.args.depth c.args.object (g.S.Store.content c.args.store.now) (g.S.Store.rows c.args.store.now) c.requires.can c.requires.layouts c.in-Ok.shape (sym c.shape.ensures.shape ∙ c.in-Ok.is)
    c.owners_of-owners.result.now c.owners_of-owners.ensures (g.S.Store.content c.loop-slot.store) (g.S.Store.rows c.loop-slot.store) c.loop-slot.slot c.loop-slot.index (c.loop-slot.invariant.progress c.requires.can) c.in-Some.found c.in-Some.ensures.next
    c.loop-slot-test.true

pub overflow_sub-depth : goal.overflow_sub-depth
overflow_sub-depth g t c = deep_enough c.args.types.now c.args.depth c.args.object (g.S.Store.content c.args.store.now) (g.S.Store.rows c.args.store.now) c.requires.can

pub end_deep-requires : goal.end_deep-requires
end_deep-requires g t c κs within =
    let deep = deep_enough c.args.types.now c.args.depth c.args.object (g.S.Store.content c.args.store.now) (g.S.Store.rows c.args.store.now) c.requires.can in
    let can = then_can c.args.types.now c.args.layouts.now c.args.depth c.args.object (g.S.Store.content c.args.store.now) (g.S.Store.rows c.args.store.now) c.requires.can c.requires.layouts c.in-Ok.shape (sym c.shape.ensures.shape ∙ c.in-Ok.is)
    c.owners_of-owners.result.now c.owners_of-owners.ensures (g.S.Store.content c.loop-slot.store) (g.S.Store.rows c.loop-slot.store) c.loop-slot.slot c.loop-slot.index (c.loop-slot.invariant.progress c.requires.can) c.in-Some.found c.in-Some.ensures.next
    c.loop-slot-test.true (g.S.Store.content c.take_owned.new.store) (g.S.Store.rows c.take_owned.new.store) c.take_owned.ensures.shows c.take_owned.ensures.rows in
    (omega (arith, deep, c.decreases), (within, (c.requires.layouts, can)))

pub loop-slot-smaller : goal.loop-slot-smaller
loop-slot-smaller g t c =
    index_less (c.in-Ok.shape.length - c.loop-slot.slot) _ c.loop-slot.index c.in-Some.found.index
    (found_before c.args.types.now c.args.layouts.now c.args.depth c.args.object (g.S.Store.content c.args.store.now) (g.S.Store.rows c.args.store.now) c.requires.can c.requires.layouts c.in-Ok.shape (sym c.shape.ensures.shape ∙ c.in-Ok.is)
    c.owners_of-owners.result.now c.owners_of-owners.ensures (g.S.Store.content c.loop-slot.store) (g.S.Store.rows c.loop-slot.store) c.loop-slot.slot c.loop-slot.index (c.loop-slot.invariant.progress c.requires.can) c.in-Some.found c.in-Some.ensures.next)
    c.in-Some.ensures.within

pub loop-slot-preserved : goal.loop-slot-preserved
loop-slot-preserved g t c = record {
  slot = c.loop-slot.invariant.slot;
  index = let w = c.in-Some.ensures.within in omega (arith, w);
  limit = c.end_deep.ensures.limit ∙ c.take_owned.ensures.limit ∙ c.loop-slot.invariant.limit;
  rowed = λ rowed.
      c.end_deep.ensures.rowed
      (word_keeps c.args.types.now c.args.layouts.now c.args.depth c.args.object (g.S.Store.content c.args.store.now) (g.S.Store.rows c.args.store.now) c.requires.can c.requires.layouts c.in-Ok.shape (sym c.shape.ensures.shape ∙ c.in-Ok.is)
      c.owners_of-owners.result.now c.owners_of-owners.ensures (g.S.Store.content c.loop-slot.store) (g.S.Store.rows c.loop-slot.store) c.loop-slot.slot c.loop-slot.index (c.loop-slot.invariant.progress c.requires.can) c.in-Some.found c.in-Some.ensures.next
      (g.S.Store.content c.take_owned.new.store) (g.S.Store.rows c.take_owned.new.store) c.take_owned.ensures.rowed (c.loop-slot.invariant.rowed rowed));
  progress = λ can. word_done c.args.types.now c.args.layouts.now c.args.depth c.args.object (g.S.Store.content c.args.store.now) (g.S.Store.rows c.args.store.now) can c.requires.layouts c.in-Ok.shape (sym c.shape.ensures.shape ∙ c.in-Ok.is)
      c.owners_of-owners.result.now c.owners_of-owners.ensures (g.S.Store.content c.loop-slot.store) (g.S.Store.rows c.loop-slot.store) c.loop-slot.slot c.loop-slot.index (c.loop-slot.invariant.progress can) c.in-Some.found c.in-Some.ensures.next
      c.loop-slot-test.true (g.S.Store.content c.take_owned.new.store) (g.S.Store.rows c.take_owned.new.store) c.take_owned.ensures.shows c.take_owned.ensures.rows
      (g.S.Store.content c.end_deep.new.store) (g.S.Store.rows c.end_deep.new.store) c.end_deep.ensures.ended c.end_deep.ensures.later;
}

pub unreachable-requires-in-Err-finish : goal.unreachable-requires-in-Err-finish
unreachable-requires-in-Err-finish g t c =
    let n = now (kinds_of c.args.types.now) (forest_kinds c.args.types.now) (alike_kinds c.args.types.now) c.args.depth c.args.object (g.S.Store.content c.args.store.now) (g.S.Store.rows c.args.store.now) c.requires.can
    c.owners_of-owners.result.now (g.S.Store.content c.loop-slot.store) (g.S.Store.rows c.loop-slot.store) c.loop-slot.slot c.loop-slot.index (c.loop-slot.invariant.progress c.requires.can) in
    none-some n.object (sym c.in-Err-finish.ensures.lives ∙ n.found)

pub returns-clause-ended : goal.returns-clause-ended
returns-clause-ended g t c =
    all_done c.args.types.now c.args.layouts.now c.args.depth c.args.object (g.S.Store.content c.args.store.now) (g.S.Store.rows c.args.store.now) c.requires.can c.requires.layouts c.in-Ok.shape (sym c.shape.ensures.shape ∙ c.in-Ok.is)
    c.owners_of-owners.result.now c.owners_of-owners.ensures (g.S.Store.content c.loop-slot.store) (g.S.Store.rows c.loop-slot.store) c.loop-slot.slot c.loop-slot.index (c.loop-slot.invariant.progress c.requires.can)
    c.loop-slot-test.false (g.S.Store.content c.finish.new.self) (g.S.Store.rows c.finish.new.self) c.in-Ok-finish.ensures.ended c.in-Ok-finish.ensures.row

pub returns-clause-later : goal.returns-clause-later
returns-clause-later g t c =
    end_later (kinds_of c.args.types.now) (forest_kinds c.args.types.now) (alike_kinds c.args.types.now) c.args.depth c.args.object (g.S.Store.content c.args.store.now) (g.S.Store.rows c.args.store.now) c.requires.can
    c.owners_of-owners.result.now (g.S.Store.content c.loop-slot.store) (g.S.Store.rows c.loop-slot.store) c.loop-slot.slot c.loop-slot.index (c.loop-slot.invariant.progress c.requires.can)
    (g.S.Store.content c.finish.new.self) (g.S.Store.rows c.finish.new.self) c.in-Ok-finish.ensures.ended c.in-Ok-finish.ensures.row

pub returns-clause-rowed : goal.returns-clause-rowed
returns-clause-rowed g t c rowed =
    end_keeps (kinds_of c.args.types.now) (g.S.Store.content c.loop-slot.store) (g.S.Store.rows c.loop-slot.store) c.args.object (g.S.Store.content c.finish.new.self) (g.S.Store.rows c.finish.new.self) c.in-Ok-finish.ensures.ended c.in-Ok-finish.ensures.row
    (c.loop-slot.invariant.rowed rowed)
