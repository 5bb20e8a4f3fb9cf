use Rattle.std.proofs.Common.{Err, ◌-◌, refl, subst, sym, ◌∙◌, arith}
use Rattle.std.proofs.lemmas.Option.{slice_get-get_or}
use Rattle.life_forest.specs.Kinds.{kinds_of as forest_kinds}
use Rattle.life_seen.specs.Kinds.{kinds_of}
use Rattle.life_seen.specs.Seen.{seen}
use Rattle.life_values.specs.Copied.{copied_number, CanCopy, CanCopySlots, CanRecopy, Copies}
use Rattle.life_values.specs.Layouts.{owners_at}
use Rattle.life_values.proofs.CopyingDeep.{at_least, birth_fails, deep_enough, not_dead, slots_can, slots_come, slots_fail}
use Rattle.life_values.proofs.CopyingSlots.{progress_begin as slots_begin, progress_end as slots_end, progress_next as slots_next, recopy_can, slot_fails, words_can, words_uncut}
use Rattle.life_values.proofs.Recopying.{can_own, copy_can, copy_fails, copy_placed, none_comes, own_keeps, progress_begin as words_begin, progress_end as words_end, progress_next as words_next, word_there}
use Rattle.life_values.proofs.copying.+copies.Goals as goal

-- ---- an object

pub copy_deep-unreachable-requires : goal.copy_deep-unreachable-requires
copy_deep-unreachable-requires g t c =
    not_dead c.args.types.now c.args.layouts.now c.requires.layouts c.requires.ordered (g.S.Store.limit c.args.store.now) c.args.depth c.args.object (g.S.Store.content c.args.store.now) (g.S.Store.rows c.args.store.now) c.requires.can c.in-Err.field-0 (sym c.shape.ensures.shape ∙ c.in-Err.is)

pub copy_deep-born_sized-requires-clause-wide : goal.copy_deep-born_sized-requires-clause-wide
copy_deep-born_sized-requires-clause-wide g t c =
    at_least c.args.types.now c.args.layouts.now c.requires.layouts c.requires.ordered (g.S.Store.limit c.args.store.now) c.args.depth c.args.object (g.S.Store.content c.args.store.now) (g.S.Store.rows c.args.store.now) c.requires.can
    c.in-Ok.shape (sym c.shape.ensures.shape ∙ c.in-Ok.is) c.owners_of-owners.result.now c.owners_of-owners.ensures c.width_of-width.result c.width_of-width.ensures c.shape.ensures.wide

pub copy_deep-overflow_sub-depth : goal.copy_deep-overflow_sub-depth
copy_deep-overflow_sub-depth g t c = deep_enough c.args.types.now c.args.layouts.now c.requires.layouts c.requires.ordered (g.S.Store.limit c.args.store.now) c.args.depth c.args.object (g.S.Store.content c.args.store.now) (g.S.Store.rows c.args.store.now) c.requires.can

pub copy_deep-copy_slots-requires : goal.copy_deep-copy_slots-requires
copy_deep-copy_slots-requires g t c κs within =
    let deep = deep_enough c.args.types.now c.args.layouts.now c.requires.layouts c.requires.ordered (g.S.Store.limit c.args.store.now) c.args.depth c.args.object (g.S.Store.content c.args.store.now) (g.S.Store.rows c.args.store.now) c.requires.can in
    let can = slots_can c.args.types.now c.args.layouts.now c.requires.layouts c.requires.ordered (g.S.Store.limit c.args.store.now) c.args.depth c.args.object (g.S.Store.content c.args.store.now) (g.S.Store.rows c.args.store.now) c.requires.can
    c.in-Ok.shape (sym c.shape.ensures.shape ∙ c.in-Ok.is) c.owners_of-owners.result.now c.owners_of-owners.ensures c.width_of-width.result c.width_of-width.ensures
    c.in-Ok-born_sized.ensures.room c.in-Ok-born_sized.copy c.in-Ok-born_sized.ensures.number (g.S.Store.content c.born_sized.new.store) (g.S.Store.rows c.born_sized.new.store) (c.in-Ok-born_sized.ensures.shows (kinds_of c.args.types.now) c.requires.can.housed) c.in-Ok-born_sized.ensures.placed c.in-Ok-born_sized.ensures.later in (
      omega (arith, deep, c.decreases),
      (
        within,
        (
          c.requires.layouts,
          (
            c.requires.ordered,
            subst (λ k. CanCopySlots (kinds_of c.args.types.now) (forest_kinds c.args.types.now) k (c.args.depth - 1) c.args.object c.in-Ok-born_sized.copy c.in-Ok.shape.length c.width_of-width.result c.owners_of-owners.result.now (g.S.Store.content c.born_sized.new.store) (g.S.Store.rows c.born_sized.new.store)) (sym c.in-Ok-born_sized.ensures.limit) can,
          ),
        ),
      ),
    )

pub copy_deep-returns-in-Err-born_sized-clause-copied : goal.copy_deep-returns-in-Err-born_sized-clause-copied
copy_deep-returns-in-Err-born_sized-clause-copied g t c s cells =
    subst (λ why. Copies (kinds_of c.args.types.now) (copied_number s (owners_at c.args.layouts.now) c.args.depth c.args.object.birth (seen (kinds_of c.args.types.now) (g.S.Store.content c.args.store.now) (g.S.Store.rows c.args.store.now))) (Err why) (g.S.Store.content c.born_sized.new.store) (g.S.Store.rows c.born_sized.new.store)) (sym c.copy_fault.ensures)
    (birth_fails c.args.types.now c.args.layouts.now c.requires.layouts c.requires.ordered (g.S.Store.limit c.args.store.now) c.args.depth c.args.object (g.S.Store.content c.args.store.now) (g.S.Store.rows c.args.store.now) c.requires.can
    c.in-Ok.shape (sym c.shape.ensures.shape ∙ c.in-Ok.is) c.owners_of-owners.result.now c.owners_of-owners.ensures c.width_of-width.result c.width_of-width.ensures c.in-Err-born_sized.fault c.in-Err-born_sized.ensures.cells (g.S.Store.content c.born_sized.new.store) (g.S.Store.rows c.born_sized.new.store) s cells)

pub copy_deep-returns-in-Err-copy_slots-clause-copied : goal.copy_deep-returns-in-Err-copy_slots-clause-copied
copy_deep-returns-in-Err-copy_slots-clause-copied g t c s cells =
    slots_fail c.args.types.now c.args.layouts.now c.requires.layouts c.requires.ordered (g.S.Store.limit c.args.store.now) c.args.depth c.args.object (g.S.Store.content c.args.store.now) (g.S.Store.rows c.args.store.now) c.requires.can
    c.in-Ok.shape (sym c.shape.ensures.shape ∙ c.in-Ok.is) c.owners_of-owners.result.now c.owners_of-owners.ensures c.width_of-width.result c.width_of-width.ensures
    c.in-Ok-born_sized.ensures.room c.in-Ok-born_sized.copy c.in-Ok-born_sized.ensures.number (g.S.Store.content c.born_sized.new.store) (g.S.Store.rows c.born_sized.new.store) (c.in-Ok-born_sized.ensures.shows (kinds_of c.args.types.now) c.requires.can.housed) c.in-Ok-born_sized.ensures.placed c.in-Ok-born_sized.ensures.later c.in-Err-copy_slots.fault (g.S.Store.content c.copy_slots.new.store) (g.S.Store.rows c.copy_slots.new.store)
    (λ x limit. c.in-Err-copy_slots.ensures.copied x (limit ∙ sym c.in-Ok-born_sized.ensures.limit)) s cells

pub copy_deep-returns-in-Ok-copy_slots-clause-copied : goal.copy_deep-returns-in-Ok-copy_slots-clause-copied
copy_deep-returns-in-Ok-copy_slots-clause-copied g t c s cells =
    slots_come c.args.types.now c.args.layouts.now c.requires.layouts c.requires.ordered (g.S.Store.limit c.args.store.now) c.args.depth c.args.object (g.S.Store.content c.args.store.now) (g.S.Store.rows c.args.store.now) c.requires.can
    c.in-Ok.shape (sym c.shape.ensures.shape ∙ c.in-Ok.is) c.owners_of-owners.result.now c.owners_of-owners.ensures c.width_of-width.result c.width_of-width.ensures
    c.in-Ok-born_sized.ensures.room c.in-Ok-born_sized.copy c.in-Ok-born_sized.ensures.number (g.S.Store.content c.born_sized.new.store) (g.S.Store.rows c.born_sized.new.store) (c.in-Ok-born_sized.ensures.shows (kinds_of c.args.types.now) c.requires.can.housed) c.in-Ok-born_sized.ensures.placed c.in-Ok-born_sized.ensures.later (g.S.Store.content c.copy_slots.new.store) (g.S.Store.rows c.copy_slots.new.store)
    (λ x limit. c.in-Ok-copy_slots.ensures.copied x (limit ∙ sym c.in-Ok-born_sized.ensures.limit)) c.in-Ok-copy_slots.ensures.later s cells

pub copy_deep-returns-in-Ok-copy_slots-clause-rowed : goal.copy_deep-returns-in-Ok-copy_slots-clause-rowed
copy_deep-returns-in-Ok-copy_slots-clause-rowed g t c rowed = c.in-Ok-copy_slots.ensures.rowed (c.in-Ok-born_sized.ensures.rowed (kinds_of c.args.types.now) rowed)

-- ---- its slots

pub copy_slots-loop-slot-init : goal.copy_slots-loop-slot-init
copy_slots-loop-slot-init g t c = record {
  limit = refl;
  rowed = λ rowed. rowed;
  progress = λ laid ordered. slots_begin c.args.types.now c.args.layouts.now laid ordered (g.S.Store.limit c.args.store.now) c.args.depth c.args.from c.args.to c.args.length c.args.width c.args.owners.now (g.S.Store.content c.args.store.now) (g.S.Store.rows c.args.store.now) c.requires.can;
}

pub copy_slots-copy_words-requires : goal.copy_slots-copy_words-requires
copy_slots-copy_words-requires g t c = record {
  can =
      words_can c.args.types.now c.args.layouts.now c.requires.layouts c.requires.ordered (g.S.Store.limit c.args.store.now) c.args.depth c.args.from c.args.to c.args.length c.args.width c.args.owners.now (g.S.Store.content c.args.store.now) (g.S.Store.rows c.args.store.now) (g.S.Store.content c.loop-slot.store) (g.S.Store.rows c.loop-slot.store) c.loop-slot.slot
      (c.loop-slot.invariant.progress c.requires.layouts c.requires.ordered) c.loop-slot-test.true c.ranges.width.fits;
}

pub copy_slots-recopy-requires : goal.copy_slots-recopy-requires
copy_slots-recopy-requires g t c κs within =
    let can = recopy_can c.args.types.now c.args.layouts.now c.requires.layouts c.requires.ordered (g.S.Store.limit c.args.store.now) c.args.depth c.args.from c.args.to c.args.length c.args.width c.args.owners.now (g.S.Store.content c.args.store.now) (g.S.Store.rows c.args.store.now) (g.S.Store.content c.loop-slot.store) (g.S.Store.rows c.loop-slot.store) c.loop-slot.slot
    (c.loop-slot.invariant.progress c.requires.layouts c.requires.ordered) c.loop-slot-test.true
    (g.S.Store.content c.copy_words.new.store) (g.S.Store.rows c.copy_words.new.store) c.copy_words.ensures.shows c.copy_words.ensures.later in (
      omega (arith, c.decreases),
      (
        within,
        (
          c.requires.layouts,
          (
            c.requires.ordered,
            subst (λ k. CanRecopy (kinds_of c.args.types.now) (forest_kinds c.args.types.now) k c.args.depth c.args.to c.loop-slot.slot c.args.owners.now (g.S.Store.content c.copy_words.new.store) (g.S.Store.rows c.copy_words.new.store)) (sym (c.copy_words.ensures.limit ∙ c.loop-slot.invariant.limit)) can,
          ),
        ),
      ),
    )

pub copy_slots-returns-in-Err-clause-copied : goal.copy_slots-returns-in-Err-clause-copied
copy_slots-returns-in-Err-clause-copied g t c s cells =
    slot_fails c.args.types.now c.args.layouts.now c.requires.layouts c.requires.ordered (g.S.Store.limit c.args.store.now) c.args.depth c.args.from c.args.to c.args.length c.args.width c.args.owners.now (g.S.Store.content c.args.store.now) (g.S.Store.rows c.args.store.now) (g.S.Store.content c.loop-slot.store) (g.S.Store.rows c.loop-slot.store) c.loop-slot.slot
    (c.loop-slot.invariant.progress c.requires.layouts c.requires.ordered) c.loop-slot-test.true
    (g.S.Store.content c.copy_words.new.store) (g.S.Store.rows c.copy_words.new.store) c.copy_words.ensures.shows c.copy_words.ensures.later c.in-Err.fault (g.S.Store.content c.recopy.new.store) (g.S.Store.rows c.recopy.new.store)
    (λ x limit. c.in-Err.ensures.copied x (limit ∙ sym (c.copy_words.ensures.limit ∙ c.loop-slot.invariant.limit))) s cells

pub copy_slots-returns-in-Err-clause-limit : goal.copy_slots-returns-in-Err-clause-limit
copy_slots-returns-in-Err-clause-limit g t c = c.in-Err.ensures.limit ∙ c.copy_words.ensures.limit ∙ c.loop-slot.invariant.limit

pub copy_slots-loop-slot-preserved : goal.copy_slots-loop-slot-preserved
copy_slots-loop-slot-preserved g t c = record {
  limit = c.in-Ok.ensures.limit ∙ c.copy_words.ensures.limit ∙ c.loop-slot.invariant.limit;
  rowed = λ rowed.
      let progress = c.loop-slot.invariant.progress c.requires.layouts c.requires.ordered in
      let can = progress.can in
      c.in-Ok.ensures.rowed
      (c.copy_words.ensures.rowed can.target can.target_there (can.good.good c.args.to.birth can.target can.target_there).long
      (words_uncut c.args.types.now c.args.layouts.now c.requires.layouts c.requires.ordered (g.S.Store.limit c.args.store.now) c.args.depth c.args.from c.args.to c.args.length c.args.width c.args.owners.now (g.S.Store.content c.args.store.now) (g.S.Store.rows c.args.store.now) (g.S.Store.content c.loop-slot.store) (g.S.Store.rows c.loop-slot.store) c.loop-slot.slot progress c.loop-slot-test.true)
      (c.loop-slot.invariant.rowed rowed));
  progress = λ laid ordered.
      slots_next c.args.types.now c.args.layouts.now laid ordered (g.S.Store.limit c.args.store.now) c.args.depth c.args.from c.args.to c.args.length c.args.width c.args.owners.now (g.S.Store.content c.args.store.now) (g.S.Store.rows c.args.store.now) (g.S.Store.content c.loop-slot.store) (g.S.Store.rows c.loop-slot.store) c.loop-slot.slot
      (c.loop-slot.invariant.progress laid ordered) c.loop-slot-test.true
      (g.S.Store.content c.copy_words.new.store) (g.S.Store.rows c.copy_words.new.store) c.copy_words.ensures.shows c.copy_words.ensures.later (g.S.Store.content c.recopy.new.store) (g.S.Store.rows c.recopy.new.store)
      (λ x limit. c.in-Ok.ensures.copied x (limit ∙ sym (c.copy_words.ensures.limit ∙ c.loop-slot.invariant.limit))) c.in-Ok.ensures.later;
}

pub copy_slots-returns-clause-copied : goal.copy_slots-returns-clause-copied
copy_slots-returns-clause-copied g t c s cells =
    let past = c.loop-slot-test.false in
    slots_end c.args.types.now c.args.layouts.now c.requires.layouts c.requires.ordered (g.S.Store.limit c.args.store.now) c.args.depth c.args.from c.args.to c.args.length c.args.width c.args.owners.now (g.S.Store.content c.args.store.now) (g.S.Store.rows c.args.store.now) (g.S.Store.content c.loop-slot.store) (g.S.Store.rows c.loop-slot.store) c.loop-slot.slot
    (c.loop-slot.invariant.progress c.requires.layouts c.requires.ordered) (omega (arith, past)) s cells

pub copy_slots-returns-clause-later : goal.copy_slots-returns-clause-later
copy_slots-returns-clause-later g t c = (c.loop-slot.invariant.progress c.requires.layouts c.requires.ordered).later

pub copy_slots-returns-clause-limit : goal.copy_slots-returns-clause-limit
copy_slots-returns-clause-limit g t c = c.loop-slot.invariant.limit

pub copy_slots-returns-clause-rowed : goal.copy_slots-returns-clause-rowed
copy_slots-returns-clause-rowed g t c = c.loop-slot.invariant.rowed

-- ---- words that own

pub recopy-loop-word-init : goal.recopy-loop-word-init
recopy-loop-word-init g t c = record {
  limit = refl;
  rowed = λ rowed. rowed;
  progress = λ laid ordered. words_begin c.args.types.now c.args.layouts.now laid ordered (g.S.Store.limit c.args.store.now) c.args.depth c.args.object c.args.slot c.args.owners.now (g.S.Store.content c.args.store.now) (g.S.Store.rows c.args.store.now) c.requires.can;
}

pub recopy-owned-requires : goal.recopy-owned-requires
recopy-owned-requires g t c =
    word_there c.args.types.now c.args.layouts.now c.requires.layouts c.requires.ordered (g.S.Store.limit c.args.store.now) c.args.depth c.args.object c.args.slot c.args.owners.now (g.S.Store.content c.args.store.now) (g.S.Store.rows c.args.store.now) (g.S.Store.content c.loop-word.store) (g.S.Store.rows c.loop-word.store) c.loop-word.word-index
    (c.loop-word.invariant.progress c.requires.layouts c.requires.ordered) _ (slice_get-get_or c.args.owners.now c.loop-word.word-index 0 c.loop-word-test.true)

pub recopy-returns-in-None-clause-copied : goal.recopy-returns-in-None-clause-copied
recopy-returns-in-None-clause-copied g t c s cells =
    none_comes c.args.types.now c.args.layouts.now c.requires.layouts c.requires.ordered (g.S.Store.limit c.args.store.now) c.args.depth c.args.object c.args.slot c.args.owners.now (g.S.Store.content c.args.store.now) (g.S.Store.rows c.args.store.now) (g.S.Store.content c.loop-word.store) (g.S.Store.rows c.loop-word.store) c.loop-word.word-index
    (c.loop-word.invariant.progress c.requires.layouts c.requires.ordered) _ (slice_get-get_or c.args.owners.now c.loop-word.word-index 0 c.loop-word-test.true)
    _ c.in-None.ensures refl (g.S.Store.content c.loop-word.store) (g.S.Store.rows c.loop-word.store) s cells

pub recopy-returns-in-None-clause-limit : goal.recopy-returns-in-None-clause-limit
recopy-returns-in-None-clause-limit g t c = c.loop-word.invariant.limit

pub recopy-copy_deep-requires : goal.recopy-copy_deep-requires
recopy-copy_deep-requires g t c κs within =
    let can = copy_can c.args.types.now c.args.layouts.now c.requires.layouts c.requires.ordered (g.S.Store.limit c.args.store.now) c.args.depth c.args.object c.args.slot c.args.owners.now (g.S.Store.content c.args.store.now) (g.S.Store.rows c.args.store.now) (g.S.Store.content c.loop-word.store) (g.S.Store.rows c.loop-word.store) c.loop-word.word-index
    (c.loop-word.invariant.progress c.requires.layouts c.requires.ordered) _ (slice_get-get_or c.args.owners.now c.loop-word.word-index 0 c.loop-word-test.true)
    _ c.in-Some.ensures c.in-Some.held refl in (
      omega (arith, c.decreases),
      (
        within,
        (
          c.requires.layouts,
          (
            c.requires.ordered,
            subst (λ k. CanCopy (kinds_of c.args.types.now) (forest_kinds c.args.types.now) k c.args.depth c.in-Some.held (g.S.Store.content c.loop-word.store) (g.S.Store.rows c.loop-word.store)) (sym c.loop-word.invariant.limit) can,
          ),
        ),
      ),
    )

pub recopy-returns-in-Err-clause-copied : goal.recopy-returns-in-Err-clause-copied
recopy-returns-in-Err-clause-copied g t c s cells =
    copy_fails c.args.types.now c.args.layouts.now c.requires.layouts c.requires.ordered (g.S.Store.limit c.args.store.now) c.args.depth c.args.object c.args.slot c.args.owners.now (g.S.Store.content c.args.store.now) (g.S.Store.rows c.args.store.now) (g.S.Store.content c.loop-word.store) (g.S.Store.rows c.loop-word.store) c.loop-word.word-index
    (c.loop-word.invariant.progress c.requires.layouts c.requires.ordered) _ (slice_get-get_or c.args.owners.now c.loop-word.word-index 0 c.loop-word-test.true)
    _ c.in-Some.ensures c.in-Some.held refl c.in-Err.fault (g.S.Store.content c.copy_deep.new.store) (g.S.Store.rows c.copy_deep.new.store) (λ x limit. c.in-Err.ensures.copied x (limit ∙ sym c.loop-word.invariant.limit)) s cells

pub recopy-returns-in-Err-clause-limit : goal.recopy-returns-in-Err-clause-limit
recopy-returns-in-Err-clause-limit g t c = c.in-Err.ensures.limit ∙ c.loop-word.invariant.limit

pub recopy-own-requires-clause-has : goal.recopy-own-requires-clause-has
recopy-own-requires-clause-has g t c =
    can_own c.args.types.now c.args.layouts.now c.requires.layouts c.requires.ordered (g.S.Store.limit c.args.store.now) c.args.depth c.args.object c.args.slot c.args.owners.now (g.S.Store.content c.args.store.now) (g.S.Store.rows c.args.store.now) (g.S.Store.content c.loop-word.store) (g.S.Store.rows c.loop-word.store) c.loop-word.word-index
    (c.loop-word.invariant.progress c.requires.layouts c.requires.ordered) _ (slice_get-get_or c.args.owners.now c.loop-word.word-index 0 c.loop-word-test.true)
    _ c.in-Some.ensures c.in-Some.held refl c.in-Ok.copy (g.S.Store.content c.copy_deep.new.store) (g.S.Store.rows c.copy_deep.new.store) (λ x limit. c.in-Ok.ensures.copied x (limit ∙ sym c.loop-word.invariant.limit)) c.in-Ok.ensures.later

pub recopy-own-requires-clause-lives : goal.recopy-own-requires-clause-lives
recopy-own-requires-clause-lives g t c =
    copy_placed c.args.types.now c.args.layouts.now c.requires.layouts c.requires.ordered (g.S.Store.limit c.args.store.now) c.args.depth c.args.object c.args.slot c.args.owners.now (g.S.Store.content c.args.store.now) (g.S.Store.rows c.args.store.now) (g.S.Store.content c.loop-word.store) (g.S.Store.rows c.loop-word.store) c.loop-word.word-index
    (c.loop-word.invariant.progress c.requires.layouts c.requires.ordered) _ (slice_get-get_or c.args.owners.now c.loop-word.word-index 0 c.loop-word-test.true)
    _ c.in-Some.ensures c.in-Some.held refl c.in-Ok.copy (g.S.Store.content c.copy_deep.new.store) (g.S.Store.rows c.copy_deep.new.store) (λ x limit. c.in-Ok.ensures.copied x (limit ∙ sym c.loop-word.invariant.limit)) c.in-Ok.ensures.later

pub recopy-loop-word-preserved : goal.recopy-loop-word-preserved
recopy-loop-word-preserved g t c = record {
  limit = c.own.ensures.limit ∙ c.in-Ok.ensures.limit ∙ c.loop-word.invariant.limit;
  rowed = λ rowed.
      own_keeps c.args.types.now c.args.layouts.now c.requires.layouts c.requires.ordered (g.S.Store.limit c.args.store.now) c.args.depth c.args.object c.args.slot c.args.owners.now (g.S.Store.content c.args.store.now) (g.S.Store.rows c.args.store.now) (g.S.Store.content c.loop-word.store) (g.S.Store.rows c.loop-word.store) c.loop-word.word-index
      (c.loop-word.invariant.progress c.requires.layouts c.requires.ordered) _ (slice_get-get_or c.args.owners.now c.loop-word.word-index 0 c.loop-word-test.true)
      _ c.in-Some.ensures c.in-Some.held refl c.in-Ok.copy (g.S.Store.content c.copy_deep.new.store) (g.S.Store.rows c.copy_deep.new.store) (λ x limit. c.in-Ok.ensures.copied x (limit ∙ sym c.loop-word.invariant.limit)) c.in-Ok.ensures.later
      (g.S.Store.content c.own.new.store) (g.S.Store.rows c.own.new.store) c.own.ensures.rowed (c.in-Ok.ensures.rowed (c.loop-word.invariant.rowed rowed));
  progress = λ laid ordered.
      words_next c.args.types.now c.args.layouts.now laid ordered (g.S.Store.limit c.args.store.now) c.args.depth c.args.object c.args.slot c.args.owners.now (g.S.Store.content c.args.store.now) (g.S.Store.rows c.args.store.now) (g.S.Store.content c.loop-word.store) (g.S.Store.rows c.loop-word.store) c.loop-word.word-index
      (c.loop-word.invariant.progress laid ordered) _ (slice_get-get_or c.args.owners.now c.loop-word.word-index 0 c.loop-word-test.true)
      _ c.in-Some.ensures c.in-Some.held refl c.in-Ok.copy (g.S.Store.content c.copy_deep.new.store) (g.S.Store.rows c.copy_deep.new.store) (λ x limit. c.in-Ok.ensures.copied x (limit ∙ sym c.loop-word.invariant.limit)) c.in-Ok.ensures.later
      (g.S.Store.content c.own.new.store) (g.S.Store.rows c.own.new.store) c.own.ensures.shows c.own.ensures.rows;
}

pub recopy-returns-clause-copied : goal.recopy-returns-clause-copied
recopy-returns-clause-copied g t c s cells =
    let past = c.loop-word-test.false in
    words_end c.args.types.now c.args.layouts.now c.requires.layouts c.requires.ordered (g.S.Store.limit c.args.store.now) c.args.depth c.args.object c.args.slot c.args.owners.now (g.S.Store.content c.args.store.now) (g.S.Store.rows c.args.store.now) (g.S.Store.content c.loop-word.store) (g.S.Store.rows c.loop-word.store) c.loop-word.word-index
    (c.loop-word.invariant.progress c.requires.layouts c.requires.ordered) (omega (arith, past)) s cells

pub recopy-returns-clause-later : goal.recopy-returns-clause-later
recopy-returns-clause-later g t c = (c.loop-word.invariant.progress c.requires.layouts c.requires.ordered).later

pub recopy-returns-clause-limit : goal.recopy-returns-clause-limit
recopy-returns-clause-limit g t c = c.loop-word.invariant.limit

pub recopy-returns-clause-rowed : goal.recopy-returns-clause-rowed
recopy-returns-clause-rowed g t c = c.loop-word.invariant.rowed
