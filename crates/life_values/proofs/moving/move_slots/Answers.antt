use Rattle.std.proofs.Common.{refl, subst, sym, arith, ◌∙◌}
use Rattle.life_seen.specs.Kinds.{kinds_of}
use Rattle.life_values.specs.Moved.{AreUncut}
use Rattle.life_values.proofs.SlotsGoing.{progress_begin, progress_end, progress_next, slot_can}
use Rattle.life_values.proofs.moving.move_slots.Goals as goal

pub loop-slot-init : goal.loop-slot-init
loop-slot-init g c = record {
  limit = refl;
  rows = refl;
  rowed = λ o there uncut rowed. rowed;
  progress = progress_begin (kinds_of c.args.types.now) c.args.from c.args.to c.args.count c.args.width c.args.owners.now (g.S.Store.content c.args.store.now) (g.S.Store.rows c.args.store.now) c.requires.can;
}

pub overflow_add-source : goal.overflow_add-source
overflow_add-source g c = let small = c.requires.from_small in let less = c.loop-slot-test.true in omega (arith, small, less)

pub overflow_add-target : goal.overflow_add-target
overflow_add-target g c = let small = c.requires.to_small in let less = c.loop-slot-test.true in omega (arith, small, less)

pub move_words-requires : goal.move_words-requires
move_words-requires g c = record {
  can =
      slot_can (kinds_of c.args.types.now) c.args.from c.args.to c.args.count c.args.width c.args.owners.now (g.S.Store.content c.args.store.now) (g.S.Store.rows c.args.store.now)
      (g.S.Store.content c.loop-slot.store) (g.S.Store.rows c.loop-slot.store) c.loop-slot.slot c.loop-slot.invariant.progress c.loop-slot-test.true;
}

pub loop-slot-preserved : goal.loop-slot-preserved
loop-slot-preserved g c = record {
  limit = c.move_words.ensures.limit ∙ c.loop-slot.invariant.limit;
  rows = c.move_words.ensures.rows ∙ c.loop-slot.invariant.rows;
  rowed = λ o there uncut rowed.
      let can = c.loop-slot.invariant.progress.can in
      c.move_words.ensures.rowed can.target can.target_there can.target_long
      (subst (λ ty. AreUncut (kinds_of c.args.types.now ty) c.args.to.word c.args.width) (sym (c.loop-slot.invariant.progress.type o there)) uncut) (c.loop-slot.invariant.rowed o there uncut rowed);
  progress =
      progress_next (kinds_of c.args.types.now) c.args.from c.args.to c.args.count c.args.width c.args.owners.now (g.S.Store.content c.args.store.now) (g.S.Store.rows c.args.store.now)
      (g.S.Store.content c.loop-slot.store) (g.S.Store.rows c.loop-slot.store) c.loop-slot.slot c.loop-slot.invariant.progress c.loop-slot-test.true
      (g.S.Store.content c.move_words.new.store) (g.S.Store.rows c.move_words.new.store) c.move_words.ensures.moved c.move_words.ensures.rows c.move_words.ensures.later;
}

pub returns-clause-moved : goal.returns-clause-moved
returns-clause-moved g c =
    let past = c.loop-slot-test.false in
    progress_end (kinds_of c.args.types.now) c.args.from c.args.to c.args.count c.args.width c.args.owners.now (g.S.Store.content c.args.store.now) (g.S.Store.rows c.args.store.now)
    (g.S.Store.content c.loop-slot.store) (g.S.Store.rows c.loop-slot.store) c.loop-slot.slot c.loop-slot.invariant.progress (omega (arith, past))

pub returns-clause-later : goal.returns-clause-later
returns-clause-later g c = c.loop-slot.invariant.progress.later
