use Rattle.std.proofs.Common.{refl, arith, ◌∙◌}
use Rattle.std.proofs.lemmas.Option.{slice_get-get_or}
use Rattle.life_seen.specs.Kinds.{kinds_of}
use Rattle.life_values.proofs.Disowned.{progress_begin, progress_end, progress_next, word_small, word_there}
use Rattle.life_values.proofs.StillRowed.{owner_keeps}
use Rattle.life_values.proofs.moving.disown.Goals as goal

pub loop-owner-init : goal.loop-owner-init
loop-owner-init g c = record {
  limit = refl;
  rows = refl;
  rowed = λ rowed. rowed;
  progress = progress_begin (kinds_of c.args.types.now) c.args.spot c.args.owners.now (g.S.Store.content c.args.store.now) (g.S.Store.rows c.args.store.now) c.requires.can;
}

pub overflow_add-spot : goal.overflow_add-spot
overflow_add-spot g c =
    let small = word_small (kinds_of c.args.types.now) c.args.spot c.args.owners.now (g.S.Store.content c.args.store.now) (g.S.Store.rows c.args.store.now) (g.S.Store.content c.loop-owner.store) (g.S.Store.rows c.loop-owner.store) c.loop-owner.owner-index
    c.loop-owner.invariant.progress _ (slice_get-get_or c.args.owners.now c.loop-owner.owner-index 0 c.loop-owner-test.true) in
    omega (arith, small)

pub take_owned-requires : goal.take_owned-requires
take_owned-requires g c =
    word_there (kinds_of c.args.types.now) c.args.spot c.args.owners.now (g.S.Store.content c.args.store.now) (g.S.Store.rows c.args.store.now) (g.S.Store.content c.loop-owner.store) (g.S.Store.rows c.loop-owner.store) c.loop-owner.owner-index
    c.loop-owner.invariant.progress _ (slice_get-get_or c.args.owners.now c.loop-owner.owner-index 0 c.loop-owner-test.true)

pub loop-owner-preserved : goal.loop-owner-preserved
loop-owner-preserved g c = record {
  limit = c.take_owned.ensures.limit ∙ c.loop-owner.invariant.limit;
  rows = c.take_owned.ensures.rows ∙ c.loop-owner.invariant.rows;
  rowed = λ rowed.
      let can = c.loop-owner.invariant.progress.can in
      owner_keeps c.args.types.now (g.S.Store.content c.loop-owner.store) (g.S.Store.rows c.loop-owner.store) c.args.spot.object can.object can.housed can.placed can.there _
      (can.own c.loop-owner.owner-index _ (slice_get-get_or c.args.owners.now c.loop-owner.owner-index 0 c.loop-owner-test.true)).0
      (g.S.Store.content c.take_owned.new.store) (g.S.Store.rows c.take_owned.new.store) c.take_owned.ensures.rowed (c.loop-owner.invariant.rowed rowed);
  progress =
      progress_next (kinds_of c.args.types.now) c.args.spot c.args.owners.now (g.S.Store.content c.args.store.now) (g.S.Store.rows c.args.store.now) (g.S.Store.content c.loop-owner.store) (g.S.Store.rows c.loop-owner.store) c.loop-owner.owner-index
      c.loop-owner.invariant.progress _ (slice_get-get_or c.args.owners.now c.loop-owner.owner-index 0 c.loop-owner-test.true)
      (g.S.Store.content c.take_owned.new.store) (g.S.Store.rows c.take_owned.new.store) c.take_owned.ensures.shows c.take_owned.ensures.rows;
}

pub returns-clause-disowned : goal.returns-clause-disowned
returns-clause-disowned g c =
    let past = c.loop-owner-test.false in
    progress_end (kinds_of c.args.types.now) c.args.spot c.args.owners.now (g.S.Store.content c.args.store.now) (g.S.Store.rows c.args.store.now) (g.S.Store.content c.loop-owner.store) (g.S.Store.rows c.loop-owner.store) c.loop-owner.owner-index
    c.loop-owner.invariant.progress (omega (arith, past))

pub returns-clause-later : goal.returns-clause-later
returns-clause-later g c = c.loop-owner.invariant.progress.later
