use Rattle.std.proofs.Common.{refl, ◌∙◌}
use Rattle.std.proofs.lemmas.Option.{slice_get-get_or}
use Rattle.life_forest.specs.Kinds.{kinds_of as forest_kinds}
use Rattle.life_seen.specs.Kinds.{kinds_of}
use Rattle.life_values.proofs.AlikeKinds.{alike_kinds}
use Rattle.life_values.proofs.Emptied.{none_next, progress_begin, some_next, then_can, word_there}
use Rattle.life_values.proofs.StillRowed.{owner_keeps}
use Rattle.life_values.proofs.value_end.end_words.Goals as goal
use Rattle.life_values.proofs.value_end.end_words.Goals.{in-Some, in_default}

pub take_owned-requires : goal.take_owned-requires
take_owned-requires g c =
    word_there (kinds_of c.args.types.now) (forest_kinds c.args.types.now) (alike_kinds c.args.types.now) c.args.depth c.args.spot c.args.owners.now (g.S.Store.content c.loop-owner.store) (g.S.Store.rows c.loop-owner.store) c.loop-owner.invariant.progress.can
    c.loop-owner.owner-index _ (slice_get-get_or c.args.owners.now c.loop-owner.owner-index 0 c.loop-owner-test.true)

pub end_deep-requires-clause-can : goal.end_deep-requires-clause-can
end_deep-requires-clause-can g c =
    let here = slice_get-get_or c.args.owners.now c.loop-owner.owner-index 0 c.loop-owner-test.true in
    then_can (kinds_of c.args.types.now) (forest_kinds c.args.types.now) (alike_kinds c.args.types.now) c.args.depth c.args.spot c.args.owners.now (g.S.Store.content c.args.store.now) (g.S.Store.rows c.args.store.now)
    (g.S.Store.content c.loop-owner.store) (g.S.Store.rows c.loop-owner.store) c.loop-owner.owner-index _ c.loop-owner.invariant.progress here _ c.in-Some.ensures.held
    (g.S.Store.content c.take_owned.new.store) (g.S.Store.rows c.take_owned.new.store) c.in-Some.ensures.shows c.in-Some.ensures.rows c.in-Some.owned refl

pub loop-owner-preserved : goal.loop-owner-preserved
loop-owner-preserved g c =
    let here = slice_get-get_or c.args.owners.now c.loop-owner.owner-index 0 c.loop-owner-test.true in
    let can = c.loop-owner.invariant.progress.can in
    elim c.match-take_owned.branch [
      | in-Some w ↦
          rw (w.store-is)
          (record {
            limit = w.end_deep.ensures.limit ∙ w.in-Some.ensures.limit ∙ c.loop-owner.invariant.limit;
            rowed = λ rowed.
                w.end_deep.ensures.rowed
                (owner_keeps c.args.types.now (g.S.Store.content c.loop-owner.store) (g.S.Store.rows c.loop-owner.store) c.args.spot.object can.object can.housed can.placed can.there _ (can.own c.loop-owner.owner-index _ here)
                (g.S.Store.content c.take_owned.new.store) (g.S.Store.rows c.take_owned.new.store) w.in-Some.ensures.rowed (c.loop-owner.invariant.rowed rowed));
            progress = some_next (kinds_of c.args.types.now) (forest_kinds c.args.types.now) (alike_kinds c.args.types.now) c.args.depth c.args.spot c.args.owners.now (g.S.Store.content c.args.store.now) (g.S.Store.rows c.args.store.now)
                (g.S.Store.content c.loop-owner.store) (g.S.Store.rows c.loop-owner.store) c.loop-owner.owner-index _ c.loop-owner.invariant.progress here _ w.in-Some.ensures.held
                (g.S.Store.content c.take_owned.new.store) (g.S.Store.rows c.take_owned.new.store) w.in-Some.ensures.shows w.in-Some.ensures.rows w.in-Some.owned refl
                (g.S.Store.content w.end_deep.new.store) (g.S.Store.rows w.end_deep.new.store) w.end_deep.ensures.ended w.end_deep.ensures.later;
          })
      | in_default w ↦
          rw (w.store-is)
          (record {
            limit = w.in_default.ensures.limit ∙ c.loop-owner.invariant.limit;
            rowed = λ rowed.
                owner_keeps c.args.types.now (g.S.Store.content c.loop-owner.store) (g.S.Store.rows c.loop-owner.store) c.args.spot.object can.object can.housed can.placed can.there _ (can.own c.loop-owner.owner-index _ here)
                (g.S.Store.content c.take_owned.new.store) (g.S.Store.rows c.take_owned.new.store) w.in_default.ensures.rowed (c.loop-owner.invariant.rowed rowed);
            progress = none_next (kinds_of c.args.types.now) (forest_kinds c.args.types.now) (alike_kinds c.args.types.now) c.args.depth c.args.spot c.args.owners.now (g.S.Store.content c.args.store.now) (g.S.Store.rows c.args.store.now)
                (g.S.Store.content c.loop-owner.store) (g.S.Store.rows c.loop-owner.store) c.loop-owner.owner-index _ c.loop-owner.invariant.progress here _ w.in_default.ensures.held
                (g.S.Store.content c.take_owned.new.store) (g.S.Store.rows c.take_owned.new.store) w.in_default.ensures.shows w.in_default.ensures.rows refl;
          })
    ]

pub loop-owner-init : goal.loop-owner-init
loop-owner-init g c = record {
  limit = refl;
  rowed = λ rowed. rowed;
  progress = progress_begin (kinds_of c.args.types.now) (forest_kinds c.args.types.now) (alike_kinds c.args.types.now) c.args.depth c.args.spot c.args.owners.now (g.S.Store.content c.args.store.now) (g.S.Store.rows c.args.store.now) c.requires.can;
}
