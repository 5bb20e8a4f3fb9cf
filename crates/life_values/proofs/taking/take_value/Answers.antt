use Rattle.std.proofs.Common.{refl, ◌∙◌}
use Rattle.std.proofs.lemmas.Option.{slice_get-get_or}
use Rattle.life_forest.specs.Kinds.{kinds_of as forest_kinds}
use Rattle.life_seen.specs.Kinds.{kinds_of}
use Rattle.life_values.specs.declared.layout.Holds.TheVariants as holds
use Rattle.life_values.proofs.AlikeKinds.{alike_kinds}
use Rattle.life_values.proofs.TakenLeaves.{leaf_can, leaf_count, progress_begin, progress_next}
use Rattle.life_values.proofs.taking.take_value.Goals as goal

pub take_leaf-requires-clause-housed : goal.take_leaf-requires-clause-housed
take_leaf-requires-clause-housed g c = c.loop-leaf.invariant.progress.can.housed

pub take_leaf-requires-clause-can : goal.take_leaf-requires-clause-can
take_leaf-requires-clause-can g c =
    let here = slice_get-get_or c.args.leaves.now c.loop-leaf.leaf-index (record { word = 0; holds = holds.Raw }) c.loop-leaf-test.true in
    leaf_can (kinds_of c.args.types.now) (forest_kinds c.args.types.now) (alike_kinds c.args.types.now) c.args.spot c.args.leaves.now (g.S.Store.content c.args.store.now) (g.S.Store.rows c.args.store.now)
    (g.S.Store.content c.loop-leaf.store) (g.S.Store.rows c.loop-leaf.store) c.loop-leaf.leaf-index c.loop-leaf.invariant.progress _ here

pub take_leaf-requires-clause-small : goal.take_leaf-requires-clause-small
take_leaf-requires-clause-small g c =
    let here = slice_get-get_or c.args.leaves.now c.loop-leaf.leaf-index (record { word = 0; holds = holds.Raw }) c.loop-leaf-test.true in
    c.loop-leaf.invariant.progress.can.small c.loop-leaf.leaf-index _ here

pub take_leaf-requires-clause-countable : goal.take_leaf-requires-clause-countable
take_leaf-requires-clause-countable g c =
    let here = slice_get-get_or c.args.leaves.now c.loop-leaf.leaf-index (record { word = 0; holds = holds.Raw }) c.loop-leaf-test.true in
    leaf_count (kinds_of c.args.types.now) (forest_kinds c.args.types.now) (alike_kinds c.args.types.now) c.args.spot c.args.leaves.now (g.S.Store.content c.args.store.now) (g.S.Store.rows c.args.store.now)
    (g.S.Store.content c.loop-leaf.store) (g.S.Store.rows c.loop-leaf.store) c.loop-leaf.leaf-index c.loop-leaf.invariant.progress _ here c.requires.births c.requires.clock c.loop-leaf-test.true

pub loop-leaf-preserved : goal.loop-leaf-preserved
loop-leaf-preserved g c = record {
  limit = c.take_leaf.ensures.limit ∙ c.loop-leaf.invariant.limit;
  rowed = λ rowed. c.take_leaf.ensures.rowed (c.loop-leaf.invariant.rowed rowed);
  progress =
      let here = slice_get-get_or c.args.leaves.now c.loop-leaf.leaf-index (record { word = 0; holds = holds.Raw }) c.loop-leaf-test.true in
      progress_next (kinds_of c.args.types.now) (forest_kinds c.args.types.now) (alike_kinds c.args.types.now) c.args.spot c.args.leaves.now (g.S.Store.content c.args.store.now) (g.S.Store.rows c.args.store.now)
      (g.S.Store.content c.loop-leaf.store) (g.S.Store.rows c.loop-leaf.store) c.loop-leaf.leaf-index c.loop-leaf.invariant.progress _ here (g.S.Store.content c.take_leaf.new.store) (g.S.Store.rows c.take_leaf.new.store)
      c.take_leaf.ensures.shows c.take_leaf.ensures.later;
}

pub loop-leaf-init : goal.loop-leaf-init
loop-leaf-init g c = record {
  limit = refl;
  rowed = λ rowed. rowed;
  progress = progress_begin (kinds_of c.args.types.now) (forest_kinds c.args.types.now) (alike_kinds c.args.types.now) c.args.spot c.args.leaves.now (g.S.Store.content c.args.store.now) (g.S.Store.rows c.args.store.now) c.requires.can;
}
