use Rattle.std.proofs.Common.{◌+◌, length, refl, sym, ap, subst, ◌∙◌, arith}
use Rattle.std.proofs.lemmas.Option.{slice_get-get_or}
use Rattle.std.specs.Prelude.{slice_get}
use Rattle.life_forest.specs.Kinds.{kinds_of as forest_kinds}
use Rattle.life_seen.specs.Kinds.{kinds_of}
use Rattle.life_seen.specs.Seen.{seen}
use Rattle.life_values.specs.Copied.{CanCopy}
use Rattle.life_moves.proofs.CopyingOwned.{copy_can, copy_fails, fits, none_comes, progress_begin, progress_end, progress_next, word_there, Progress}
use Rattle.life_moves.proofs.carrying.copies_of.Goals as goal

pub loop-word-init : goal.loop-word-init
loop-word-init g c = record {
  limit = refl;
  rowed = λ rowed. rowed;
  progress = λ ordered laid can.
      subst (λ xs. Progress c.args.types.now ordered c.args.layouts.now laid (g.S.Store.limit c.args.store.now) c.args.depth c.args.ty c.args.from (g.S.Store.content c.args.store.now) (g.S.Store.rows c.args.store.now) can (g.S.Store.content c.args.store.now) (g.S.Store.rows c.args.store.now) xs 0) (sym c.new-copies.ensures.items)
      (progress_begin c.args.types.now ordered c.args.layouts.now laid (g.S.Store.limit c.args.store.now) c.args.depth c.args.ty c.args.from (g.S.Store.content c.args.store.now) (g.S.Store.rows c.args.store.now) can);
}

pub overflow_add-from : goal.overflow_add-from
overflow_add-from g c =
    let small = fits c.args.types.now c.requires.ordered c.args.layouts.now c.requires.layouts (g.S.Store.limit c.args.store.now) c.args.depth c.args.ty c.args.from (g.S.Store.content c.args.store.now) (g.S.Store.rows c.args.store.now) c.requires.can
    (g.S.Store.content c.loop-word.store) (g.S.Store.rows c.loop-word.store) c.loop-word.copies.items c.loop-word.word-index (c.loop-word.invariant.progress c.requires.ordered c.requires.layouts c.requires.can)
    _ (ap (λ us. slice_get us c.loop-word.word-index) (sym c.owners_of-owners.ensures) ∙ slice_get-get_or c.owners_of-owners.result.now c.loop-word.word-index 0 c.loop-word-test.true) in
    omega (arith, small)

pub owned-requires : goal.owned-requires
owned-requires g c =
    word_there c.args.types.now c.requires.ordered c.args.layouts.now c.requires.layouts (g.S.Store.limit c.args.store.now) c.args.depth c.args.ty c.args.from (g.S.Store.content c.args.store.now) (g.S.Store.rows c.args.store.now) c.requires.can
    (g.S.Store.content c.loop-word.store) (g.S.Store.rows c.loop-word.store) c.loop-word.copies.items c.loop-word.word-index (c.loop-word.invariant.progress c.requires.ordered c.requires.layouts c.requires.can)
    _ (ap (λ us. slice_get us c.loop-word.word-index) (sym c.owners_of-owners.ensures) ∙ slice_get-get_or c.owners_of-owners.result.now c.loop-word.word-index 0 c.loop-word-test.true)

pub returns-in-None-clause-copied : goal.returns-in-None-clause-copied
returns-in-None-clause-copied g c =
    none_comes c.args.types.now c.requires.ordered c.args.layouts.now c.requires.layouts (g.S.Store.limit c.args.store.now) c.args.depth c.args.ty c.args.from (g.S.Store.content c.args.store.now) (g.S.Store.rows c.args.store.now) c.requires.can
    (g.S.Store.content c.loop-word.store) (g.S.Store.rows c.loop-word.store) c.loop-word.copies.items c.loop-word.word-index (c.loop-word.invariant.progress c.requires.ordered c.requires.layouts c.requires.can)
    _ (ap (λ us. slice_get us c.loop-word.word-index) (sym c.owners_of-owners.ensures) ∙ slice_get-get_or c.owners_of-owners.result.now c.loop-word.word-index 0 c.loop-word-test.true)
    _ c.in-None.ensures refl (seen (kinds_of c.args.types.now) (g.S.Store.content c.loop-word.store) (g.S.Store.rows c.loop-word.store))

pub returns-in-None-clause-limit : goal.returns-in-None-clause-limit
returns-in-None-clause-limit g c = c.loop-word.invariant.limit

pub copy_deep-requires-clause-can : goal.copy_deep-requires-clause-can
copy_deep-requires-clause-can g c =
    subst (λ k. CanCopy (kinds_of c.args.types.now) (forest_kinds c.args.types.now) k c.args.depth c.in-Some.held (g.S.Store.content c.loop-word.store) (g.S.Store.rows c.loop-word.store)) (sym c.loop-word.invariant.limit)
    (copy_can c.args.types.now c.requires.ordered c.args.layouts.now c.requires.layouts (g.S.Store.limit c.args.store.now) c.args.depth c.args.ty c.args.from (g.S.Store.content c.args.store.now) (g.S.Store.rows c.args.store.now) c.requires.can
    (g.S.Store.content c.loop-word.store) (g.S.Store.rows c.loop-word.store) c.loop-word.copies.items c.loop-word.word-index (c.loop-word.invariant.progress c.requires.ordered c.requires.layouts c.requires.can)
    _ (ap (λ us. slice_get us c.loop-word.word-index) (sym c.owners_of-owners.ensures) ∙ slice_get-get_or c.owners_of-owners.result.now c.loop-word.word-index 0 c.loop-word-test.true)
    _ c.in-Some.ensures c.in-Some.held refl)

pub returns-in-Err-clause-copied : goal.returns-in-Err-clause-copied
returns-in-Err-clause-copied g c =
    copy_fails c.args.types.now c.requires.ordered c.args.layouts.now c.requires.layouts (g.S.Store.limit c.args.store.now) c.args.depth c.args.ty c.args.from (g.S.Store.content c.args.store.now) (g.S.Store.rows c.args.store.now) c.requires.can
    (g.S.Store.content c.loop-word.store) (g.S.Store.rows c.loop-word.store) c.loop-word.copies.items c.loop-word.word-index (c.loop-word.invariant.progress c.requires.ordered c.requires.layouts c.requires.can)
    _ (ap (λ us. slice_get us c.loop-word.word-index) (sym c.owners_of-owners.ensures) ∙ slice_get-get_or c.owners_of-owners.result.now c.loop-word.word-index 0 c.loop-word-test.true)
    _ c.in-Some.ensures c.in-Some.held refl c.in-Err.fault (g.S.Store.content c.copy_deep.new.store) (g.S.Store.rows c.copy_deep.new.store) (λ x limit. c.in-Err.ensures.copied x (limit ∙ sym c.loop-word.invariant.limit))
    (seen (kinds_of c.args.types.now) (g.S.Store.content c.copy_deep.new.store) (g.S.Store.rows c.copy_deep.new.store))

pub returns-in-Err-clause-limit : goal.returns-in-Err-clause-limit
returns-in-Err-clause-limit g c = c.in-Err.ensures.limit ∙ c.loop-word.invariant.limit

pub loop-word-preserved : goal.loop-word-preserved
loop-word-preserved g c = record {
  limit = c.in-Ok.ensures.limit ∙ c.loop-word.invariant.limit;
  rowed = λ rowed. c.in-Ok.ensures.rowed (c.loop-word.invariant.rowed rowed);
  progress = λ ordered laid can.
      subst (λ xs. Progress c.args.types.now ordered c.args.layouts.now laid (g.S.Store.limit c.args.store.now) c.args.depth c.args.ty c.args.from (g.S.Store.content c.args.store.now) (g.S.Store.rows c.args.store.now) can (g.S.Store.content c.copy_deep.new.store) (g.S.Store.rows c.copy_deep.new.store) xs (c.loop-word.word-index + 1)) (sym c.in-Ok-push.ensures.items)
      (progress_next c.args.types.now ordered c.args.layouts.now laid (g.S.Store.limit c.args.store.now) c.args.depth c.args.ty c.args.from (g.S.Store.content c.args.store.now) (g.S.Store.rows c.args.store.now) can
      (g.S.Store.content c.loop-word.store) (g.S.Store.rows c.loop-word.store) c.loop-word.copies.items c.loop-word.word-index (c.loop-word.invariant.progress ordered laid can)
      _ (ap (λ us. slice_get us c.loop-word.word-index) (sym c.owners_of-owners.ensures) ∙ slice_get-get_or c.owners_of-owners.result.now c.loop-word.word-index 0 c.loop-word-test.true)
      _ c.in-Some.ensures c.in-Some.held refl c.in-Ok.copy (g.S.Store.content c.copy_deep.new.store) (g.S.Store.rows c.copy_deep.new.store) (λ x limit. c.in-Ok.ensures.copied x (limit ∙ sym c.loop-word.invariant.limit)) c.in-Ok.ensures.later);
}

pub returns-clause-copied : goal.returns-clause-copied
returns-clause-copied g c =
    let past = c.loop-word-test.false in
    progress_end c.args.types.now c.requires.ordered c.args.layouts.now c.requires.layouts (g.S.Store.limit c.args.store.now) c.args.depth c.args.ty c.args.from (g.S.Store.content c.args.store.now) (g.S.Store.rows c.args.store.now) c.requires.can
    (g.S.Store.content c.loop-word.store) (g.S.Store.rows c.loop-word.store) c.loop-word.copies.items c.loop-word.word-index (c.loop-word.invariant.progress c.requires.ordered c.requires.layouts c.requires.can) (let e = ap (λ us. length us) c.owners_of-owners.ensures in omega (arith, past, e))

pub returns-clause-made : goal.returns-clause-made
returns-clause-made g c = (c.loop-word.invariant.progress c.requires.ordered c.requires.layouts c.requires.can).made

pub returns-clause-count : goal.returns-clause-count
returns-clause-count g c =
    let progress = c.loop-word.invariant.progress c.requires.ordered c.requires.layouts c.requires.can in
    let past = c.loop-word-test.false in
    let same = ap (λ us. length us) c.owners_of-owners.ensures in
    let count = progress.count in
    let within = progress.within in
    omega (arith, past, same, count, within)

pub returns-clause-later : goal.returns-clause-later
returns-clause-later g c = (c.loop-word.invariant.progress c.requires.ordered c.requires.layouts c.requires.can).later

pub returns-clause-rowed : goal.returns-clause-rowed
returns-clause-rowed g c = c.loop-word.invariant.rowed

pub returns-clause-limit : goal.returns-clause-limit
returns-clause-limit g c = c.loop-word.invariant.limit
