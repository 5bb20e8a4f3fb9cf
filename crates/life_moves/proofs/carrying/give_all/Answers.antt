use Rattle.std.proofs.Common.{◌-◌, refl, ◌∙◌, arith}
use Rattle.std.proofs.lemmas.Option.{slice_get-get_or}
use Rattle.life_moves.proofs.GivingOwners.{copy_lives, own_keeps, progress_begin, progress_end, progress_next, word_small, word_there}
use Rattle.life_moves.proofs.carrying.give_all.Goals as goal

pub loop-left-init : goal.loop-left-init
loop-left-init g c = record {
  within = omega arith;
  count = c.requires.can.count;
  limit = refl;
  rowed = λ rowed. rowed;
  progress = λ can. progress_begin c.args.types.now c.args.to c.args.owners.now c.args.copies.now (g.S.Store.content c.args.store.now) (g.S.Store.rows c.args.store.now) can;
}

pub bounds-owners-left : goal.bounds-owners-left
bounds-owners-left g c =
    let some = c.loop-left-test.true in
    let within = c.loop-left.invariant.within in
    omega (arith, some, within)

pub bounds-copies-left : goal.bounds-copies-left
bounds-copies-left g c =
    let some = c.loop-left-test.true in
    let within = c.loop-left.invariant.within in
    let count = c.loop-left.invariant.count in
    omega (arith, some, within, count)

pub overflow_add-word : goal.overflow_add-word
overflow_add-word g c =
    let small = word_small c.args.types.now c.args.to c.args.owners.now c.args.copies.now (g.S.Store.content c.args.store.now) (g.S.Store.rows c.args.store.now) c.requires.can
    (g.S.Store.content c.loop-left.store) (g.S.Store.rows c.loop-left.store) c.loop-left.left (c.loop-left.invariant.progress c.requires.can)
    (c.loop-left.left - 1) _ _ (let some = c.loop-left-test.true in omega (arith, some))
    (slice_get-get_or c.args.owners.now (c.loop-left.left - 1) 0 (let some = c.loop-left-test.true in let within = c.loop-left.invariant.within in omega (arith, some, within)))
    (slice_get-get_or c.args.copies.now (c.loop-left.left - 1) (record { row = 0; birth = 0 }) (let some = c.loop-left-test.true in let within = c.loop-left.invariant.within in let count = c.loop-left.invariant.count in omega (arith, some, within, count))) in
    omega (arith, small)

pub own-requires-clause-has : goal.own-requires-clause-has
own-requires-clause-has g c =
    word_there c.args.types.now c.args.to c.args.owners.now c.args.copies.now (g.S.Store.content c.args.store.now) (g.S.Store.rows c.args.store.now) c.requires.can
    (g.S.Store.content c.loop-left.store) (g.S.Store.rows c.loop-left.store) c.loop-left.left (c.loop-left.invariant.progress c.requires.can)
    (c.loop-left.left - 1) _ _ (let some = c.loop-left-test.true in omega (arith, some))
    (slice_get-get_or c.args.owners.now (c.loop-left.left - 1) 0 (let some = c.loop-left-test.true in let within = c.loop-left.invariant.within in omega (arith, some, within)))
    (slice_get-get_or c.args.copies.now (c.loop-left.left - 1) (record { row = 0; birth = 0 }) (let some = c.loop-left-test.true in let within = c.loop-left.invariant.within in let count = c.loop-left.invariant.count in omega (arith, some, within, count)))

pub own-requires-clause-lives : goal.own-requires-clause-lives
own-requires-clause-lives g c =
    copy_lives c.args.types.now c.args.to c.args.owners.now c.args.copies.now (g.S.Store.content c.args.store.now) (g.S.Store.rows c.args.store.now) c.requires.can
    (g.S.Store.content c.loop-left.store) (g.S.Store.rows c.loop-left.store) c.loop-left.left (c.loop-left.invariant.progress c.requires.can)
    (c.loop-left.left - 1) _ _ (let some = c.loop-left-test.true in omega (arith, some))
    (slice_get-get_or c.args.owners.now (c.loop-left.left - 1) 0 (let some = c.loop-left-test.true in let within = c.loop-left.invariant.within in omega (arith, some, within)))
    (slice_get-get_or c.args.copies.now (c.loop-left.left - 1) (record { row = 0; birth = 0 }) (let some = c.loop-left-test.true in let within = c.loop-left.invariant.within in let count = c.loop-left.invariant.count in omega (arith, some, within, count)))

pub loop-left-preserved : goal.loop-left-preserved
loop-left-preserved g c = record {
  within = let within = c.loop-left.invariant.within in omega (arith, within);
  count = c.loop-left.invariant.count;
  limit = c.own.ensures.limit ∙ c.loop-left.invariant.limit;
  rowed = λ rowed.
      own_keeps c.args.types.now c.args.to c.args.owners.now c.args.copies.now (g.S.Store.content c.args.store.now) (g.S.Store.rows c.args.store.now) c.requires.can
      (g.S.Store.content c.loop-left.store) (g.S.Store.rows c.loop-left.store) c.loop-left.left (c.loop-left.invariant.progress c.requires.can)
      (c.loop-left.left - 1) _ _ (let some = c.loop-left-test.true in omega (arith, some))
      (slice_get-get_or c.args.owners.now (c.loop-left.left - 1) 0 (let some = c.loop-left-test.true in let within = c.loop-left.invariant.within in omega (arith, some, within)))
      (slice_get-get_or c.args.copies.now (c.loop-left.left - 1) (record { row = 0; birth = 0 }) (let some = c.loop-left-test.true in let within = c.loop-left.invariant.within in let count = c.loop-left.invariant.count in omega (arith, some, within, count)))
      (g.S.Store.content c.own.new.store) (g.S.Store.rows c.own.new.store) c.own.ensures.rowed (c.loop-left.invariant.rowed rowed);
  progress = λ can.
      progress_next c.args.types.now c.args.to c.args.owners.now c.args.copies.now (g.S.Store.content c.args.store.now) (g.S.Store.rows c.args.store.now) can
      (g.S.Store.content c.loop-left.store) (g.S.Store.rows c.loop-left.store) c.loop-left.left (c.loop-left.invariant.progress can)
      (c.loop-left.left - 1) _ _ (let some = c.loop-left-test.true in omega (arith, some))
      (slice_get-get_or c.args.owners.now (c.loop-left.left - 1) 0 (let some = c.loop-left-test.true in let within = c.loop-left.invariant.within in omega (arith, some, within)))
      (slice_get-get_or c.args.copies.now (c.loop-left.left - 1) (record { row = 0; birth = 0 }) (let some = c.loop-left-test.true in let within = c.loop-left.invariant.within in let count = c.loop-left.invariant.count in omega (arith, some, within, count)))
      (g.S.Store.content c.own.new.store) (g.S.Store.rows c.own.new.store) c.own.ensures.shows c.own.ensures.rows;
}

pub returns-clause-given : goal.returns-clause-given
returns-clause-given g c =
    let past = c.loop-left-test.false in
    progress_end c.args.types.now c.args.to c.args.owners.now c.args.copies.now (g.S.Store.content c.args.store.now) (g.S.Store.rows c.args.store.now) c.requires.can
    (g.S.Store.content c.loop-left.store) (g.S.Store.rows c.loop-left.store) c.loop-left.left (c.loop-left.invariant.progress c.requires.can) (omega (arith, past))

pub returns-clause-later : goal.returns-clause-later
returns-clause-later g c = (c.loop-left.invariant.progress c.requires.can).later

pub returns-clause-rowed : goal.returns-clause-rowed
returns-clause-rowed g c = c.loop-left.invariant.rowed

pub returns-clause-limit : goal.returns-clause-limit
returns-clause-limit g c = c.loop-left.invariant.limit
