use Rattle.std.proofs.Common.{refl, subst, sym, ◌∙◌, arith}
use Rattle.std.proofs.lemmas.Option.{none-some, same_Some, slice_get-get_or}
use Rattle.std.proofs.lemmas.Result.{err_from_is_err_and}
use Rattle.life_seen.specs.Kinds.{kinds_of}
use Rattle.life_values.specs.Fresh.{AreBlank}
use Rattle.life_values.specs.declared.layout.Holds.TheVariants as holds
use Rattle.life_values.proofs.Filling.{filling_begin, filling_end, filling_next, filling_stops, now, word_there}
use Rattle.life_values.proofs.FreshRowed.{part_rowed, still_blank}
use Rattle.life_values.proofs.StillRowed.{are_whole}
use Rattle.life_values.proofs.fresh_value.fresh.Goals as goal

pub returns-in_err-first-clause-comes : goal.returns-in_err-first-clause-comes
returns-in_err-first-clause-comes g c s cells =
    let here = slice_get-get_or c.args.leaves.now c.loop-leaf.leaf-index (record { word = 0; holds = holds.Raw }) c.loop-leaf-test.true in
    let f = c.loop-leaf.invariant.filling in
    let e = err_from_is_err_and c.from_residual.result c.from_residual.ensures.1 in
    rw (e.1, e.2)
    (filling_stops (kinds_of c.args.types.now) c.args.types.now c.args.form (g.S.Store.limit c.args.store.now) c.args.spot c.args.leaves.now (g.S.Store.content c.args.store.now) (g.S.Store.rows c.args.store.now)
    (g.S.Store.content c.loop-leaf.store) (g.S.Store.rows c.loop-leaf.store) c.loop-leaf.leaf-index f _ here c.in_err-first.field-0.0 (g.S.Store.content c.first_word.new.store) (g.S.Store.rows c.first_word.new.store)
    (λ t limit. c.in_err-first.ensures.first (kinds_of c.args.types.now) t c.args.form f.can.housed (limit ∙ sym c.loop-leaf.invariant.limit) c.raw_word-raw.ensures) s cells)

pub overflow_add-spot : goal.overflow_add-spot
overflow_add-spot g c =
    let here = slice_get-get_or c.args.leaves.now c.loop-leaf.leaf-index (record { word = 0; holds = holds.Raw }) c.loop-leaf-test.true in
    let small = c.loop-leaf.invariant.filling.can.small c.loop-leaf.leaf-index _ here in
    omega (arith, small)

pub put-requires : goal.put-requires
put-requires g c =
    let here = slice_get-get_or c.args.leaves.now c.loop-leaf.leaf-index (record { word = 0; holds = holds.Raw }) c.loop-leaf-test.true in
    let f = c.loop-leaf.invariant.filling in
    word_there (kinds_of c.args.types.now) c.args.types.now c.args.form (g.S.Store.limit c.args.store.now) c.args.spot c.args.leaves.now (g.S.Store.content c.args.store.now) (g.S.Store.rows c.args.store.now)
    (g.S.Store.content c.loop-leaf.store) (g.S.Store.rows c.loop-leaf.store) c.loop-leaf.leaf-index f _ here c.in_ok-first.first (g.S.Store.content c.first_word.new.store) (g.S.Store.rows c.first_word.new.store) c.in_ok-first.ensures.later
    (λ t limit. c.in_ok-first.ensures.first (kinds_of c.args.types.now) t c.args.form f.can.housed (limit ∙ sym c.loop-leaf.invariant.limit) c.raw_word-raw.ensures)

pub unreachable-requires : goal.unreachable-requires
unreachable-requires g c =
    let here = slice_get-get_or c.args.leaves.now c.loop-leaf.leaf-index (record { word = 0; holds = holds.Raw }) c.loop-leaf-test.true in
    let f = c.loop-leaf.invariant.filling in
    let n = now (kinds_of c.args.types.now) c.args.types.now c.args.form (g.S.Store.limit c.args.store.now) c.args.spot c.args.leaves.now (g.S.Store.content c.args.store.now) (g.S.Store.rows c.args.store.now)
    (g.S.Store.content c.loop-leaf.store) (g.S.Store.rows c.loop-leaf.store) c.loop-leaf.leaf-index f _ here c.in_ok-first.first (g.S.Store.content c.first_word.new.store) (g.S.Store.rows c.first_word.new.store) c.in_ok-first.ensures.later
    (λ t limit. c.in_ok-first.ensures.first (kinds_of c.args.types.now) t c.args.form f.can.housed (limit ∙ sym c.loop-leaf.invariant.limit) c.raw_word-raw.ensures) in
    none-some n.object (sym c.in-Err.ensures.lives ∙ n.found)

pub loop-leaf-preserved : goal.loop-leaf-preserved
loop-leaf-preserved g c = record {
  limit = c.in-Ok.ensures.limit ∙ c.in_ok-first.ensures.limit ∙ c.loop-leaf.invariant.limit;
  blank = λ o there blank.
      let here = slice_get-get_or c.args.leaves.now c.loop-leaf.leaf-index (record { word = 0; holds = holds.Raw }) c.loop-leaf-test.true in
      let f = c.loop-leaf.invariant.filling in
      still_blank (kinds_of c.args.types.now) (are_whole c.args.types.now) c.args.types.now c.args.form (g.S.Store.limit c.args.store.now) c.args.spot c.args.leaves.now (g.S.Store.content c.args.store.now) (g.S.Store.rows c.args.store.now)
      (g.S.Store.content c.loop-leaf.store) (g.S.Store.rows c.loop-leaf.store) c.loop-leaf.leaf-index f _ here c.in_ok-first.first (g.S.Store.content c.first_word.new.store) (g.S.Store.rows c.first_word.new.store) c.in_ok-first.ensures.later
      (λ t limit. c.in_ok-first.ensures.first (kinds_of c.args.types.now) t c.args.form f.can.housed (limit ∙ sym c.loop-leaf.invariant.limit) c.raw_word-raw.ensures)
      (g.S.Store.content c.put.new.self) (g.S.Store.rows c.put.new.self) c.in-Ok.ensures.written c.in-Ok.ensures.rows_stay (c.loop-leaf.invariant.blank o there blank f.can.object f.can.there);
  rowed = λ o there blank rowed.
      let here = slice_get-get_or c.args.leaves.now c.loop-leaf.leaf-index (record { word = 0; holds = holds.Raw }) c.loop-leaf-test.true in
      let f = c.loop-leaf.invariant.filling in
      part_rowed (kinds_of c.args.types.now) (are_whole c.args.types.now) c.args.types.now c.args.form (g.S.Store.limit c.args.store.now) c.args.spot c.args.leaves.now (g.S.Store.content c.args.store.now) (g.S.Store.rows c.args.store.now)
      (g.S.Store.content c.loop-leaf.store) (g.S.Store.rows c.loop-leaf.store) c.loop-leaf.leaf-index f _ here c.in_ok-first.first (g.S.Store.content c.first_word.new.store) (g.S.Store.rows c.first_word.new.store) c.in_ok-first.ensures.later
      (λ t limit. c.in_ok-first.ensures.first (kinds_of c.args.types.now) t c.args.form f.can.housed (limit ∙ sym c.loop-leaf.invariant.limit) c.raw_word-raw.ensures)
      (g.S.Store.content c.put.new.self) (g.S.Store.rows c.put.new.self) c.in-Ok.ensures.written c.in-Ok.ensures.rows_stay (c.loop-leaf.invariant.blank o there blank f.can.object f.can.there)
      (c.in_ok-first.ensures.rowed (kinds_of c.args.types.now) (c.loop-leaf.invariant.rowed o there blank rowed));
  filling =
      let here = slice_get-get_or c.args.leaves.now c.loop-leaf.leaf-index (record { word = 0; holds = holds.Raw }) c.loop-leaf-test.true in
      let f = c.loop-leaf.invariant.filling in
      filling_next (kinds_of c.args.types.now) c.args.types.now c.args.form (g.S.Store.limit c.args.store.now) c.args.spot c.args.leaves.now (g.S.Store.content c.args.store.now) (g.S.Store.rows c.args.store.now)
      (g.S.Store.content c.loop-leaf.store) (g.S.Store.rows c.loop-leaf.store) c.loop-leaf.leaf-index f _ here c.in_ok-first.first (g.S.Store.content c.first_word.new.store) (g.S.Store.rows c.first_word.new.store) c.in_ok-first.ensures.later
      (λ t limit. c.in_ok-first.ensures.first (kinds_of c.args.types.now) t c.args.form f.can.housed (limit ∙ sym c.loop-leaf.invariant.limit) c.raw_word-raw.ensures)
      (g.S.Store.content c.put.new.self) (g.S.Store.rows c.put.new.self) c.in-Ok.ensures.written c.in-Ok.ensures.rows_stay c.in_ok-first.ensures.births c.in_ok-first.ensures.clock;
}

pub returns-clause-comes : goal.returns-clause-comes
returns-clause-comes g c s cells =
    let past = c.loop-leaf-test.false in
    filling_end (kinds_of c.args.types.now) c.args.types.now c.args.form (g.S.Store.limit c.args.store.now) c.args.spot c.args.leaves.now (g.S.Store.content c.args.store.now) (g.S.Store.rows c.args.store.now)
    (g.S.Store.content c.loop-leaf.store) (g.S.Store.rows c.loop-leaf.store) c.loop-leaf.leaf-index c.loop-leaf.invariant.filling (omega (arith, past)) s cells

pub loop-leaf-init : goal.loop-leaf-init
loop-leaf-init g c = record {
  limit = refl;
  blank = λ o there blank x at_x. subst (AreBlank c.args.leaves.now c.args.spot.slot c.args.spot.word) (same_Some o x (sym there ∙ at_x)) blank;
  rowed = λ o there blank rowed. rowed;
  filling = filling_begin (kinds_of c.args.types.now) c.args.types.now c.args.form (g.S.Store.limit c.args.store.now) c.args.spot c.args.leaves.now (g.S.Store.content c.args.store.now) (g.S.Store.rows c.args.store.now) c.requires.can;
}

pub returns-clause-rowed : goal.returns-clause-rowed
returns-clause-rowed g c = c.loop-leaf.invariant.rowed
