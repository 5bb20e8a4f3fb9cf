use Rattle.std.proofs.Common.{IfSome, refl, subst, sym, ◌∙◌, ◌≡◌, arith}
use Rattle.std.proofs.lemmas.Option.{slice_get-get_or}
use Rattle.std.specs.Prelude.{slice_index_or}
use Rattle.life_store.specs.Content.{with_object, with_word}
use Rattle.life_store.specs.References.{object_of, HasWord}
use Rattle.life_words.proofs.Writing.{has_word, lives_then, writing_begin, writing_next}
use Rattle.life_words.proofs.numbers.put_words.Goals as goal

pub loop-value-init : goal.loop-value-init
loop-value-init g c = record {
  at = omega arith;
  limit = refl;
  writing = writing_begin (g.S.Store.content c.args.store.now) (g.S.Store.rows c.args.store.now) c.args.object c.args.slot c.args.word c.args.values.now;
}

pub put-requires : goal.put-requires
put-requires g c =
    let content = g.S.Store.content c.args.store.now in
    let rows = g.S.Store.rows c.args.store.now in
    subst (λ w. IfSome (object_of (g.S.Store.content c.loop-value.store) (g.S.Store.rows c.loop-value.store) c.args.object) (HasWord c.args.slot w)) (sym c.loop-value.invariant.at)
    (has_word content rows c.args.object c.args.slot c.args.word c.args.values.now c.loop-value.value-index (g.S.Store.content c.loop-value.store) (g.S.Store.rows c.loop-value.store) c.loop-value.invariant.writing
    (object_of content rows c.args.object) refl c.requires.lives c.requires.has c.loop-value-test.true)

pub unreachable-requires : goal.unreachable-requires
unreachable-requires g c =
    let content = g.S.Store.content c.args.store.now in
    let rows = g.S.Store.rows c.args.store.now in
    lives_then content rows c.args.object c.args.slot c.args.word c.args.values.now c.loop-value.value-index (g.S.Store.content c.loop-value.store) (g.S.Store.rows c.loop-value.store) c.loop-value.invariant.writing
    (object_of content rows c.args.object) refl c.requires.lives c.in-Err.ensures.lives

pub loop-value-preserved : goal.loop-value-preserved
loop-value-preserved g c = record {
  at = let e = c.loop-value.invariant.at in omega (arith, e);
  limit = c.in-Ok.ensures.limit ∙ c.loop-value.invariant.limit;
  writing =
      let v = slice_index_or c.args.values.now c.loop-value.value-index 0 in
      let d = g.S.Store.content c.loop-value.store in
      writing_next (g.S.Store.content c.args.store.now) (g.S.Store.rows c.args.store.now) c.args.object c.args.slot c.args.word c.args.values.now c.loop-value.value-index d (g.S.Store.rows c.loop-value.store) c.loop-value.invariant.writing
      v (slice_get-get_or c.args.values.now c.loop-value.value-index 0 c.loop-value-test.true) (g.S.Store.content c.put.new.self) (g.S.Store.rows c.put.new.self)
      (subst (λ w. IfSome (object_of d (g.S.Store.rows c.loop-value.store) c.args.object) (λ o. g.S.Store.content c.put.new.self ≡ with_object c.args.object.birth (with_word c.args.slot w v o) d)) c.loop-value.invariant.at c.in-Ok.ensures.written)
      c.in-Ok.ensures.rows_stay;
}
