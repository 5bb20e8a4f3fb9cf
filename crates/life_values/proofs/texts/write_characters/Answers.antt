use Rattle.std.proofs.Common.{IfSome, ◌≡◌, refl, subst, sym, ◌∙◌, arith}
use Rattle.std.proofs.lemmas.Option.{slice_get-get_or}
use Rattle.std.specs.Prelude.{slice_index_or}
use Rattle.life_store.specs.Content.{with_object, with_word}
use Rattle.life_store.specs.References.{object_of, HasWord}
use Rattle.life_seen.specs.Kinds.{kinds_of}
use Rattle.life_values.proofs.CharactersWritten.{progress_begin, progress_end, progress_next, put_keeps, slot_there, still_lives}
use Rattle.life_values.proofs.StillRowed.{are_whole}
use Rattle.life_values.proofs.texts.write_characters.Goals as goal

pub loop-character-init : goal.loop-character-init
loop-character-init g c = record {
  slot = refl;
  limit = refl;
  rowed = λ can rowed. rowed;
  progress = λ can. progress_begin (kinds_of c.args.types.now) c.args.text c.args.characters.now (g.S.Store.content c.args.store.now) (g.S.Store.rows c.args.store.now) can;
}

pub put-requires : goal.put-requires
put-requires g c =
    let d = g.S.Store.content c.loop-character.store in
    let new = g.S.Store.rows c.loop-character.store in
    subst (λ i. IfSome (object_of d new c.args.text) (HasWord i 0)) (sym c.loop-character.invariant.slot)
    (slot_there (kinds_of c.args.types.now) c.args.text c.args.characters.now (g.S.Store.content c.args.store.now) (g.S.Store.rows c.args.store.now) c.requires.can d new c.loop-character.character-index (c.loop-character.invariant.progress c.requires.can) c.loop-character-test.true)

pub unreachable-requires : goal.unreachable-requires
unreachable-requires g c =
    still_lives (kinds_of c.args.types.now) c.args.text c.args.characters.now (g.S.Store.content c.args.store.now) (g.S.Store.rows c.args.store.now) c.requires.can
    (g.S.Store.content c.loop-character.store) (g.S.Store.rows c.loop-character.store) c.loop-character.character-index (c.loop-character.invariant.progress c.requires.can) c.in-Err.ensures.lives

pub overflow_add-slot : goal.overflow_add-slot
overflow_add-slot g c =
    let e = c.loop-character.invariant.slot in
    let t = c.loop-character-test.true in
    let s = c.requires.short in
    omega (arith, e, t, s)

pub loop-character-preserved : goal.loop-character-preserved
loop-character-preserved g c = record {
  slot = let e = c.loop-character.invariant.slot in omega (arith, e);
  limit = c.in-Ok.ensures.limit ∙ c.loop-character.invariant.limit;
  rowed = λ can rowed.
      put_keeps (kinds_of c.args.types.now) c.args.text c.args.characters.now (g.S.Store.content c.args.store.now) (g.S.Store.rows c.args.store.now) can
      (g.S.Store.content c.loop-character.store) (g.S.Store.rows c.loop-character.store) c.loop-character.character-index (c.loop-character.invariant.progress can) (are_whole c.args.types.now)
      c.loop-character.slot (slice_index_or c.args.characters.now c.loop-character.character-index 0) (g.S.Store.content c.put.new.self) (g.S.Store.rows c.put.new.self) c.in-Ok.ensures.written c.in-Ok.ensures.rows_stay (c.loop-character.invariant.rowed can rowed);
  progress = λ can.
      let v = slice_index_or c.args.characters.now c.loop-character.character-index 0 in
      let d = g.S.Store.content c.loop-character.store in
      let new = g.S.Store.rows c.loop-character.store in
      progress_next (kinds_of c.args.types.now) c.args.text c.args.characters.now (g.S.Store.content c.args.store.now) (g.S.Store.rows c.args.store.now) can
      d new c.loop-character.character-index (c.loop-character.invariant.progress can)
      v (slice_get-get_or c.args.characters.now c.loop-character.character-index 0 c.loop-character-test.true) (g.S.Store.content c.put.new.self) (g.S.Store.rows c.put.new.self)
      (subst (λ i. IfSome (object_of d new c.args.text) (λ o. g.S.Store.content c.put.new.self ≡ with_object c.args.text.birth (with_word i 0 v o) d)) c.loop-character.invariant.slot c.in-Ok.ensures.written) c.in-Ok.ensures.rows_stay;
}

pub returns-clause-shows : goal.returns-clause-shows
returns-clause-shows g c =
    let past = c.loop-character-test.false in
    progress_end (kinds_of c.args.types.now) c.args.text c.args.characters.now (g.S.Store.content c.args.store.now) (g.S.Store.rows c.args.store.now) c.requires.can
    (g.S.Store.content c.loop-character.store) (g.S.Store.rows c.loop-character.store) c.loop-character.character-index (c.loop-character.invariant.progress c.requires.can) (omega (arith, past))

pub returns-clause-rows : goal.returns-clause-rows
returns-clause-rows g c = (c.loop-character.invariant.progress c.requires.can).rows_stay

pub returns-clause-rowed : goal.returns-clause-rowed
returns-clause-rowed g c = c.loop-character.invariant.rowed c.requires.can
