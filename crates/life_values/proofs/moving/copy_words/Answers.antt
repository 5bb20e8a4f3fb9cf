use Rattle.std.proofs.Common.{refl, sym, ◌∙◌, arith}
use Rattle.life_seen.specs.Kinds.{kinds_of}
use Rattle.life_values.proofs.CopiedRowed.{copied_rowed, written_begin, written_next}
use Rattle.life_values.proofs.WordsCopied.{can_get, can_put, from_lives, progress_begin, progress_end, progress_next, to_lives}
use Rattle.life_values.proofs.moving.copy_words.Goals as goal

pub loop-word-init : goal.loop-word-init
loop-word-init g c = record {
  limit = refl;
  rows = refl;
  written = λ source target at_from at_to wide. written_begin c.args.from c.args.to c.args.width source target (g.S.Store.content c.args.store.now) at_to wide;
  progress = progress_begin (kinds_of c.args.types.now) c.args.from c.args.to c.args.width (g.S.Store.content c.args.store.now) (g.S.Store.rows c.args.store.now) c.requires.can;
}

pub overflow_add-from : goal.overflow_add-from
overflow_add-from g c = let small = c.loop-word.invariant.progress.can.from_small in let less = c.loop-word-test.true in omega (arith, small, less)

pub overflow_add-to : goal.overflow_add-to
overflow_add-to g c = let small = c.loop-word.invariant.progress.can.to_small in let less = c.loop-word-test.true in omega (arith, small, less)

pub get-requires : goal.get-requires
get-requires g c =
    can_get (kinds_of c.args.types.now) c.args.from c.args.to c.args.width (g.S.Store.content c.args.store.now) (g.S.Store.rows c.args.store.now) (g.S.Store.content c.loop-word.store) (g.S.Store.rows c.loop-word.store) c.loop-word.word
    c.loop-word.invariant.progress c.loop-word-test.true

pub unreachable-requires : goal.unreachable-requires
unreachable-requires g c =
    from_lives (kinds_of c.args.types.now) c.args.from c.args.to c.args.width (g.S.Store.content c.args.store.now) (g.S.Store.rows c.args.store.now) (g.S.Store.content c.loop-word.store) (g.S.Store.rows c.loop-word.store) c.loop-word.word
    c.loop-word.invariant.progress c.loop-word-test.true c.in-Err.field-0 (sym c.get.ensures ∙ c.in-Err.is)

pub put-requires : goal.put-requires
put-requires g c =
    can_put (kinds_of c.args.types.now) c.args.from c.args.to c.args.width (g.S.Store.content c.args.store.now) (g.S.Store.rows c.args.store.now) (g.S.Store.content c.loop-word.store) (g.S.Store.rows c.loop-word.store) c.loop-word.word
    c.loop-word.invariant.progress c.loop-word-test.true

pub unreachable-requires-in-Err-put : goal.unreachable-requires-in-Err-put
unreachable-requires-in-Err-put g c =
    to_lives (kinds_of c.args.types.now) c.args.from c.args.to c.args.width (g.S.Store.content c.args.store.now) (g.S.Store.rows c.args.store.now) (g.S.Store.content c.loop-word.store) (g.S.Store.rows c.loop-word.store) c.loop-word.word
    c.loop-word.invariant.progress c.loop-word-test.true c.in-Err-put.ensures.lives

pub loop-word-preserved : goal.loop-word-preserved
loop-word-preserved g c = record {
  limit = c.in-Ok-put.ensures.limit ∙ c.loop-word.invariant.limit;
  rows = c.in-Ok-put.ensures.rows_stay ∙ c.loop-word.invariant.rows;
  written = λ source target at_from at_to wide.
      written_next c.args.from c.args.to c.args.width source target (kinds_of c.args.types.now) (g.S.Store.content c.args.store.now) at_from at_to (g.S.Store.content c.loop-word.store) (g.S.Store.rows c.loop-word.store) c.loop-word.word
      c.loop-word.invariant.progress.can c.loop-word-test.true (c.loop-word.invariant.written source target at_from at_to wide) c.in-Ok.value (sym c.get.ensures ∙ c.in-Ok.is)
      (g.S.Store.content c.put.new.self) c.in-Ok-put.ensures.lives c.in-Ok-put.ensures.written;
  progress =
      progress_next (kinds_of c.args.types.now) c.args.from c.args.to c.args.width (g.S.Store.content c.args.store.now) (g.S.Store.rows c.args.store.now) (g.S.Store.content c.loop-word.store) (g.S.Store.rows c.loop-word.store) c.loop-word.word
      c.loop-word.invariant.progress c.loop-word-test.true c.in-Ok.value (sym c.get.ensures ∙ c.in-Ok.is)
      (g.S.Store.content c.put.new.self) (g.S.Store.rows c.put.new.self) c.in-Ok-put.ensures.written c.in-Ok-put.ensures.rows_stay;
}

pub returns-clause-shows : goal.returns-clause-shows
returns-clause-shows g c =
    let past = c.loop-word-test.false in
    progress_end (kinds_of c.args.types.now) c.args.from c.args.to c.args.width (g.S.Store.content c.args.store.now) (g.S.Store.rows c.args.store.now) (g.S.Store.content c.loop-word.store) (g.S.Store.rows c.loop-word.store) c.loop-word.word
    c.loop-word.invariant.progress (omega (arith, past))

pub returns-clause-later : goal.returns-clause-later
returns-clause-later g c = c.loop-word.invariant.progress.later

pub returns-clause-rowed : goal.returns-clause-rowed
returns-clause-rowed g c o there wide uncut rowed =
    let past = c.loop-word-test.false in
    copied_rowed c.args.from c.args.to c.args.width (kinds_of c.args.types.now) (g.S.Store.content c.args.store.now) (g.S.Store.rows c.args.store.now) c.requires.can o there wide uncut
    (g.S.Store.content c.loop-word.store) c.loop-word.word (omega (arith, past)) c.loop-word.invariant.written rowed (g.S.Store.rows c.loop-word.store) c.loop-word.invariant.progress.later
