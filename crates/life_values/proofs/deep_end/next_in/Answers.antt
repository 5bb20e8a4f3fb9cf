use Rattle.std.specs.Prelude.{slice_get}
use Rattle.std.proofs.Common.{sym, ap, ◌∙◌, arith}
use Rattle.std.proofs.lemmas.Option.{same_Some, slice_get-get_or, slice_get_within}
use Rattle.life_store.specs.Content.{word_at}
use Rattle.life_store.proofs.MapLemmas.{one_or_apart}
use Rattle.life_seen.specs.Seen.{object_seen}
use Rattle.life_seen.specs.Named.{names_of}
use Rattle.life_values.proofs.deep_end.next_in.Goals as goal

pub returns-in-Some-clause-next : goal.returns-in-Some-clause-next
returns-in-Some-clause-next g c kinds o housed there are =
    let read = slice_get-get_or c.args.owners.now c.loop-index.index 0 c.loop-index-test.true in
    let h = c.in-Some.ensures kinds o (record { housed = housed; there = there; owner = are.sound c.loop-index.index _ read }) in
    (c.loop-index.invariant.from, c.loop-index.invariant.clear kinds o housed there are, read, h.0, h.1)

pub loop-index-preserved : goal.loop-index-preserved
loop-index-preserved g c = record {
  from = let f = c.loop-index.invariant.from in omega (arith, f);
  clear = λ kinds o housed there are j u le lt e.
      let read = slice_get-get_or c.args.owners.now c.loop-index.index 0 c.loop-index-test.true in
      let h = c.in_default.ensures kinds o (record { housed = housed; there = there; owner = are.sound c.loop-index.index _ read }) in
      one_or_apart j c.loop-index.index
      (λ same. ap (word_at (object_seen kinds (names_of (g.S.Store.content c.args.store.now) (g.S.Store.rows c.args.store.now)) o) c.args.slot) (same_Some _ _ (sym e ∙ ap (slice_get c.args.owners.now) same ∙ read)) ∙ h)
      (λ ne. c.loop-index.invariant.clear kinds o housed there are j u le (omega (arith, lt, ne)) e);
}

pub returns-clause-next : goal.returns-clause-next
returns-clause-next g c kinds o housed there are j u le e =
    let within = slice_get_within c.args.owners.now j u e in
    let f = c.loop-index-test.false in
    c.loop-index.invariant.clear kinds o housed there are j u le (omega (arith, within, f)) e
