use Rattle.std.proofs.Common.{map, arith}
use Rattle.std.proofs.lemmas.Option.{slice_get-get_or}
use Rattle.life_core.specs.Function.{name_bytes}
use Rattle.life_pointers.specs.Bytes.{stored_words}
use Rattle.life_changes.proofs.Collected.{as_many, both_all, first_all, one_more, other_more}
use Rattle.life_changes.proofs.characters.collected.Goals as goal

pub word_at-requires-clause-within : goal.word_at-requires-clause-within
word_at-requires-clause-within g c =
    let content = g.S.Store.content c.args.store.now in
    let rows = g.S.Store.rows c.args.store.now in
    let n = c.byte_count-position-end.ensures in
    let m = as_many (map name_bytes c.args.texts.now) content rows c.args.view in
    let lt = c.loop-position-test.true in
    omega (arith, n, m, lt)

pub loop-position-preserved : goal.loop-position-preserved
loop-position-preserved g c =
    let content = g.S.Store.content c.args.store.now in
    let rows = g.S.Store.rows c.args.store.now in
    one_more (stored_words (map name_bytes c.args.texts.now) content rows c.args.view) c.args.others.now c.loop-position.words.items c.push.new.self.items c.loop-position.position c.word_at.result c.loop-position.invariant c.word_at.ensures c.in_ok-push.ensures.items

pub loop-other-init : goal.loop-other-init
loop-other-init g c =
    let content = g.S.Store.content c.args.store.now in
    let rows = g.S.Store.rows c.args.store.now in
    let n = c.byte_count-position-end.ensures in
    let m = as_many (map name_bytes c.args.texts.now) content rows c.args.view in
    let past = c.loop-position-test.false in
    first_all (stored_words (map name_bytes c.args.texts.now) content rows c.args.view) c.args.others.now c.loop-position.words.items c.loop-position.position (omega (arith, n, m, past)) c.loop-position.invariant

pub loop-other-preserved : goal.loop-other-preserved
loop-other-preserved g c =
    let content = g.S.Store.content c.args.store.now in
    let rows = g.S.Store.rows c.args.store.now in
    let there = slice_get-get_or c.args.others.now c.loop-other.other-index 0 c.loop-other-test.true in
    other_more (stored_words (map name_bytes c.args.texts.now) content rows c.args.view) c.args.others.now c.loop-other.words.items c.push-in-loop-other.new.self.items c.loop-other.other-index _ c.loop-other.invariant there c.in_ok-push-2.ensures.items

pub returns : goal.returns
returns g c =
    let content = g.S.Store.content c.args.store.now in
    let rows = g.S.Store.rows c.args.store.now in
    let past = c.loop-other-test.false in
    both_all (stored_words (map name_bytes c.args.texts.now) content rows c.args.view) c.args.others.now c.loop-other.words.items c.loop-other.other-index (omega (arith, past)) c.loop-other.invariant
