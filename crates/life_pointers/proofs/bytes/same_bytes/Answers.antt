use Rattle.std.proofs.Common.{Some, ap, map, sym, ◌∙◌}
use Rattle.life_core.specs.Function.{name_bytes}
use Rattle.life_pointers.specs.Bytes.{stored_bytes}
use Rattle.life_pointers.proofs.ViewedBytes.{differ_next, lengths_differ, same_next}
use Rattle.life_pointers.proofs.bytes.same_bytes.Goals as goal

pub returns-then-count-byte_count : goal.returns-then-count-byte_count
returns-then-count-byte_count g c =
    let content = g.S.Store.content c.args.store.now in
    let rows = g.S.Store.rows c.args.store.now in
    let texts = map name_bytes c.args.texts.now in
    lengths_differ (stored_bytes texts content rows c.args.left) (stored_bytes texts content rows c.args.right)
    (λ e. c.if-count-byte_count.true (c.byte_count-count.ensures ∙ e ∙ sym c.byte_count.ensures))

pub returns-then-byte_at : goal.returns-then-byte_at
returns-then-byte_at g c =
    let content = g.S.Store.content c.args.store.now in
    let rows = g.S.Store.rows c.args.store.now in
    let texts = map name_bytes c.args.texts.now in
    sym (c.loop-index.invariant
    ∙ differ_next (stored_bytes texts content rows c.args.left) (stored_bytes texts content rows c.args.right) c.loop-index.index c.byte_at.result c.byte_at-in-loop-index.result
    c.byte_at.ensures c.byte_at-in-loop-index.ensures c.if-byte_at.true)

pub loop-index-preserved : goal.loop-index-preserved
loop-index-preserved g c =
    let content = g.S.Store.content c.args.store.now in
    let rows = g.S.Store.rows c.args.store.now in
    let texts = map name_bytes c.args.texts.now in
    c.loop-index.invariant
    ∙ same_next (stored_bytes texts content rows c.args.left) (stored_bytes texts content rows c.args.right) c.loop-index.index c.byte_at.result
    c.byte_at.ensures (c.byte_at-in-loop-index.ensures ∙ ap Some (sym c.if-byte_at.false))
