use Rattle.std.proofs.Common.{ℕ, ◌++◌, ◌∷◌, [], List, map, ap, sym, ◌∙◌, arith}
use Rattle.std.proofs.lemmas.List.{take_all}
use Rattle.life_core.specs.Function.{name_bytes}
use Rattle.life_pointers.specs.Bytes.{stored_bytes}
use Rattle.life_interp.proofs.Viewed.{take_next}
use Rattle.life_interp.proofs.views.bytes_of.Goals as goal

pub loop-position-preserved : goal.loop-position-preserved
loop-position-preserved g c =
    let all = stored_bytes (map name_bytes c.args.texts.now) (g.S.Store.content c.args.store.now) (g.S.Store.rows c.args.store.now) c.args.view in
    let i = c.loop-position.position in
    c.in_ok-push.ensures.items
    ∙ ap (λ (bs : List ℕ). bs ++ c.byte_at.result ∷ []) c.loop-position.invariant
    ∙ sym (take_next all i c.byte_at.result c.byte_at.ensures)

pub returns : goal.returns
returns g c =
    let all = stored_bytes (map name_bytes c.args.texts.now) (g.S.Store.content c.args.store.now) (g.S.Store.rows c.args.store.now) c.args.view in
    let n = c.byte_count-position-end.ensures in
    let past = c.loop-position-test.false in
    c.loop-position.invariant ∙ take_all c.loop-position.position all (omega (arith, n, past))
