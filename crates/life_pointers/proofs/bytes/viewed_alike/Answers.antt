use Rattle.std.proofs.Common.{map, ◌∙◌}
use Rattle.life_core.specs.Function.{name_bytes}
use Rattle.life_store.specs.Views.{are_same}
use Rattle.life_seen.specs.Seen.{seen}
use Rattle.life_pointers.specs.Pointers.{pointer_seen}
use Rattle.life_pointers.proofs.Short.{same_fits}
use Rattle.life_pointers.proofs.ViewedBytes.{alike_there, bytes_seen, same_plain}
use Rattle.life_pointers.proofs.bytes.viewed_alike.Goals as goal

pub returns : goal.returns
returns g c = λ kinds housed plain_left plain_right.
    let content = g.S.Store.content c.args.store.now in
    let rows = g.S.Store.rows c.args.store.now in
    let texts = map name_bytes c.args.texts.now in
    let left = bytes_seen texts kinds content rows housed c.in_ok-left.left (same_fits content rows c.args.left c.in_ok-left.left c.in_ok-left.ensures.same c.requires.left)
    (same_plain kinds content rows c.args.left c.in_ok-left.left c.in_ok-left.ensures.same plain_left) in
    let right = bytes_seen texts kinds content rows housed c.in_ok-right.right (same_fits content rows c.args.right c.in_ok-right.right c.in_ok-right.ensures.same c.requires.right)
    (same_plain kinds content rows c.args.right c.in_ok-right.right c.in_ok-right.ensures.same plain_right) in
    alike_there texts (seen kinds content rows) (pointer_seen c.args.left) (pointer_seen c.args.right) (pointer_seen c.in_ok-left.left) (pointer_seen c.in_ok-right.right) c.same_bytes.result
    (c.in_ok-left.ensures.is kinds housed c.requires.left) (c.in_ok-right.ensures.is kinds housed c.requires.right)
    (c.same_bytes.ensures ∙ (λ i. are_same (left i) (right i)))
