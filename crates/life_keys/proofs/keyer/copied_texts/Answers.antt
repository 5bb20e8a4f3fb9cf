use Rattle.std.proofs.Common.{◌≡◌, ◌∙◌}
use Rattle.life_keys.proofs.Interned.{one_more}
use Rattle.life_keys.proofs.keyer.copied_texts.Goals as goal

pub loop-number-preserved : goal.loop-number-preserved
loop-number-preserved c =
    one_more (λ text. text.items) (λ text. text.items) c.args.table.now.keys c.loop-number.number c.index.result.now c.loop-number.list.items c.push.new.self.items c.in_ok-owned.field-0 c.index.ensures (c.in_ok-owned.ensures ∙ c.deref.ensures.value) c.loop-number.invariant c.in_ok-push.ensures.items
