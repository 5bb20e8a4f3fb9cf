use Rattle.std.proofs.Common.{◌≡◌, ◌∙◌, ap, sym, map, ℕ, List}
use Rattle.life_keys.specs.Keys.{with_text, number_of}
use Rattle.life_keys.specs.Values.{text_value}
use Rattle.life_tree.specs.declared.key.TokenKey.TheVariants as keys
use Rattle.life_keys.proofs.Interned.{keys_view, position_view}
use Rattle.life_keys.proofs.keyer.Keyer.text.Goals as goal

pub returns-clause-key : goal.returns-clause-key
returns-clause-key c =
    rw (← c.self.view_is, ← c.in_ok-value.ensures) (ap (λ (n : ℕ). keys.Text n) (c.in_ok-number.ensures.index ∙ position_view (λ text. text.items) c.in_ok-value.value c.self.inside.texts.keys))

pub returns-clause-texts : goal.returns-clause-texts
returns-clause-texts c =
    rw (← c.self.view_is, ← c.in_ok-value.ensures) (ap (map (λ text. text.items)) c.in_ok-number.ensures.keys ∙ keys_view (λ text. text.items) c.in_ok-value.value c.self.inside.texts.keys)
