use Rattle.std.proofs.Common.{◌≡◌, ◌∙◌, ap, sym, map, None, ℕ, List}
use Rattle.life_keys.specs.Keys.{quoted_name, with_name, number_of}
use Rattle.life_tree.specs.declared.key.TokenKey.TheVariants as keys
use Rattle.life_keys.proofs.Interned.{keys_view, position_view}
use Rattle.life_keys.proofs.keyer.Keyer.name.Goals as goal

pub returns-in_ok-number-in-None-clause-key : goal.returns-in_ok-number-in-None-clause-key
returns-in_ok-number-in-None-clause-key c =
    let q : quoted_name c.self.inside.before c.args.text.now ≡ None = sym c.quoted_name.ensures ∙ c.in-None.is in
    rw (← c.self.view_is, q) (ap (λ (n : ℕ). keys.Name (record { 0 = n })) (c.in_ok-number-in-None.ensures.index ∙ position_view (λ text. text.now) c.args.text c.self.inside.names.keys))

pub returns-in_ok-number-in-None-clause-names : goal.returns-in_ok-number-in-None-clause-names
returns-in_ok-number-in-None-clause-names c =
    let q : quoted_name c.self.inside.before c.args.text.now ≡ None = sym c.quoted_name.ensures ∙ c.in-None.is in
    rw (← c.self.view_is, q) (ap (λ ks. map (λ text. text.now) ks) c.in_ok-number-in-None.ensures.keys ∙ keys_view (λ text. text.now) c.args.text c.self.inside.names.keys)
