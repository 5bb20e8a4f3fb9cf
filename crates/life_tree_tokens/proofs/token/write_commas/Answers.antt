use Rattle.std.proofs.Common.{◌++◌, ◌∷◌, [], ◌∙◌, ◌+◌, List, ap, append_assoc, drop, sym}
use Rattle.std.proofs.lemmas.List.{at_drop_more}
use Rattle.life_tree.specs.Separated.{comma_keys}
use Rattle.life_tree.specs.declared.fixed.TheConstants.{COMMA}
use Rattle.life_tree.specs.declared.key.TokenKey.{TokenKey}
use Rattle.life_tree.specs.declared.key.TokenKey.TheVariants.{Fixed}
use Rattle.life_tree_tokens.proofs.token.write_commas.Goals as goal

pub commas-preserved : goal.commas-preserved
commas-preserved c =
    let i = c.commas._comma-index in
    let commas = c.args.commas.now in
    rw c.in_ok-write_fixed.ensures
    (append_assoc c.commas.keys.items (Fixed COMMA ∷ []) (comma_keys (drop (i + 1) commas))
    ∙ ap (λ (ks : List TokenKey). c.commas.keys.items ++ ks) (sym (at_drop_more comma_keys commas i (record { line = 0; column = 0 }) c.commas-test.true))
    ∙ c.commas.invariant)
