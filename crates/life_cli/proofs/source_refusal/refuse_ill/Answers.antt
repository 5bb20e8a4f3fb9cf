use Rattle.std.proofs.Common.{◌≡◌, ◌∙◌, ◌++◌, List, ℕ, ap, append_assoc, subst, sym}
use Rattle.std.specs.Prelude.{codes, decimal}
use Rattle.life_cli.specs.Ends.{Tells}
use Rattle.life_cli.specs.IllFormed.{ill_name}
use Rattle.life_cli.specs.declared.status.Status.TheVariants.{Ill}
use Rattle.life_cli.proofs.source_refusal.refuse_ill.Goals as goal

one_text : (a b c d e : List ℕ) → (((a ++ b) ++ c) ++ d) ++ e ≡ a ++ (b ++ (c ++ (d ++ e)))
one_text a b c d e = append_assoc ((a ++ b) ++ c) d e ∙ append_assoc (a ++ b) c (d ++ e) ∙ append_assoc a b (c ++ (d ++ e))

pub returns : goal.returns
returns c =
    let line = decimal c.args.place.line in
    let column = decimal c.args.place.column in
    subst (λ (t : List ℕ). Tells Ill t c.tell.result)
    (c.as_str.ensures.value
    ∙ (c.in_ok-text.ensures.ok
    ∙ (ap (λ (name : List ℕ). line ++ (codes ":" ++ (column ++ (codes ": ill-formed: " ++ name)))) c.ill_name-name.ensures
    ∙ sym (one_text line (codes ":") column (codes ": ill-formed: ") (ill_name c.args.kind)))))
    c.tell.ensures
