use Rattle.std.proofs.Common.{ℕ, List, ◌++◌, ap, append_assoc, sym, ◌∙◌}
use Rattle.std.specs.Prelude.{codes}
use Rattle.life_core.specs.Function.{function_of}
use Rattle.life_pset.specs.declared.element.CauseKind.{CauseKind}
use Rattle.life_rules.specs.Texts.{cause_subject, local_text, naming_of}
use Rattle.life_rules.proofs.texts.push_subject.Goals as goal

pub returns-in_ok-extend_from_slice-in-Changed : goal.returns-in_ok-extend_from_slice-in-Changed
returns-in_ok-extend_from_slice-in-Changed c =
    let names = naming_of c.args.names.now c.args.sigs.now in
    let f = function_of c.args.f.now in
    let out = c.args.out.now.items in
    c.in_ok-extend_from_slice-in-Changed.ensures.items
    ∙ ap (λ (text : List ℕ). text ++ codes " changed at ") c.in_ok-push_local-in-Changed.ensures
    ∙ append_assoc out (local_text names.spelling c.args.types.now f c.args.root) (codes " changed at ")
    ∙ ap (λ (kind : CauseKind). out ++ cause_subject names c.args.types.now f c.args.root kind) (sym c.in-Changed.is)
