-- What is wrong with a function, in two programs that have alike what it and what it calls name.
use Rattle.std.proofs.Common.{◌≡◌, ◌∙◌, ap, map, slice_get, subst, sym, ℕ, List}
use Rattle.std.proofs.lemmas.Option.{same_Some}
use Rattle.life_types.specs.Types.{Types}
use Rattle.life_core.specs.Function.{Function, Program}
use Rattle.life_core.specs.Linked.{spot_of}
use Rattle.life_contract.specs.Signatures.{Signature, signatures_of}
use Rattle.life_rules.specs.Diagnosing.{IsDiagnosed}
use Rattle.life_rules.specs.Listing.{IsProgramDiagnosed}
use Rattle.life_rules.specs.declared.diag.Diag.{Diag}
use Rattle.life_modular.specs.Modular.{AreAlikeAt, CallsName, renumbered_signatures}
use Rattle.life_modular.specs.Renumbering.{Renumbering, renumbered_function, renumbered_signature}
use Rattle.life_modular.specs.Vocabulary.{Vocabulary, HaveAlike, Names}
use Rattle.life_modular.proofs.AlikeDeriving.{derives_alike}
use Rattle.life_modular.proofs.AlikeDiagnosing.{tells_alike}
use Rattle.life_modular.proofs.SameSignatures.{diagnosed_same}

module _ {v : Vocabulary} {new : Renumbering} {these those : Types} (alike : HaveAlike v new these those) (sigs : List Signature) (function : ℕ) {f : Function} where
  pub diagnosed_alike : Names v f → CallsName v sigs f → (d : Diag)
      → IsDiagnosed sigs these function f d → IsDiagnosed (map (renumbered_signature new) sigs) those function (renumbered_function new f) d
  diagnosed_alike names called d (point, (facts, (held, told))) = (
    point,
    (
      facts,
      (
        (λ x has. derives_alike alike sigs names called (held x has)),
        tells_alike alike sigs function f names (spot_of f point) (called point) facts d told,
      ),
    ),
  )

pub diagnosed_here : (v : Vocabulary) (new : Renumbering) (p q : Program) (n : ℕ) (f : Function) → AreAlikeAt v new p q n f
    → (d : Diag) → d.function ≡ n → IsProgramDiagnosed p d → IsDiagnosed (signatures_of p.functions) p.types d.function f d
diagnosed_here v new p q n f alike d at (g, (there, wrong)) =
    let same : g ≡ f = same_Some g f (sym there ∙ ap (slice_get p.functions) at ∙ alike.one) in
    subst (λ (h : Function). IsDiagnosed (signatures_of p.functions) p.types d.function h d) same wrong

pub alike_diagnosed : (v : Vocabulary) (new : Renumbering) (p q : Program) (n : ℕ) (f : Function) → AreAlikeAt v new p q n f
    → (d : Diag) → d.function ≡ n → IsProgramDiagnosed p d → IsProgramDiagnosed q d
alike_diagnosed v new p q n f alike d at wrong =
    let here : IsDiagnosed (signatures_of p.functions) p.types d.function f d = diagnosed_here v new p q n f alike d at wrong in
    let typed : IsDiagnosed (renumbered_signatures new p) q.types d.function (renumbered_function new f) d =
    diagnosed_alike alike.types (signatures_of p.functions) d.function alike.names alike.called d here in (
      renumbered_function new f,
      (
        ap (slice_get q.functions) at ∙ alike.other,
        diagnosed_same (renumbered_signatures new p) (signatures_of q.functions) q.types d.function (renumbered_function new f) alike.calls d typed,
      ),
    )
