-- What is wrong with a function that came to stand elsewhere is what was wrong with it, moved.
use Rattle.std.proofs.Common.{◌≡◌, ◌∙◌, ap, map, slice_get, subst, sym, ℕ, List, Option}
use Rattle.std.proofs.lemmas.Option.{same_Some}
use Rattle.life_types.specs.Types.{Types}
use Rattle.life_core.specs.Function.{Function, Program}
use Rattle.life_core.specs.Linked.{spot_of}
use Rattle.life_core.specs.Tree.{Spot}
use Rattle.life_contract.specs.Signatures.{Signature, signatures_of}
use Rattle.life_rules.specs.Deriving.{Derives}
use Rattle.life_rules.specs.Diagnosing.{IsDiagnosed, Tells}
use Rattle.life_rules.specs.Listing.{IsProgramDiagnosed}
use Rattle.life_rules.specs.declared.diag.Diag.{Diag}
use Rattle.life_modular.specs.Modular.{IsMovedTo, renumbered_signatures}
use Rattle.life_modular.specs.Renaming.{Renaming, CallsMoved, moved_diag, moved_fact, moved_function}
use Rattle.life_modular.specs.Renumbering.{Renumbering, renumbered_function}
use Rattle.life_modular.specs.Vocabulary.{Vocabulary}
use Rattle.life_modular.proofs.AlikeLists.{each_map}
use Rattle.life_modular.proofs.AlikePrograms.{diagnosed_alike}
use Rattle.life_modular.proofs.MovedDiagnosing.{tells_moved}
use Rattle.life_modular.proofs.MovedCode.{spot_moved}
use Rattle.life_modular.proofs.MovedDeriving.{derives_moved}

pub diagnosed_moved : (r : Renaming) (types : Types) (these those : List Signature) (function : ℕ) {f : Function} → CallsMoved r these those f → (d : Diag)
    → IsDiagnosed these types function f d → IsDiagnosed those types (r.function function) (moved_function r f) (moved_diag r d)
diagnosed_moved r types these those function {f} calls d (point, (facts, (held, told))) = (
  point,
  (
    map (moved_fact r) facts,
    (
      each_map (Derives those types (moved_function r f) point) (moved_fact r) facts (λ x has. derives_moved r types these those f calls (held x has)),
      subst (λ (o : Option Spot). Tells those types (r.function function) (moved_function r f) o (map (moved_fact r) facts) (moved_diag r d))
          (sym (spot_moved r f point))
          (tells_moved r types function f these those (spot_of f point) (calls point) facts d told),
    ),
  ),
)

pub moved_diagnosed : (r : Renaming) (v : Vocabulary) (new : Renumbering) (p q : Program) (n : ℕ) (f : Function) → IsMovedTo r v new p q n f
    → (d : Diag) → d.function ≡ n → IsProgramDiagnosed p d → IsProgramDiagnosed q (moved_diag r d)
moved_diagnosed r v new p q n f moved d at (g, (there, wrong)) =
    let sigs : List Signature = signatures_of p.functions in
    let same : g ≡ f = same_Some g f (sym there ∙ ap (slice_get p.functions) at ∙ moved.one) in
    let here : IsDiagnosed sigs p.types d.function f d = subst (λ (h : Function). IsDiagnosed sigs p.types d.function h d) same wrong in
    let typed : IsDiagnosed (renumbered_signatures new p) q.types d.function (renumbered_function new f) d =
    diagnosed_alike moved.types sigs d.function moved.names moved.called d here in (
      moved_function r (renumbered_function new f),
      (
        ap (λ (number : ℕ). slice_get q.functions (r.function number)) at ∙ moved.other,
        diagnosed_moved r q.types (renumbered_signatures new p) (signatures_of q.functions) d.function moved.calls d typed,
      ),
    )
