-- What is wrong with a result of a moved function is what was wrong with it, moved.
use Rattle.std.proofs.Common.{◌≡◌, ◌∙◌, ◌&&◌, ap, cond, not, refl, ℕ, Bool, List, [], map}
use Rattle.std.specs.List.{list_any}
use Rattle.life_types.specs.TypeTests.{is_pointer}
use Rattle.life_types.specs.Types.{Types}
use Rattle.life_types.specs.declared.place.Place.{Place}
use Rattle.life_types.specs.declared.ty.Ty.{Ty}
use Rattle.life_core.specs.Function.{Function}
use Rattle.life_pset.specs.contracts.element.AbsPlacePartialEq.TheImpl.{ghosts as compared}
use Rattle.life_pset.specs.declared.element.AbsPlace.{AbsPlace}
use Rattle.life_pset.specs.declared.element.Element.{Element}
use Rattle.life_pset.specs.declared.element.Element.TheVariants as element
use Rattle.life_pset.specs.declared.element.Fact.{Fact}
use Rattle.life_contract.specs.Located.{is_rooted}
use Rattle.life_contract.specs.Promises.{result_type}
use Rattle.life_contract.specs.Signatures.{Signature, signature_of}
use Rattle.life_rules.specs.Returning.{dangling_result, is_wide, return_diags, widened_as, widened_result}
use Rattle.life_rules.specs.Telling.{told}
use Rattle.life_rules.specs.Texts.{is_result}
use Rattle.life_rules.specs.declared.diag.DiagKind.TheVariants.{ReturnWidens}
use Rattle.life_rules.specs.declared.diag.Why.TheVariants as why
use Rattle.life_modular.specs.Renaming.{Renaming, moved_diag, moved_element, moved_fact, moved_function, moved_signature}
use Rattle.life_modular.proofs.MovedLists.{append_moved, cond_moved}
use Rattle.life_modular.proofs.MovedSignatures.{admits_static_moved, promised_places_moved, signature_moved}

module _ (r : Renaming) (types : Types) where
  is_wide_moved : (sig : Signature) (t : Ty) (e : Element) → is_wide types (moved_signature r sig) t (moved_element r e) ≡ is_wide types sig t e
  is_wide_moved sig t element.Static = ap not (admits_static_moved r sig types t)
  is_wide_moved sig t (element.At a) = ap (λ (places : List AbsPlace). not (list_any (λ (b : AbsPlace). compared.eq b a) places)) (promised_places_moved r sig types t)
  is_wide_moved sig t _ = refl

  module _ (function : ℕ) (place : Place) where
    dangling_result_moved : (l : AbsPlace) (e : Element)
        → dangling_result (r.function function) (r.place place) l (moved_element r e) ≡ map (moved_diag r) (dangling_result function place l e)
    dangling_result_moved l (element.Invalid c) = refl
    dangling_result_moved l _ = refl

    widened_as_moved : (sig : Signature) (l : AbsPlace) (t : Ty) (e : Element)
        → widened_as types (moved_signature r sig) (r.function function) (r.place place) l t (moved_element r e) ≡ map (moved_diag r) (widened_as types sig function place l t e)
    widened_as_moved sig l t e =
        ap (λ (wide : Bool). cond (is_pointer t && wide) (told (r.function function) (r.place place) ReturnWidens l (why.Points (moved_element r e))) []) (is_wide_moved sig t e)
        ∙ cond_moved (moved_diag r) (is_pointer t && is_wide types sig t e) _ [] refl refl

    widened_result_moved : (f : Function) (l : AbsPlace) (e : Element)
        → widened_result types (signature_of (moved_function r f)) (r.function function) (r.place place) l (moved_element r e)
        ≡ map (moved_diag r) (widened_result types (signature_of f) function place l e)
    widened_result_moved f l e =
        ap (λ (sig : Signature). widened_result types sig (r.function function) (r.place place) l (moved_element r e)) (signature_moved r f)
        ∙ widened_as_moved (signature_of f) l (result_type types (signature_of f) l) e

    pub return_diags_moved : (f : Function) (fact : Fact)
        → return_diags types (r.function function) (moved_function r f) (r.place place) (moved_fact r fact) ≡ map (moved_diag r) (return_diags types function f place fact)
    return_diags_moved f fact =
        cond_moved (moved_diag r) (is_result types f f.parameters && is_rooted f.parameters fact.location) _ []
        (append_moved (moved_diag r) _ _ (dangling_result_moved fact.location fact.element) (widened_result_moved f fact.location fact.element)) refl
