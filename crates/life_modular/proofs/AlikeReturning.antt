-- What is wrong with a result looks only at the types that the function names.
use Rattle.std.proofs.Common.{◌≡◌, ◌∙◌, ◌++◌, ◌&&◌, ap, ap₂, cond, option_map, slice_get, nat_eq, not, refl, ℕ, Bool, List, [], Option, Some, None}
use Rattle.std.specs.List.{list_any}
use Rattle.life_types.specs.Types.{Types}
use Rattle.life_types.specs.declared.place.Place.{Place}
use Rattle.life_types.specs.declared.ty.Ty.{Ty}
use Rattle.life_types.specs.declared.ty.Ty.TheVariants as ty
use Rattle.life_core.specs.Function.{Function}
use Rattle.life_pset.specs.contracts.element.AbsPlacePartialEq.TheImpl.{ghosts as compared}
use Rattle.life_pset.specs.declared.element.AbsPlace.{AbsPlace}
use Rattle.life_pset.specs.declared.element.Element.{Element}
use Rattle.life_pset.specs.declared.element.Element.TheVariants as element
use Rattle.life_pset.specs.declared.element.Fact.{Fact}
use Rattle.life_contract.specs.Located.{is_rooted}
use Rattle.life_contract.specs.Promises.{lists_null, result_type}
use Rattle.life_contract.specs.Signatures.{Signature, signature_of}
use Rattle.life_rules.specs.Returning.{dangling_result, is_wide, return_diags, widened_as, widened_result}
use Rattle.life_rules.specs.Telling.{told}
use Rattle.life_rules.specs.Texts.{has_value, is_result}
use Rattle.life_rules.specs.declared.diag.Diag.{Diag}
use Rattle.life_rules.specs.declared.diag.DiagKind.TheVariants.{ReturnWidens}
use Rattle.life_rules.specs.declared.diag.Why.TheVariants as why
use Rattle.life_modular.proofs.Renumbered.{is_pointer_renumbered, is_raw_renumbered, signature_of_renumbered}
use Rattle.life_modular.specs.Renumbering.{Renumbering, renumbered_function, renumbered_signature, renumbered_type}
use Rattle.life_modular.specs.Vocabulary.{Vocabulary, HasPartsIn, HaveAlike, HeadNames, Names}
use Rattle.life_modular.proofs.AlikePromises.{admits_static_same, names_head, promised_places_same, result_type_named, result_type_same}

module _ {v : Vocabulary} {new : Renumbering} {these those : Types} (alike : HaveAlike v new these those) where
  has_value_renumbered : (o : Option Ty) → has_value (option_map (renumbered_type new) o) ≡ has_value o
  has_value_renumbered None = refl
  has_value_renumbered (Some ty.Void) = refl
  has_value_renumbered (Some _) = refl

  pub is_result_same : (f : Function) → Names v f → (x : ℕ) → is_result those (renumbered_function new f) x ≡ is_result these f x
  is_result_same f names x =
      ap
      (λ (value : Bool). nat_eq x f.parameters && value)
      (ap has_value (alike.types f.result names.result) ∙ has_value_renumbered (slice_get these.types f.result.0))

  module _ (sig : Signature) (heads : HeadNames v sig) where
    is_wide_same : (t : Ty) → HasPartsIn v t → (e : Element) → is_wide those (renumbered_signature new sig) (renumbered_type new t) e ≡ is_wide these sig t e
    is_wide_same t parts element.Null = ap (λ (raw : Bool). raw && not (lists_null sig.promise)) (is_raw_renumbered new t)
    is_wide_same t parts element.Static = ap not (admits_static_same alike heads t parts)
    is_wide_same t parts (element.At a) =
        ap (λ (places : List AbsPlace). not (list_any (λ (b : AbsPlace). compared.eq b a) places)) (promised_places_same alike heads t parts)
    is_wide_same t parts _ = refl

    widened_as_same : (function : ℕ) (place : Place) (l : AbsPlace) (t : Ty) → HasPartsIn v t → (e : Element)
        → widened_as those (renumbered_signature new sig) function place l (renumbered_type new t) e ≡ widened_as these sig function place l t e
    widened_as_same function place l t parts e =
        ap₂ (λ (pointer wide : Bool). cond (pointer && wide) (told function place ReturnWidens l (why.Points e)) []) (is_pointer_renumbered new t) (is_wide_same t parts e)

    widened_result_same : (function : ℕ) (place : Place) (l : AbsPlace) (e : Element)
        → widened_result those (renumbered_signature new sig) function place l e ≡ widened_result these sig function place l e
    widened_result_same function place l e =
        ap (λ (t : Ty). widened_as those (renumbered_signature new sig) function place l t e) (result_type_same alike heads l)
        ∙ widened_as_same function place l (result_type these sig l) (result_type_named alike heads l) e

  pub return_diags_same : (f : Function) → Names v f → (function : ℕ) (place : Place) (fact : Fact)
      → return_diags those function (renumbered_function new f) place fact ≡ return_diags these function f place fact
  return_diags_same f names function place fact =
      ap₂
      (λ (result : Bool) (widened : List Diag). cond (result && is_rooted f.parameters fact.location) (dangling_result function place fact.location fact.element ++ widened) [])
      (is_result_same f names f.parameters)
      (ap (λ (sig : Signature). widened_result those sig function place fact.location fact.element) (signature_of_renumbered new f)
      ∙ widened_result_same (signature_of f) (names_head names) function place fact.location fact.element)
