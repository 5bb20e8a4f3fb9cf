-- The types that parameters may have: values, pointers and references, views, iterators and spans that an argument is or makes, and owners, unique_ptrs and structs that are given over.
use Rattle.std.proofs.Common.{◌≡◌, inl, inr, ℕ, Bool, true, Option, Some, None, slice_get, unwrap_or, refl, ◌||◌, ap, sym, ◌∙◌}
use Rattle.std.proofs.lemmas.Bool.{false≢true, or_cases}
use Rattle.life_types.specs.TypeTests.{is_value}
use Rattle.life_types.specs.Types.{Types}
use Rattle.life_types.specs.declared.ty.Ty.{Ty}
use Rattle.life_types.specs.declared.ty.Ty.TheVariants as ty
use Rattle.life_types.specs.declared.ty.TyId.{TyId}
use Rattle.life_elab_laws.proofs.ObjectTypes.{is_element, is_owner_of_values, is_owning, is_pointing, is_admitted_parameter, is_target, is_unique_of_element, is_walker_of_values, is_plain_struct, is_struct}
use Rattle.life_typed.specs.BaseTypes.{type_at}
use Rattle.life_proper.specs.OperandTypes.{is_composed}
use Rattle.life_elab_laws.proofs.AdmittedTypes.{IsBuilt}
use Rattle.life_elab_laws.proofs.Fronts.{IsFront}
use Rattle.life_elab_laws.proofs.Shaped.{value_later, walker_later, owner_later, target_later, element_later, PlainStays, plain_further}
use Rattle.life_elab_laws.proofs.Targets.{IsTarget, owner_target, struct_target, target_is, target_type, to_owner, to_struct, to_value}
use Rattle.life_elab_laws.proofs.OperandsThere.{type_either}
use Rattle.life_elab_laws.proofs.Values.{by_owners}

pub data IsHandedType (types : Types) (id : TyId) : Type 0 where
  a_value : is_value (type_at types id) ≡ true → IsHandedType types id
  a_raw : (target : TyId) (constant : Bool) → slice_get types.types id.0 ≡ Some (ty.Raw target constant) → is_target types (type_at types target) ≡ true → IsHandedType types id
  a_reference : (target : TyId) (constant : Bool) → slice_get types.types id.0 ≡ Some (ty.Reference target constant) → is_value (type_at types target) ≡ true → IsHandedType types id
  an_alias : (target : TyId) (constant : Bool) → slice_get types.types id.0 ≡ Some (ty.Reference target constant) → is_owner_of_values types (type_at types target) ≡ true → IsHandedType types id
  a_struct_alias : (target : TyId) (constant : Bool) (number : ℕ) → slice_get types.types id.0 ≡ Some (ty.Reference target constant) → type_at types target ≡ ty.Struct number → is_plain_struct types (type_at types target) ≡ true → IsHandedType types id
  a_view : slice_get types.types id.0 ≡ Some ty.View → IsHandedType types id
  a_walker : (t : Ty) → slice_get types.types id.0 ≡ Some t → is_walker_of_values types t ≡ true → IsHandedType types id
  an_owner : (t : Ty) → slice_get types.types id.0 ≡ Some t → is_owner_of_values types t ≡ true → IsHandedType types id
  a_unique : (target : TyId) → slice_get types.types id.0 ≡ Some (ty.Unique target) → is_element types (type_at types target) ≡ true → IsHandedType types id
  a_struct : (number : ℕ) → slice_get types.types id.0 ≡ Some (ty.Struct number) → IsHandedType types id

pub handed_type : (types : Types) (id : TyId) → is_admitted_parameter types id ≡ true → IsHandedType types id
handed_type types id h = elim (or_cases (is_value (type_at types id)) (is_pointing types (type_at types id) || (is_walker_of_values types (type_at types id) || is_owning types (type_at types id))) h) [
  | inl v ↦ a_value v
  | inr q ↦ elim (or_cases (is_pointing types (type_at types id)) (is_walker_of_values types (type_at types id) || is_owning types (type_at types id)) q) [
    | inl p ↦ pointer (slice_get types.types id.0) refl p
    | inr r ↦ elim (or_cases (is_walker_of_values types (type_at types id)) (is_owning types (type_at types id)) r) [
      | inl w ↦ walker (slice_get types.types id.0) refl w
      | inr owned ↦ elim (or_cases (is_owner_of_values types (type_at types id)) (is_unique_of_element types (type_at types id) || is_struct (type_at types id)) owned) [
        | inl o ↦ owner (slice_get types.types id.0) refl o
        | inr others ↦ elim (or_cases (is_unique_of_element types (type_at types id)) (is_struct (type_at types id)) others) [
          | inl u ↦ unique (slice_get types.types id.0) refl u
          | inr s ↦ structure (slice_get types.types id.0) refl s
        ]
      ]
    ]
  ]
]
  where
    pointer : (o : Option Ty) → slice_get types.types id.0 ≡ o → is_pointing types (unwrap_or o ty.Void) ≡ true → IsHandedType types id
    pointer None at p = absurd (false≢true p)
    pointer (Some (ty.Raw target constant)) at p = a_raw target constant at p
    pointer (Some (ty.Reference target constant)) at p = refers (target_is types (type_at types target) p)
      where
        refers : IsTarget types (type_at types target) → IsHandedType types id
        refers (to_value v) = a_reference target constant at v
        refers (to_owner o) = an_alias target constant at o
        refers (to_struct number s pointless) = a_struct_alias target constant number at s pointless
    pointer (Some ty.View) at p = a_view at
    pointer (Some _) at p = absurd (false≢true p)

    walker : (o : Option Ty) → slice_get types.types id.0 ≡ o → is_walker_of_values types (unwrap_or o ty.Void) ≡ true → IsHandedType types id
    walker None at w = absurd (false≢true w)
    walker (Some t) at w = a_walker t at w

    owner : (o : Option Ty) → slice_get types.types id.0 ≡ o → is_owner_of_values types (unwrap_or o ty.Void) ≡ true → IsHandedType types id
    owner None at w = absurd (false≢true w)
    owner (Some t) at w = an_owner t at w

    unique : (o : Option Ty) → slice_get types.types id.0 ≡ o → is_unique_of_element types (unwrap_or o ty.Void) ≡ true → IsHandedType types id
    unique (Some (ty.Unique target)) at w = a_unique target at w
    unique None at w = absurd (false≢true w)
    unique (Some _) at w = absurd (false≢true w)

    structure : (o : Option Ty) → slice_get types.types id.0 ≡ o → is_struct (unwrap_or o ty.Void) ≡ true → IsHandedType types id
    structure None at s = absurd (false≢true s)
    structure (Some (ty.Struct number)) at s = a_struct number at
    structure (Some _) at s = absurd (false≢true s)

-- what is built is given over as a whole
pub built_composed : (types : Types) (t : Ty) → IsBuilt types t → is_composed t ≡ true
built_composed types t (inl o) = go t o
  where
    go : (t : Ty) → is_owner_of_values types t ≡ true → is_composed t ≡ true
    go = by_owners types _ refl (λ item. refl)
built_composed types t (inr (inl u)) = go t u
  where
    go : (t : Ty) → is_unique_of_element types t ≡ true → is_composed t ≡ true
    go (ty.Unique target) u = refl
    go _ u = absurd (false≢true u)
built_composed types t (inr (inr s)) = ap is_composed s.is

-- .. in a table with more types too
pub handed_later : (few more : Types) → IsFront few.types more.types → PlainStays few more → (id : TyId) → IsHandedType few id → IsHandedType more id
handed_later few more front stays id (a_value v) = a_value (value_later few more front id v)
handed_later few more front stays id (a_raw target constant at v) = a_raw target constant (front id.0 (ty.Raw target constant) at) (target_later few more front stays target v)
handed_later few more front stays id (a_reference target constant at v) = a_reference target constant (front id.0 (ty.Reference target constant) at) (value_later few more front target v)
handed_later few more front stays id (an_alias target constant at o) =
    let here = target_type few more front target (owner_target few (type_at few target) o) in
    an_alias target constant (front id.0 (ty.Reference target constant) at) (ap (is_owner_of_values more) (sym (type_either more target) ∙ here) ∙ owner_later few more front stays (type_at few target) o)
handed_later few more front stays id (a_struct_alias target constant number at s pointless) =
    let here = target_type few more front target (struct_target few (type_at few target) pointless) in
    a_struct_alias target constant number (front id.0 (ty.Reference target constant) at) (sym (type_either more target) ∙ here ∙ s)
    (ap (is_plain_struct more) (sym (type_either more target) ∙ here) ∙ plain_further few more front stays (type_at few target) pointless)
handed_later few more front stays id (a_view at) = a_view (front id.0 ty.View at)
handed_later few more front stays id (a_walker t at w) = a_walker t (front id.0 t at) (walker_later few more front stays t w)
handed_later few more front stays id (an_owner t at o) = an_owner t (front id.0 t at) (owner_later few more front stays t o)
handed_later few more front stays id (a_unique target at w) = a_unique target (front id.0 (ty.Unique target) at) (element_later few more front stays target w)
handed_later few more front stays id (a_struct number at) = a_struct number (front id.0 (ty.Struct number) at)
