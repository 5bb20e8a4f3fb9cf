-- The types that variables may have: values, what points to them, owners, iterators and spans, unique_ptrs, and structs.
use Rattle.std.proofs.Common.{◌≡◌, ◌⊎◌, inl, inr, ℕ, Bool, true, ◌||◌, slice_get, Option, Some, None, refl, sym, ap, ◌∙◌, subst, unwrap_or}
use Rattle.std.proofs.lemmas.Bool.{false≢true, or_cases, or_left, or_right}
use Rattle.life_types.specs.TypeTests.{is_value}
use Rattle.life_types.specs.Types.{Types}
use Rattle.life_types.specs.declared.ty.Ty.{Ty}
use Rattle.life_types.specs.declared.ty.Ty.TheVariants as ty
use Rattle.life_types.specs.declared.ty.TyId.{TyId}
use Rattle.life_typed.specs.BaseTypes.{type_at}
use Rattle.life_elab_laws.proofs.ObjectTypes.{is_owner_of_values, is_pointing, is_admitted_type, is_admitted_variable, is_struct, is_unique_of_element, is_walker_of_values}

-- the test of a type
abbrev pub admits : Types → Ty → Bool
admits types t = is_value t || is_admitted_type types t

-- what it lets through
abbrev pub IsAdmittedType : Types → Ty → Type 0
IsAdmittedType types t = ((is_value t || is_pointing types t) ≡ true) ⊎ ((is_owner_of_values types t ≡ true) ⊎ ((is_walker_of_values types t ≡ true) ⊎ ((is_unique_of_element types t ≡ true) ⊎ (is_struct t ≡ true))))

pub admitted_type_is : (types : Types) (t : Ty) → admits types t ≡ true → IsAdmittedType types t
admitted_type_is types t h = elim (or_cases (is_value t) (is_admitted_type types t) h) [
  | inl v ↦ inl (or_left (is_value t) (is_pointing types t) v)
  | inr s ↦ elim (or_cases (is_pointing types t) (is_owner_of_values types t || (is_walker_of_values types t || (is_unique_of_element types t || is_struct t))) s) [
    | inl p ↦ inl (or_right (is_value t) (is_pointing types t) p)
    | inr more ↦ elim (or_cases (is_owner_of_values types t) (is_walker_of_values types t || (is_unique_of_element types t || is_struct t)) more) [
      | inl o ↦ inr (inl o)
      | inr others ↦ elim (or_cases (is_walker_of_values types t) (is_unique_of_element types t || is_struct t) others) [
        | inl w ↦ inr (inr (inl w))
        | inr others ↦ elim (or_cases (is_unique_of_element types t) (is_struct t) others) [ inl u ↦ inr (inr (inr (inl u))) | inr structure ↦ inr (inr (inr (inr structure))) ]
      ]
    ]
  ]
]

pub type_admits : (types : Types) (t : Ty) → IsAdmittedType types t → admits types t ≡ true
type_admits types t (inl b) = elim (or_cases (is_value t) (is_pointing types t) b) [
  | inl v ↦ or_left (is_value t) (is_admitted_type types t) v
  | inr p ↦ or_right (is_value t) (is_admitted_type types t) (or_left (is_pointing types t) (is_owner_of_values types t || (is_walker_of_values types t || (is_unique_of_element types t || is_struct t))) p)
]
type_admits types t (inr more) =
    or_right (is_value t) (is_admitted_type types t) (or_right (is_pointing types t) (is_owner_of_values types t || (is_walker_of_values types t || (is_unique_of_element types t || is_struct t))) (go more))
  where
    go : (is_owner_of_values types t ≡ true) ⊎ ((is_walker_of_values types t ≡ true) ⊎ ((is_unique_of_element types t ≡ true) ⊎ (is_struct t ≡ true))) → (is_owner_of_values types t || (is_walker_of_values types t || (is_unique_of_element types t || is_struct t))) ≡ true
    go (inl o) = or_left (is_owner_of_values types t) (is_walker_of_values types t || (is_unique_of_element types t || is_struct t)) o
    go (inr (inl w)) = or_right (is_owner_of_values types t) (is_walker_of_values types t || (is_unique_of_element types t || is_struct t)) (or_left (is_walker_of_values types t) (is_unique_of_element types t || is_struct t) w)
    go (inr (inr (inl u))) =
        or_right (is_owner_of_values types t) (is_walker_of_values types t || (is_unique_of_element types t || is_struct t)) (or_right (is_walker_of_values types t) (is_unique_of_element types t || is_struct t) (or_left (is_unique_of_element types t) (is_struct t) u))
    go (inr (inr (inr structure))) =
        or_right (is_owner_of_values types t) (is_walker_of_values types t || (is_unique_of_element types t || is_struct t)) (or_right (is_walker_of_values types t) (is_unique_of_element types t || is_struct t) (or_right (is_unique_of_element types t) (is_struct t) structure))

-- a struct that the table has
pub record IsTabled (types : Types) (t : Ty) : Type 0 where
  pub number : ℕ
  pub is : t ≡ ty.Struct number
  pub at : ℕ
  pub there : slice_get types.types at ≡ Some t

pub struct_tabled : (types : Types) (id : TyId) (number : ℕ) → type_at types id ≡ ty.Struct number → IsTabled types (ty.Struct number)
struct_tabled types id number is = go (slice_get types.types id.0) refl is
  where
    go : (o : Option Ty) → slice_get types.types id.0 ≡ o → unwrap_or o ty.Void ≡ ty.Struct number → IsTabled types (ty.Struct number)
    go None at same = absurd (no_struct same)
      where
        no_struct : ty.Void ≡ ty.Struct number → ⊥
        no_struct e = cc
    go (Some t) at same = record { number = number; is = refl; at = id.0; there = at ∙ ap Some same }

-- what is built where it has come to life, by an act of its own: an owner, a unique_ptr, or a struct
abbrev pub IsBuilt : Types → Ty → Type 0
IsBuilt types t = (is_owner_of_values types t ≡ true) ⊎ ((is_unique_of_element types t ≡ true) ⊎ IsTabled types t)

pub struct_built : (types : Types) (id : TyId) (number : ℕ) → type_at types id ≡ ty.Struct number → IsBuilt types (type_at types id)
struct_built types id number is = inr (inr (subst (IsTabled types) (sym is) (struct_tabled types id number is)))

-- it is in the table
pub variable_found : (types : Types) (id : TyId) → is_admitted_variable types id ≡ true → (t : Ty) × (slice_get types.types id.0 ≡ Some t) × IsAdmittedType types t
variable_found types id b = go (slice_get types.types id.0) refl b
  where
    void : IsAdmittedType types ty.Void → ⊥
    void (inl e) = false≢true e
    void (inr (inl o)) = false≢true o
    void (inr (inr (inl w))) = false≢true w
    void (inr (inr (inr (inl u)))) = false≢true u
    void (inr (inr (inr (inr structure)))) = false≢true structure

    go : (o : Option Ty) → slice_get types.types id.0 ≡ o → admits types (unwrap_or o ty.Void) ≡ true → (t : Ty) × (slice_get types.types id.0 ≡ Some t) × IsAdmittedType types t
    go None at b = absurd (void (admitted_type_is types ty.Void b))
    go (Some t) at b = (t, at, admitted_type_is types t b)

-- a value is one
pub value_admits : (types : Types) (t : Ty) → is_value t ≡ true → admits types t ≡ true
value_admits types t v = or_left (is_value t) (is_admitted_type types t) v
