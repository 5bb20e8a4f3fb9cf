-- What a vector has: values, structs, and owners of these.
use Rattle.std.proofs.Common.{◌≡◌, ◌≤◌, ◌⊎◌, ◌||◌, ℕ, zero, suc, inl, inr, Bool, true, false, arith, length, refl, sym, ap, subst, ◌∙◌}
use Rattle.std.specs.Prelude.{nat_lt}
use Rattle.std.proofs.lemmas.Bool.{false≢true, ltb-false, ltb-true, or_cases, or_left, or_right}
use Rattle.life_types.specs.Pointees.{ty_of}
use Rattle.life_types.specs.TypeTests.{is_value}
use Rattle.life_types.specs.Types.{Types}
use Rattle.life_types.specs.declared.ty.Ty.{Ty}
use Rattle.life_types.specs.declared.ty.Ty.TheVariants as ty
use Rattle.life_types.specs.declared.ty.TyId.{TyId}
use Rattle.life_elab_laws.proofs.ObjectTypes.{is_element, is_inner_owner, is_owner_of_values, is_owner_within, is_plain_struct, is_target}
use Rattle.life_elab_laws.proofs.TypeKinds.{is_plain_type, owns_elements}
use Rattle.life_typed.specs.BaseTypes.{type_at}
use Rattle.life_typed.specs.Members.{element_type}
use Rattle.life_typed.specs.declared.typed_expr.ExprType.TheVariants.{Of}
use Rattle.life_proper.specs.OperandTypes.{same}
use Rattle.life_elab_laws.proofs.Fronts.{IsFront}
use Rattle.life_elab_laws.proofs.Targets.{or_false, one_target, owner_target, struct_is, struct_target, target_type, value_target}
use Rattle.life_elab_laws.proofs.Values.{by_values}

pub data IsElement (types : Types) (t : Ty) : Type 0 where
  has_value : is_value t ≡ true → IsElement types t
  has_struct : (number : ℕ) → t ≡ ty.Struct number → is_plain_struct types t ≡ true → IsElement types t
  has_owner : is_inner_owner types t ≡ true → IsElement types t

pub element_is : (types : Types) (t : Ty) → is_element types t ≡ true → IsElement types t
element_is types t h = elim (or_cases (is_value t) (is_plain_struct types t || is_inner_owner types t) h) [
  | inl v ↦ has_value v
  | inr other ↦ elim (or_cases (is_plain_struct types t) (is_inner_owner types t) other) [ inl structure ↦ let s = struct_is types t structure in has_struct s.0 s.1 structure | inr o ↦ has_owner o ]
]

pub value_element : (types : Types) (t : Ty) → is_value t ≡ true → is_element types t ≡ true
value_element types t v = or_left (is_value t) (is_plain_struct types t || is_inner_owner types t) v

pub struct_element : (types : Types) (t : Ty) → is_plain_struct types t ≡ true → is_element types t ≡ true
struct_element types t pointless = or_right (is_value t) (is_plain_struct types t || is_inner_owner types t) (or_left (is_plain_struct types t) (is_inner_owner types t) pointless)

-- .. which has no pointers
pub struct_within : (types : Types) (number : ℕ) → is_element types (ty.Struct number) ≡ true → is_plain_struct types (ty.Struct number) ≡ true
struct_within types number h = or_false (is_plain_struct types (ty.Struct number)) h

pub inner_element : (types : Types) (t : Ty) → is_inner_owner types t ≡ true → is_element types t ≡ true
inner_element types t o = or_right (is_value t) (is_plain_struct types t || is_inner_owner types t) (or_right (is_plain_struct types t) (is_inner_owner types t) o)

-- as deep as it may be, and deeper
pub within_more : (types : Types) (n : ℕ) (t : Ty) → is_owner_within n types t ≡ true → is_owner_within (suc n) types t ≡ true
within_more types zero t o = absurd (false≢true o)
within_more types (suc n) ty.Text o = refl
within_more types (suc n) (ty.Vector element) o = go (within_more types n item) (or_cases (is_value item) (is_plain_struct types item || is_owner_within n types item) o)
  where
    item : Ty
    item = type_at types element

    go : (is_owner_within n types item ≡ true → is_owner_within (suc n) types item ≡ true) → (is_value item ≡ true) ⊎ ((is_plain_struct types item || is_owner_within n types item) ≡ true)
        → (is_value item || (is_plain_struct types item || is_owner_within (suc n) types item)) ≡ true
    go further (inl v) = or_left (is_value item) (is_plain_struct types item || is_owner_within (suc n) types item) v
    go further (inr other) = or_right (is_value item) (is_plain_struct types item || is_owner_within (suc n) types item) (elim (or_cases (is_plain_struct types item) (is_owner_within n types item) other) [
      | inl structure ↦ or_left (is_plain_struct types item) (is_owner_within (suc n) types item) structure
      | inr inner ↦ or_right (is_plain_struct types item) (is_owner_within (suc n) types item) (further inner)
    ])
within_more types (suc n) _ o = absurd (false≢true o)

pub within_upto : (types : Types) (m n : ℕ) (t : Ty) → m ≤ n → is_owner_within m types t ≡ true → is_owner_within n types t ≡ true
within_upto types m zero t few o = let none : m ≡ zero = omega (arith, few) in subst (λ (k : ℕ). is_owner_within k types t ≡ true) none o
within_upto types m (suc n) t few o = go (nat_lt n m) refl (λ less. within_upto types m n t less o)
  where
    go : (b : Bool) → nat_lt n m ≡ b → (m ≤ n → is_owner_within n types t ≡ true) → is_owner_within (suc n) types t ≡ true
    go true is before = let same : m ≡ suc n = omega (arith, few, ltb-true n m is) in subst (λ (k : ℕ). is_owner_within k types t ≡ true) same o
    go false is before = within_more types n t (before (ltb-false n m is))

-- an owner is one
pub inner_owner : (types : Types) (t : Ty) → is_inner_owner types t ≡ true → is_owner_of_values types t ≡ true
inner_owner types t o = within_more types (suc (length types.types)) t o

-- pointers are to each
pub element_target : (types : Types) (t : Ty) → is_element types t ≡ true → is_target types t ≡ true
element_target types t h = go (element_is types t h)
  where
    go : IsElement types t → is_target types t ≡ true
    go (has_value v) = value_target types t v
    go (has_struct number is pointless) = struct_target types t pointless
    go (has_owner o) = owner_target types t (inner_owner types t o)

-- one that is no owner is a value, and one that isn't one is an owner
pub plain_element : (types : Types) (t : Ty) → is_element types t ≡ true → is_plain_type (Of t) ≡ true → is_value t ≡ true
plain_element types t h q = go (element_is types t h)
  where
    refused : (u : Ty) → is_inner_owner types u ≡ true → is_plain_type (Of u) ≡ true → ⊥
    refused ty.Text o q = false≢true q
    refused (ty.Vector element) o q = false≢true q
    refused _ o q = false≢true o

    go : IsElement types t → is_value t ≡ true
    go (has_value v) = v
    go (has_struct number is pointless) = absurd (false≢true (sym (ap (λ (u : Ty). is_plain_type (Of u)) is) ∙ q))
    go (has_owner o) = absurd (refused t o q)

pub owner_element : (types : Types) (t : Ty) → is_element types t ≡ true → owns_elements t ≡ true → is_owner_of_values types t ≡ true
owner_element types t h n = go (element_is types t h)
  where
    go : IsElement types t → is_owner_of_values types t ≡ true
    go (has_value v) = absurd (false≢true (sym (by_values (λ u. owns_elements u ≡ false) refl refl refl refl refl t v) ∙ n))
    go (has_struct number is pointless) = absurd (false≢true (sym (ap owns_elements is) ∙ n))
    go (has_owner o) = inner_owner types t o

-- .. of an owner
pub element_held : (types : Types) (t : Ty) → is_owner_of_values types t ≡ true → is_element types (element_type types t) ≡ true
element_held types ty.Text o = refl
element_held types (ty.Vector item) o = o
element_held types _ o = absurd (false≢true o)

-- its type is the same in a table with more types
module _ (few more : Types) (front : IsFront few.types more.types) (id : TyId) (h : is_element few (type_at few id) ≡ true) where
  pub element_there : ty_of more id ≡ type_at few id
  element_there = target_type few more front id (element_target few (type_at few id) h)

  pub one_element : same (ty_of more id) (ty_of more id) ≡ true
  one_element = one_target few more front id (element_target few (type_at few id) h)
