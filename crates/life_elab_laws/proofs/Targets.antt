-- What a raw pointer or a reference is to: a value, an owner of values, or a struct without pointers.
use Rattle.std.proofs.Common.{◌≡◌, ◌<◌, inl, inr, ℕ, Bool, true, false, ◌||◌, not, length, slice_get, Option, Some, None, refl, sym, ap, ◌∙◌, unwrap_or}
use Rattle.std.proofs.lemmas.Bool.{false≢true, or_cases, or_left, or_right}
use Rattle.std.proofs.lemmas.Option.{slice_get_within}
use Rattle.life_types.specs.Pointees.{or_void, ty_of}
use Rattle.life_types.specs.TypeTests.{is_value, is_void}
use Rattle.life_types.specs.Types.{Types, is_slot_target, is_slot_type}
use Rattle.life_types.specs.declared.ty.Ty.{Ty}
use Rattle.life_types.specs.declared.ty.Ty.TheVariants as ty
use Rattle.life_types.specs.declared.ty.TyId.{TyId}
use Rattle.life_elab_laws.proofs.ObjectTypes.{is_owner_of_values, is_plain_struct, is_target, is_struct}
use Rattle.life_typed.specs.BaseTypes.{type_at}
use Rattle.life_proper.specs.OperandTypes.{same}
use Rattle.life_pset.specs.Shapes.{referred}
use Rattle.life_elab_laws.proofs.Fronts.{IsFront}
use Rattle.life_elab_laws.proofs.Types.{same_type}
use Rattle.life_elab_laws.proofs.NoVoid.{no_void}

pub or_false : (b : Bool) → (b || false) ≡ true → b ≡ true
or_false true e = refl
or_false false e = e

pub data IsTarget (types : Types) (t : Ty) : Type 0 where
  to_value : is_value t ≡ true → IsTarget types t
  to_owner : is_owner_of_values types t ≡ true → IsTarget types t
  to_struct : (number : ℕ) → t ≡ ty.Struct number → is_plain_struct types t ≡ true → IsTarget types t

pub struct_is : (types : Types) (t : Ty) → is_plain_struct types t ≡ true → (number : ℕ) × (t ≡ ty.Struct number)
struct_is types (ty.Struct number) h = (number, refl)
struct_is types _ h = absurd (false≢true h)

-- .. whatever it holds
pub struct_named : (t : Ty) → is_struct t ≡ true → (number : ℕ) × (t ≡ ty.Struct number)
struct_named (ty.Struct number) h = (number, refl)
struct_named _ h = absurd (false≢true h)

pub target_is : (types : Types) (t : Ty) → is_target types t ≡ true → IsTarget types t
target_is types t h = elim (or_cases (is_value t) (is_owner_of_values types t || is_plain_struct types t) h) [
  | inl v ↦ to_value v
  | inr other ↦ elim (or_cases (is_owner_of_values types t) (is_plain_struct types t) other) [ inl o ↦ to_owner o | inr pointless ↦ let s = struct_is types t pointless in to_struct s.0 s.1 pointless ]
]

pub value_target : (types : Types) (t : Ty) → is_value t ≡ true → is_target types t ≡ true
value_target types t v = or_left (is_value t) (is_owner_of_values types t || is_plain_struct types t) v

pub owner_target : (types : Types) (t : Ty) → is_owner_of_values types t ≡ true → is_target types t ≡ true
owner_target types t o = or_right (is_value t) (is_owner_of_values types t || is_plain_struct types t) (or_left (is_owner_of_values types t) (is_plain_struct types t) o)

pub struct_target : (types : Types) (t : Ty) → is_plain_struct types t ≡ true → is_target types t ≡ true
struct_target types t pointless = or_right (is_value t) (is_owner_of_values types t || is_plain_struct types t) (or_right (is_owner_of_values types t) (is_plain_struct types t) pointless)

-- ---- its type

pub target_no_void : (types : Types) (t : Ty) → is_target types t ≡ true → not (is_void t) ≡ true
target_no_void types t h = ap not (no_void (is_target types) refl t h)

pub target_same : (types : Types) (t : Ty) → is_target types t ≡ true → same t t ≡ true
target_same types ty.Void h = absurd (false≢true h)
target_same types t h = same_type t

-- ---- it is in the table, and in one with more types too

module _ (few more : Types) (front : IsFront few.types more.types) (id : TyId) (h : is_target few (type_at few id) ≡ true) where
  pub target_found : slice_get more.types id.0 ≡ Some (type_at few id)
  target_found = go (slice_get few.types id.0) refl h
    where
      go : (o : Option Ty) → slice_get few.types id.0 ≡ o → is_target few (unwrap_or o ty.Void) ≡ true → slice_get more.types id.0 ≡ Some (type_at few id)
      go None at h = absurd (false≢true h)
      go (Some t) at h = front id.0 t at ∙ ap Some (sym (ap (λ (o : Option Ty). unwrap_or o ty.Void) at))

  pub target_type : ty_of more id ≡ type_at few id
  target_type = ap or_void target_found

  -- two pointers to it have one target
  pub one_target : same (ty_of more id) (ty_of more id) ≡ true
  one_target = ap (λ (t : Ty). same t t) target_type ∙ target_same few (type_at few id) h

pub target_within : (types : Types) (id : TyId) → is_target types (type_at types id) ≡ true → id.0 < length types.types
target_within types id h = slice_get_within types.types id.0 (type_at types id) (target_found types types (λ n x e. e) id h)

-- ---- a reference to it is no slot

pub target_no_slot : (types : Types) (t : Ty) → is_target types t ≡ true → is_slot_target (Some t) ≡ false
target_no_slot types (ty.Iterator item constant) h = absurd (false≢true h)
target_no_slot types (ty.Span item constant) h = absurd (false≢true h)
target_no_slot types ty.View h = absurd (false≢true h)
target_no_slot types (ty.Unique item) h = absurd (false≢true h)
target_no_slot types _ h = refl

pub reference_no_slot : (types : Types) (target : TyId) (constant : Bool) → is_target types (type_at types target) ≡ true → is_slot_type types (Some (ty.Reference target constant)) ≡ false
reference_no_slot types target true h = refl
reference_no_slot types target false h = ap is_slot_target (target_found types types (λ n x e. e) target h) ∙ target_no_slot types (type_at types target) h

-- .. also in a table with more types
pub target_unslotted : (few more : Types) → IsFront few.types more.types → (id : TyId) → is_target few (type_at few id) ≡ true → is_slot_target (Some (ty_of more id)) ≡ false
target_unslotted few more front id h = ap (λ (t : Ty). is_slot_target (Some t)) (target_type few more front id h) ∙ target_no_slot few (type_at few id) h

-- .. and stands as it is, also where a parameter has it
pub target_referred : (id target : TyId) (t : Ty) → is_slot_target (Some t) ≡ false → referred id target t ≡ id
target_referred id target (ty.Iterator item constant) h = absurd (false≢true (sym h))
target_referred id target (ty.Span item constant) h = absurd (false≢true (sym h))
target_referred id target ty.View h = absurd (false≢true (sym h))
target_referred id target (ty.Unique item) h = absurd (false≢true (sym h))
target_referred id target _ h = refl
