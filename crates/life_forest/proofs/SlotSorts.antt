-- What a parameter is of that is a slot: a pointer or a unique_ptr.
use Rattle.std.proofs.Common.{◌≡◌, ◌⊎◌, inl, inr, Bool, true, false, ◌&&◌, cond, not, Option, Some, None, refl, sym, ap, subst}
use Rattle.std.proofs.lemmas.Bool.{false≢true}
use Rattle.std.specs.Prelude.{slice_get}
use Rattle.life_types.specs.Pointees.{or_void, pointee, ty_of}
use Rattle.life_types.specs.TypeTests.{is_pointer, is_value}
use Rattle.life_types.specs.Types.{Types, is_slot_at, is_slot_target, is_slot_type}
use Rattle.life_types.specs.declared.ty.Ty.{Ty}
use Rattle.life_types.specs.declared.ty.Ty.TheVariants as ty
use Rattle.life_types.specs.declared.ty.TyId.{TyId}
use Rattle.life_proper.specs.OperandTypes.{is_composed}
use Rattle.life_store.specs.Parts.{variable_type}

-- a parameter that is a slot is like a local of the type to which it refers
abbrev pub taken_type : Types → TyId → TyId
taken_type types id = variable_type types id (slice_get types.types id.0)

-- a unique_ptr that is a slot
abbrev pub is_owner_slot : Types → TyId → Bool
is_owner_slot types id = is_slot_at types id && not (is_pointer (ty_of types (taken_type types id)))

-- what a slot is of is what its type points to
pub slot_taken : (types : Types) (id : TyId) → is_slot_at types id ≡ true → ty_of types (taken_type types id) ≡ pointee types (ty_of types id)
slot_taken types id e = go (slice_get types.types id.0) e
  where
    go : (o : Option Ty) → is_slot_type types o ≡ true → ty_of types (variable_type types id o) ≡ pointee types (or_void o)
    go None h = absurd (false≢true h)
    go (Some (ty.Reference target false)) h = ap (λ (b : Bool). ty_of types (cond b target id)) h
    go (Some _) h = absurd (false≢true h)

pub value_free : (types : Types) (o : Option Ty) → is_value (or_void o) ≡ true → is_slot_type types o ≡ false
value_free types None e = refl
value_free types (Some (ty.Reference target constant)) e = absurd (false≢true e)
value_free types (Some _) e = refl

pub composed_free : (types : Types) (o : Option Ty) → is_composed (or_void o) ≡ true → is_slot_type types o ≡ false
composed_free types None e = refl
composed_free types (Some (ty.Reference target constant)) e = absurd (false≢true e)
composed_free types (Some _) e = refl

-- a slot is of a pointer or of a unique_ptr
abbrev pub IsSlotSort : Ty → Type 0
IsSlotSort t = (is_pointer t ≡ true) ⊎ ((target : TyId) × (t ≡ ty.Unique target))

pub slot_sort : (types : Types) (id : TyId) → is_slot_at types id ≡ true → IsSlotSort (ty_of types (taken_type types id))
slot_sort types id e = go (slice_get types.types id.0) e
  where
    by_target : (o : Option Ty) → is_slot_target o ≡ true → IsSlotSort (or_void o)
    by_target None k = absurd (false≢true k)
    by_target (Some (ty.Iterator item constant)) k = inl refl
    by_target (Some (ty.Span item constant)) k = inl refl
    by_target (Some ty.View) k = inl refl
    by_target (Some (ty.Unique item)) k = inr (item, refl)
    by_target (Some _) k = absurd (false≢true k)

    go : (o : Option Ty) → is_slot_type types o ≡ true → IsSlotSort (ty_of types (variable_type types id o))
    go None h = absurd (false≢true h)
    go (Some (ty.Reference target false)) h = subst (λ (b : Bool). IsSlotSort (ty_of types (cond b target id))) (sym h) (by_target (slice_get types.types target.0) h)
    go (Some _) h = absurd (false≢true h)
