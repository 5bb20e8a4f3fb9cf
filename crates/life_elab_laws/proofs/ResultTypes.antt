-- What a function gives back: nothing, a value, an owner, a unique_ptr, a struct, a raw pointer or a reference to a value, an owner or a struct, a view, an iterator or a span; control doesn't run past the end of one that gives something back.
use Rattle.std.proofs.Common.{◌≡◌, ℕ, Bool, true, false, ◌||◌, None, refl, sym}
use Rattle.std.proofs.lemmas.Bool.{false≢true}
use Rattle.life_types.specs.TypeTests.{is_value, is_void}
use Rattle.life_types.specs.Types.{Types}
use Rattle.life_types.specs.declared.ty.Ty.{Ty}
use Rattle.life_types.specs.declared.ty.Ty.TheVariants as ty
use Rattle.life_types.specs.declared.ty.TyId.{TyId}
use Rattle.life_elab_laws.proofs.ObjectTypes.{is_element, is_owner_of_values, is_owning, is_pointing, is_target, is_walker_of_values, is_plain_struct}
use Rattle.life_typed.specs.BaseTypes.{type_at}
use Rattle.life_type_stmt.specs.Bodies.{return_fault}
use Rattle.life_elab_laws.proofs.Targets.{IsTarget, target_is, to_owner, to_struct, to_value, or_false}

abbrev pub gives_back : Types → Ty → Bool
gives_back types t = is_void t || (is_value t || (is_pointing types t || (is_walker_of_values types t || is_owning types t)))

pub data IsResultType (types : Types) (t : Ty) : Type 0 where
  gives_nothing : t ≡ ty.Void → IsResultType types t
  gives_value : is_value t ≡ true → IsResultType types t
  gives_raw : (target : TyId) (constant : Bool) → t ≡ ty.Raw target constant → is_target types (type_at types target) ≡ true → IsResultType types t
  gives_view : t ≡ ty.View → IsResultType types t
  gives_walker : is_walker_of_values types t ≡ true → IsResultType types t
  gives_owner : is_owner_of_values types t ≡ true → IsResultType types t
  gives_unique : (target : TyId) → t ≡ ty.Unique target → is_element types (type_at types target) ≡ true → IsResultType types t
  gives_whole : (number : ℕ) → t ≡ ty.Struct number → IsResultType types t
  gives_reference : (target : TyId) (constant : Bool) → t ≡ ty.Reference target constant → is_value (type_at types target) ≡ true → IsResultType types t
  gives_alias : (target : TyId) (constant : Bool) → t ≡ ty.Reference target constant → is_owner_of_values types (type_at types target) ≡ true → IsResultType types t
  gives_struct : (target : TyId) (constant : Bool) (number : ℕ) → t ≡ ty.Reference target constant → type_at types target ≡ ty.Struct number → is_plain_struct types (type_at types target) ≡ true → IsResultType types t

pub result_is : (types : Types) (t : Ty) → gives_back types t ≡ true → IsResultType types t
result_is types ty.Void b = gives_nothing refl
result_is types ty.Bool b = gives_value refl
result_is types ty.Char b = gives_value refl
result_is types ty.Int b = gives_value refl
result_is types ty.Long b = gives_value refl
result_is types ty.Size b = gives_value refl
result_is types (ty.Raw target constant) b = gives_raw target constant refl (or_false (is_target types (type_at types target)) b)
result_is types ty.View b = gives_view refl
result_is types (ty.Iterator target constant) b = gives_walker (or_false (is_element types (type_at types target)) b)
result_is types (ty.Span target constant) b = gives_walker (or_false (is_element types (type_at types target)) b)
result_is types ty.Text b = gives_owner b
result_is types (ty.Vector item) b = gives_owner (or_false (is_owner_of_values types (ty.Vector item)) b)
result_is types (ty.Unique target) b = gives_unique target refl (or_false (is_element types (type_at types target)) b)
result_is types (ty.Struct number) b = gives_whole number refl
result_is types (ty.Reference target constant) b = refers (target_is types (type_at types target) (or_false (is_target types (type_at types target)) b))
  where
    refers : IsTarget types (type_at types target) → IsResultType types (ty.Reference target constant)
    refers (to_value v) = gives_reference target constant refl v
    refers (to_owner o) = gives_alias target constant refl o
    refers (to_struct number s pointless) = gives_struct target constant number refl s pointless

-- ---- the end of the text

no_fault : (void over : Bool) → void ≡ false → return_fault false void over ≡ None → over ≡ true
no_fault true over v e = absurd (false≢true (sym v))
no_fault false true v e = refl
no_fault false false v e = absurd (fault e)
  where
    fault : return_fault false false false ≡ None → ⊥
    fault e = cc

-- control doesn't come there, but in main
pub past_end : (main void over : Bool) → void ≡ false → (main ≡ true → ⊥) → return_fault main void over ≡ None → over ≡ true
past_end true void over v never e = absurd (never refl)
past_end false void over v never e = no_fault void over v e
