-- Which types a table may have: what a type holds or points to is an object without pointers, and what a struct has is an object.
use Rattle.std.specs.Prelude.{◌≡◌, ℕ, false, true, List, [], ◌∷◌, Some, slice_get}
use Rattle.life_types.specs.Trees.{is_plain, tree_at}
use Rattle.life_types.specs.TypeTests.{is_reference, is_void}
use Rattle.life_types.specs.Types.{Types}
use Rattle.life_types.specs.declared.ty.Ty.{Ty}
use Rattle.life_types.specs.declared.ty.Ty.TheVariants as ty
use Rattle.life_types.specs.declared.ty.TyId.{TyId}
use Rattle.life_typed.specs.BaseTypes.{type_at}
use Rattle.life_typed.specs.declared.typed_expr.ExprType.{ExprType}
use Rattle.life_typed.specs.declared.typed_expr.ExprType.TheVariants as expr_type
use Rattle.life_typed.specs.declared.typed_program.TypedLocal.{TypedLocal}

-- the table has it, and it isn't void
abbrev pub IsObject : Types → TyId → Type 0
IsObject types id = is_void (type_at types id) ≡ false

-- .. and no pointer is in it
pub record IsPlainObject (types : Types) (id : TyId) : Type 0 where
  pub object : IsObject types id
  pub plain : is_plain (tree_at types id) ≡ true

-- what a type holds or points to
abbrev pub HasTarget : Types → Ty → Type 0
HasTarget types (ty.Vector element) = IsPlainObject types element
HasTarget types (ty.Unique target) = IsPlainObject types target
HasTarget types (ty.Raw target constant) = IsPlainObject types target
HasTarget types (ty.Reference target constant) = IsPlainObject types target
HasTarget types (ty.Iterator target constant) = IsPlainObject types target
HasTarget types (ty.Span target constant) = IsPlainObject types target
HasTarget types _ = Unit {0}

-- .. of an expression's type
abbrev pub HasTargetIfAny : Types → ExprType → Type 0
HasTargetIfAny types (expr_type.Of t) = HasTarget types t
HasTargetIfAny types expr_type.NullPointer = Unit {0}
HasTargetIfAny types expr_type.TextLiteral = Unit {0}

-- a member of a struct is no reference
pub record IsMemberType (types : Types) (id : TyId) : Type 0 where
  pub object : IsObject types id
  pub value : is_reference (type_at types id) ≡ false

abbrev pub AreMemberTypes : Types → List TyId → Type 0
AreMemberTypes types [] = Unit {0}
AreMemberTypes types (id ∷ ids) = IsMemberType types id × AreMemberTypes types ids

pub record HasObjects (types : Types) : Type 0 where
  pub targets : (n : ℕ) (t : Ty) → slice_get types.types n ≡ Some t → HasTarget types t
  pub members : (n : ℕ) (ids : List TyId) → slice_get types.structs n ≡ Some ids → AreMemberTypes types ids

-- parameters and variables are objects, or references to these
abbrev pub AreVariables : Types → List TypedLocal → Type 0
AreVariables types locals = (n : ℕ) (l : TypedLocal) → slice_get locals n ≡ Some l → IsObject types l.ty
