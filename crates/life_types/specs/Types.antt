-- The table of types, and the class of each.
use Rattle.std.specs.Prelude.{◌≡◌, ℕ, ◌<◌, ◌++◌, Bool, true, false, List, [], ◌∷◌, Option, Some, length, slice_get, if◌then◌else◌}
use Rattle.std.specs.List.{list_any}
use Rattle.life_types.specs.declared.ty.Class.{Class}
use Rattle.life_types.specs.declared.ty.Class.TheVariants.{Value, Pointer, Owner, Aggregate}
use Rattle.life_types.specs.declared.ty.Ty.{Ty}
use Rattle.life_types.specs.declared.ty.Ty.TheVariants as ty
use Rattle.life_types.specs.declared.ty.TyId.{TyId}
use Rattle.life_types.specs.contracts.ty.TyPartialEq.TheImpl.{ghosts as compared}

-- what a table is seen as: the type with number n stands at place n, and so do the members of the struct with number n
pub record Types : Type 0 where
  pub types : List Ty
  pub structs : List (List TyId)

-- the types after one was added: they stay if it is among them
abbrev pub with_type : List Ty → Ty → List Ty
with_type types t = if list_any (compared.eq t) types then types else types ++ t ∷ []

-- no type has two numbers
abbrev pub HasEachOnce : Types → Type 0
HasEachOnce table =
    (m n : ℕ) (t : Ty) → slice_get table.types m ≡ Some t → slice_get table.types n ≡ Some t → m ≡ n

-- the type with this number is in the table
abbrev pub HasType : Types → TyId → Type 0
HasType table id = id.0 < length table.types

abbrev pub HasTypes : Types → List TyId → Type 0
HasTypes table [] = Unit {0}
HasTypes table (id ∷ ids) = HasType table id × HasTypes table ids

-- the parts of the type are in the table
abbrev pub HasParts : Types → Ty → Type 0
HasParts table (ty.Vector element) = HasType table element
HasParts table (ty.Unique target) = HasType table target
HasParts table (ty.Raw target constant) = HasType table target
HasParts table (ty.Reference target constant) = HasType table target
HasParts table (ty.Iterator target constant) = HasType table target
HasParts table (ty.Span target constant) = HasType table target
HasParts table (ty.Struct number) = number < length table.structs
HasParts table _ = Unit {0}

-- the class of a type, where there is one
abbrev pub class : Option Ty → Class
class (Some ty.Text) = Owner
class (Some (ty.Vector element)) = Owner
class (Some (ty.Unique target)) = Owner
class (Some ty.View) = Pointer
class (Some (ty.Raw target constant)) = Pointer
class (Some (ty.Reference target constant)) = Pointer
class (Some (ty.Iterator target constant)) = Pointer
class (Some (ty.Span target constant)) = Pointer
class (Some (ty.Struct number)) = Aggregate
class _ = Value

-- the class of the type with a number
abbrev pub class_at : Types → TyId → Class
class_at table id = class (slice_get table.types id.0)

-- what a parameter that is a slot may refer to: an iterator, a span, a view or a unique_ptr
abbrev pub is_slot_target : Option Ty → Bool
is_slot_target (Some (ty.Iterator target constant)) = true
is_slot_target (Some (ty.Span target constant)) = true
is_slot_target (Some ty.View) = true
is_slot_target (Some (ty.Unique target)) = true
is_slot_target _ = false

-- a reference without const to such a target
abbrev pub is_slot_type : Types → Option Ty → Bool
is_slot_type table (Some (ty.Reference target false)) = is_slot_target (slice_get table.types target.0)
is_slot_type table _ = false

abbrev pub is_slot_at : Types → TyId → Bool
is_slot_at table id = is_slot_type table (slice_get table.types id.0)
