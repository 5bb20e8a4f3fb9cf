-- Which pointers lie in the words of a value: of each word, the type of the pointer that begins there.
use Rattle.std.specs.Prelude.{ℕ, zero, suc, List, [], ◌∷◌, Option, Some, None, slice_get}
use Rattle.life_types.specs.Trees.{members_at}
use Rattle.life_types.specs.Types.{Types}
use Rattle.life_types.specs.declared.ty.Ty.{Ty}
use Rattle.life_types.specs.declared.ty.Ty.TheVariants as variant
use Rattle.life_types.specs.declared.ty.TyId.{TyId}
use Rattle.life_store.specs.Kinds.{row_behind}
use Rattle.life_store.specs.Parts.{width_at}

-- a pointer begins at its first word
abbrev pub first_begins : TyId → ℕ → Option TyId
first_begins id zero = Some id
first_begins id (suc u) = None

abbrev pub struct_begins : Types → (TyId → ℕ → Option TyId) → List TyId → ℕ → Option TyId
struct_begins types row [] u = None
struct_begins types row (id ∷ ids) u = row_behind (width_at types id) (row id) (struct_begins types row ids) u

-- a type with the rows of its members
abbrev pub begins_of : Types → (TyId → ℕ → Option TyId) → TyId → Option Ty → ℕ → Option TyId
begins_of types row id (Some variant.View) u = first_begins id u
begins_of types row id (Some (variant.Raw target constant)) u = first_begins id u
begins_of types row id (Some (variant.Reference target constant)) u = first_begins id u
begins_of types row id (Some (variant.Iterator target constant)) u = first_begins id u
begins_of types row id (Some (variant.Span target constant)) u = first_begins id u
begins_of types row id (Some (variant.Struct number)) u = struct_begins types row (members_at types number) u
begins_of types row id _ u = None

-- .. so many steps deep
abbrev pub begins_within : ℕ → Types → TyId → ℕ → Option TyId
begins_within zero types id u = None
begins_within (suc n) types id u = begins_of types (begins_within n types) id (slice_get types.types id.0) u

-- the members of a type have smaller numbers, so its own number is deep enough
abbrev pub begins_at : Types → TyId → ℕ → Option TyId
begins_at types id u = begins_within (suc id.0) types id u
