-- The types without parts, which each table begins with.
use Rattle.std.specs.Prelude.{[], ◌∷◌, unwrap_or, slice_get}
use Rattle.life_types.specs.Types.{Types}
use Rattle.life_types.specs.declared.ty.Ty.{Ty}
use Rattle.life_types.specs.declared.ty.Ty.TheVariants.{Void, Bool as boolean, Char, Int, Long, Size, Text, View}
use Rattle.life_types.specs.declared.ty.TyId.{TyId}

-- the type at place n has the number n
abbrev pub base_types : Types
base_types = record { types = Void ∷ boolean ∷ Char ∷ Int ∷ Long ∷ Size ∷ Text ∷ View ∷ []; structs = [] }

-- the type with a number; what the table doesn't have counts as void
abbrev pub type_at : Types → TyId → Ty
type_at types id = unwrap_or (slice_get types.types id.0) Void
