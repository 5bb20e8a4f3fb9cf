-- What a type holds of pointers, through the members of structs.
use Rattle.std.specs.Prelude.{ℕ, Bool, true, false, not, ◌&&◌, ◌||◌, List, Option, Some, slice_get, unwrap_or}
use Rattle.life_types.specs.Trees.{holds_owner, tree_at}
use Rattle.life_types.specs.Types.{Types}
use Rattle.life_types.specs.declared.ty.Ty.{Ty}
use Rattle.life_types.specs.declared.ty.Ty.TheVariants as ty
use Rattle.life_types.specs.declared.ty.TyId.{TyId}
use Rattle.life_typing.specs.declared.pointing.Pointing.{Pointing}
use Rattle.life_typing.specs.declared.pointing.Reach.{Reach}

abbrev pub points_nowhere : Pointing
points_nowhere = record { pointer = false; raw = false }

abbrev pub points_elsewhere : Pointing
points_elsewhere = record { pointer = true; raw = false }

abbrev pub points_raw : Pointing
points_raw = record { pointer = true; raw = true }

-- of two members together
abbrev pub pointing_of_both : Pointing → Pointing → Pointing
pointing_of_both a b = record { pointer = a.pointer || b.pointer; raw = a.raw || b.raw }

abbrev pub pointing_of_struct : List Pointing → ℕ → Pointing
pointing_of_struct structs number = unwrap_or (slice_get structs number) points_nowhere

-- of a type, where each struct has what is given
abbrev pub pointing : List Pointing → Option Ty → Pointing
pointing structs (Some (ty.Raw target constant)) = points_raw
pointing structs (Some ty.View) = points_elsewhere
pointing structs (Some (ty.Reference target constant)) = points_elsewhere
pointing structs (Some (ty.Iterator target constant)) = points_elsewhere
pointing structs (Some (ty.Span target constant)) = points_elsewhere
pointing structs (Some (ty.Struct number)) = pointing_of_struct structs number
pointing structs _ = points_nowhere

abbrev pub pointing_at : Types → List Pointing → TyId → Pointing
pointing_at types structs id = pointing structs (slice_get types.types id.0)

abbrev pub is_raw_pointer : Option Ty → Bool
is_raw_pointer (Some (ty.Raw target constant)) = true
is_raw_pointer _ = false

abbrev pub is_raw_pointer_at : Types → TyId → Bool
is_raw_pointer_at types id = is_raw_pointer (slice_get types.types id.0)

-- an Owner may be changed through it: it points to a target that isn't const and holds one
abbrev pub may_change_an_owner : Types → Option Ty → Bool
may_change_an_owner types (Some (ty.Raw target constant)) = not constant && holds_owner (tree_at types target)
may_change_an_owner types (Some (ty.Reference target constant)) = not constant && holds_owner (tree_at types target)
may_change_an_owner types (Some (ty.Iterator target constant)) = not constant && holds_owner (tree_at types target)
may_change_an_owner types (Some (ty.Span target constant)) = not constant && holds_owner (tree_at types target)
may_change_an_owner types _ = false

abbrev pub may_change_an_owner_at : Types → TyId → Bool
may_change_an_owner_at types id = may_change_an_owner types (slice_get types.types id.0)

-- what the rules on attributes ask of a parameter's type
abbrev pub reach_at : Types → List Pointing → TyId → Reach
reach_at types structs id = record {
  pointing = pointing_at types structs id;
  raw_pointer = is_raw_pointer_at types id;
  owner = may_change_an_owner_at types id;
}
