-- The types of structs in the table.
use Rattle.std.specs.Prelude.{ℕ, ◌-◌, ◌^◌, Bool, true, ◌&&◌, List, [], ◌∷◌, ◌++◌, length, nat_lt, if◌then◌else◌, Ok}
use Rattle.life_types.specs.Types.{Types, with_type}
use Rattle.life_types.specs.declared.place.Place.{Place}
use Rattle.life_types.specs.declared.ty.Ty.TheVariants as ty
use Rattle.life_types.specs.declared.ty.TyId.{TyId}
use Rattle.life_names.specs.Checked.{Checked, ◌>>=◌, broken}
use Rattle.life_names.specs.Table.{is_there, number_of}
use Rattle.life_names.specs.declared.fault.IllKind.TheVariants as kinds

abbrev pub are_there : Types → List TyId → Bool
are_there types [] = true
are_there types (id ∷ ids) = is_there types id && are_there types ids

-- numbers are of 32 bits
abbrev pub members_added : Place → List TyId → Types → Checked ℕ
members_added place ids types =
    if nat_lt (length types.structs) (2 ^ 32 - 1) && are_there types ids
    then Ok (length types.structs, record types { structs = types.structs ++ ids ∷ [] })
    else broken kinds.Unsupported place

unfoldable pub number_added : Place → ℕ → Types → Checked TyId
number_added place number types =
    if nat_lt (length types.types) (2 ^ 32 - 1)
    then Ok (record { 0 = number_of (with_type types.types (ty.Struct number)) (ty.Struct number) }, record types { types = with_type types.types (ty.Struct number) })
    else broken kinds.Unsupported place

-- the type of a new struct with these members
abbrev pub structure_added : Place → List TyId → Types → Checked TyId
structure_added place ids types = members_added place ids types >>= λ x. number_added place x.0 x.1
