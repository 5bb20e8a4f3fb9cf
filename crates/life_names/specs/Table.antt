-- The table of types, as it is asked and grows.
use Rattle.std.specs.Prelude.{ℕ, zero, suc, ◌-◌, ◌^◌, ◌&&◌, Bool, true, false, List, [], ◌∷◌, length, nat_lt, if◌then◌else◌, Ok}
use Rattle.life_types.specs.Types.{Types, with_type}
use Rattle.life_types.specs.contracts.ty.TyPartialEq.TheImpl.{ghosts as compared}
use Rattle.life_types.specs.declared.place.Place.{Place}
use Rattle.life_types.specs.declared.ty.Ty.{Ty}
use Rattle.life_types.specs.declared.ty.Ty.TheVariants as ty
use Rattle.life_types.specs.declared.ty.TyId.{TyId}
use Rattle.life_names.specs.Checked.{Checked, broken}
use Rattle.life_names.specs.declared.fault.IllKind.TheVariants as kinds

abbrev pub is_there : Types → TyId → Bool
is_there types id = nat_lt id.0 (length types.types)

-- whether the table has the part of this type; a struct is added where it is declared
abbrev pub has_parts : Types → Ty → Bool
has_parts types (ty.Vector element) = is_there types element
has_parts types (ty.Unique target) = is_there types target
has_parts types (ty.Raw target constant) = is_there types target
has_parts types (ty.Reference target constant) = is_there types target
has_parts types (ty.Iterator target constant) = is_there types target
has_parts types (ty.Span target constant) = is_there types target
has_parts types (ty.Struct number) = false
has_parts types _ = true

-- the place of a type among others
abbrev pub number_of : List Ty → Ty → ℕ
number_of [] t = zero
number_of (x ∷ xs) t = if compared.eq t x then zero else suc (number_of xs t)

-- numbers are of 32 bits
abbrev pub can_add : Types → Ty → Bool
can_add types t = nat_lt (length types.types) (2 ^ 32 - 1) && has_parts types t

-- the number of the type, which is added if the table doesn't have it
unfoldable pub type_added : Place → Ty → Types → Checked TyId
type_added place t types =
    if can_add types t
    then Ok (record { 0 = number_of (with_type types.types t) t }, record types { types = with_type types.types t })
    else broken kinds.Unsupported place
