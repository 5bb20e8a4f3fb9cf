-- Which types objects have: what variables, parameters, members of structs and results may hold.
use Rattle.std.specs.Prelude.{ℕ, zero, suc, Bool, true, false, ◌&&◌, ◌||◌, List, [], ◌∷◌, length, nat_lt}
use Rattle.life_types.specs.Trees.{TypeTree, is_plain, members_at, tree_at}
use Rattle.life_types.specs.TypeTests.{is_value, is_void}
use Rattle.life_types.specs.Types.{Types}
use Rattle.life_types.specs.declared.ty.Ty.{Ty}
use Rattle.life_types.specs.declared.ty.Ty.TheVariants as ty
use Rattle.life_types.specs.declared.ty.TyId.{TyId}
use Rattle.life_typed.specs.BaseTypes.{type_at}
use Rattle.life_typed.specs.declared.typed_program.TypedLocal.{TypedLocal}

-- a struct
abbrev pub is_struct : Ty → Bool
is_struct (ty.Struct n) = true
is_struct _ = false

-- whether the tree of each of these types is such a one
abbrev pub have_trees : (TypeTree → Bool) → Types → List TyId → Bool
have_trees test types [] = true
have_trees test types (id ∷ ids) = test (tree_at types id) && have_trees test types ids

-- none of these types has a pointer in it
abbrev pub are_plain : Types → List TyId → Bool
are_plain types ids = have_trees is_plain types ids

-- a struct that holds no pointer
abbrev pub is_plain_struct : Types → Ty → Bool
is_plain_struct types (ty.Struct which) = are_plain types (members_at types which)
is_plain_struct types _ = false

-- a string, or a vector of values, of structs without pointers or of such owners, where vectors stand no deeper in it
abbrev pub is_owner_within : (steps : ℕ) → Types → Ty → Bool
is_owner_within zero types t = false
is_owner_within (suc n) types ty.Text = true
is_owner_within (suc n) types (ty.Vector element) = is_value (type_at types element) || (is_plain_struct types (type_at types element) || is_owner_within n types (type_at types element))
is_owner_within (suc n) types _ = false

-- none is deeper than there are types
abbrev pub is_inner_owner : Types → Ty → Bool
is_inner_owner types t = is_owner_within (suc (length types.types)) types t

-- what a vector has: values, structs without pointers, or such owners
abbrev pub is_element : Types → Ty → Bool
is_element types t = is_value t || (is_plain_struct types t || is_inner_owner types t)

-- a string, or a vector
abbrev pub is_owner_of_values : Types → Ty → Bool
is_owner_of_values types t = is_owner_within (suc (suc (length types.types))) types t

-- what a raw pointer or a reference is to
abbrev pub is_target : Types → Ty → Bool
is_target types t = is_value t || (is_owner_of_values types t || is_plain_struct types t)

-- a raw pointer or a reference to a value, an owner or a struct without pointers, or a view of characters
abbrev pub is_pointing : Types → Ty → Bool
is_pointing types (ty.Raw target constant) = is_target types (type_at types target)
is_pointing types (ty.Reference target constant) = is_target types (type_at types target)
is_pointing types ty.View = true
is_pointing types _ = false

-- an iterator or a span of what a vector has
abbrev pub is_walker_of_values : Types → Ty → Bool
is_walker_of_values types (ty.Iterator target constant) = is_element types (type_at types target)
is_walker_of_values types (ty.Span target constant) = is_element types (type_at types target)
is_walker_of_values types _ = false

-- a unique_ptr to a value, a struct or such an owner
abbrev pub is_unique_of_element : Types → Ty → Bool
is_unique_of_element types (ty.Unique target) = is_element types (type_at types target)
is_unique_of_element types _ = false

-- one that isn't among those that each table begins with
abbrev pub is_admitted_type : Types → Ty → Bool
is_admitted_type types t = is_pointing types t || (is_owner_of_values types t || (is_walker_of_values types t || (is_unique_of_element types t || is_struct t)))

-- whether each of them has such a type
abbrev pub have_each : (Ty → Bool) → Types → List TyId → Bool
have_each test types [] = true
have_each test types (id ∷ ids) = test (type_at types id) && have_each test types ids

-- a pointer that a struct may hold: all but references
abbrev pub is_pointer_member : Types → Ty → Bool
is_pointer_member types (ty.Raw target constant) = is_target types (type_at types target)
is_pointer_member types ty.View = true
is_pointer_member types t = is_walker_of_values types t

-- what a member of a struct is: a value, a pointer, an owner, a unique_ptr, or a struct, which stands before it in the table and is asked itself; a path that is too long is told before
abbrev pub is_struct_member : Types → Ty → Bool
is_struct_member types t = is_value t || (is_pointer_member types t || (is_owner_of_values types t || (is_unique_of_element types t || is_struct t)))

-- the members of a struct, of which there are 32 at most, as the limit on members has it
abbrev pub are_struct_members : Types → List TyId → Bool
are_struct_members types ids = nat_lt (length ids) 33 && have_each (is_struct_member types) types ids

abbrev pub hold_members : Types → List (List TyId) → Bool
hold_members types [] = true
hold_members types (ids ∷ structs) = are_struct_members types ids && hold_members types structs

-- structs of such members
abbrev pub has_fine_structs : Types → Bool
has_fine_structs types = hold_members types types.structs

-- what is given over and back as a whole: an owner, a unique_ptr, or a struct
abbrev pub is_owning : Types → Ty → Bool
is_owning types t = is_owner_of_values types t || (is_unique_of_element types t || is_struct t)

-- what a parameter may hold
abbrev pub is_admitted_parameter : Types → TyId → Bool
is_admitted_parameter types id =
    is_value (type_at types id) || (is_pointing types (type_at types id) || (is_walker_of_values types (type_at types id) || is_owning types (type_at types id)))

abbrev pub are_admitted_parameters : Types → List TypedLocal → Bool
are_admitted_parameters types [] = true
are_admitted_parameters types (v ∷ vs) = is_admitted_parameter types v.ty && are_admitted_parameters types vs

-- .. and any variable
abbrev pub is_admitted_variable : Types → TyId → Bool
is_admitted_variable types id = is_value (type_at types id) || is_admitted_type types (type_at types id)

abbrev pub are_admitted_variables : Types → List TypedLocal → Bool
are_admitted_variables types [] = true
are_admitted_variables types (v ∷ vs) = is_admitted_variable types v.ty && are_admitted_variables types vs

-- what is given back: a value, or what points to one, to an owner or to a struct, an iterator or a span, an owner, a unique_ptr or a struct, or nothing
abbrev pub is_admitted_result : Types → TyId → Bool
is_admitted_result types id =
    is_void (type_at types id) || (is_value (type_at types id) || (is_pointing types (type_at types id) || (is_walker_of_values types (type_at types id) || is_owning types (type_at types id))))
