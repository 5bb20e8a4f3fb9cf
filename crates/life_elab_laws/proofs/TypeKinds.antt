-- The kinds of types by which forms are read: owners, iterators and spans, unique_ptrs, structs, and all others; and what an object of a type takes.
use Rattle.std.specs.Prelude.{Bool, true, false, ◌&&◌, ◌||◌, not, if◌then◌else◌, Option, Some, None}
use Rattle.life_types.specs.TypeTests.{is_reference, is_unique, is_value, is_view, is_void}
use Rattle.life_types.specs.Types.{Types}
use Rattle.life_types.specs.declared.ty.Ty.{Ty}
use Rattle.life_types.specs.declared.ty.Ty.TheVariants as ty
use Rattle.life_types.specs.declared.ty.TyId.{TyId}
use Rattle.life_types.specs.contracts.ty.TyIdPartialEq.TheImpl.{ghosts as id}
use Rattle.life_typed.specs.BaseTypes.{type_at}
use Rattle.life_typed.specs.TypedForm.{Form, typed}
use Rattle.life_typed.specs.declared.typed_expr.ExprType.{ExprType}
use Rattle.life_typed.specs.declared.typed_expr.ExprType.TheVariants.{NullPointer, Of}
use Rattle.life_typed.specs.declared.typed_program.TypedLocal.{TypedLocal}
use Rattle.life_elab_laws.proofs.ObjectTypes.{is_element, is_struct}

-- a string or a vector
abbrev pub owns_elements : Ty → Bool
owns_elements ty.Text = true
owns_elements (ty.Vector element) = true
owns_elements _ = false

-- an iterator or a span
abbrev pub is_walker : Ty → Bool
is_walker (ty.Iterator target constant) = true
is_walker (ty.Span target constant) = true
is_walker _ = false

-- an expression has a type of such a kind; literals and nullptr are of none
abbrev pub has_type : (Ty → Bool) → ExprType → Bool
has_type kind (Of t) = kind t
has_type kind _ = false

abbrev pub is_owner_type : ExprType → Bool
is_owner_type t = has_type owns_elements t

abbrev pub is_walker_type : ExprType → Bool
is_walker_type t = has_type is_walker t

abbrev pub is_unique_type : ExprType → Bool
is_unique_type t = has_type is_unique t

abbrev pub is_struct_type : ExprType → Bool
is_struct_type t = has_type is_struct t

-- none of these: they stand where something is asked of them, or they are changed
abbrev pub is_plain_type : ExprType → Bool
is_plain_type t = not (is_owner_type t || (is_walker_type t || (is_unique_type t || is_struct_type t)))

-- nothing, as `v.clear()` gives
abbrev pub is_void_type : ExprType → Bool
is_void_type t = has_type is_void t

-- a view
abbrev pub is_view_type : ExprType → Bool
is_view_type t = has_type is_view t

-- a span sees a vector, and a view a string
abbrev pub is_span : Ty → Bool
is_span (ty.Span target constant) = true
is_span _ = false

-- what is given an owner as such: another owner, a view, a span, or a reference
abbrev pub takes_owner : Ty → Bool
takes_owner t = owns_elements t || (is_view t || (is_span t || is_reference t))

-- what is given what has a value, also a literal or nullptr
abbrev pub takes_value : Ty → Bool
takes_value t = not (is_walker t || is_struct t)

-- a vector is built of elements
abbrev pub is_vector : Ty → Bool
is_vector (ty.Vector element) = true
is_vector _ = false

-- .. and a struct of members
abbrev pub is_listed : Ty → Bool
is_listed t = is_vector t || is_struct t

-- .. also for a reference to it
abbrev pub takes_list : Types → Ty → Bool
takes_list types (ty.Reference target constant) = is_listed (type_at types target)
takes_list types t = is_listed t

-- what a list builds is a struct
abbrev pub lists_members : Types → Ty → Bool
lists_members types (ty.Reference target constant) = is_struct (type_at types target)
lists_members types t = is_struct t

-- what is given a struct: another one, or a reference
abbrev pub takes_struct : Ty → Bool
takes_struct t = is_struct t || is_reference t

abbrev pub is_vector_type : ExprType → Bool
is_vector_type t = has_type is_vector t

-- the type of an operand
abbrev pub form_type : Form → ExprType
form_type (typed place t category form) = t
form_type _ = NullPointer

-- what gives nothing that has a type: void, nullptr and literals
abbrev pub gives_nothing : ExprType → Bool
gives_nothing (Of t) = is_void t
gives_nothing _ = true

-- ---- elements

-- what is given an owner as such is given one, a struct a struct, and a value a value
abbrev pub takes_whole : (t element : Ty) → Bool
takes_whole t element = if takes_owner t then owns_elements element else (if is_struct t then is_struct element else (is_value t && is_value element))

-- .. and a reference is to an element itself, or to a temporary with its value
abbrev pub takes_as : Types → Ty → TyId → Bool
takes_as types (ty.Reference target constant) element = id.eq element target || (is_value (type_at types target) && is_value (type_at types element))
takes_as types t element = takes_whole t (type_at types element)

-- .. of what a vector has
abbrev pub takes_element : Types → Ty → TyId × Bool → Bool
takes_element types t element = is_element types (type_at types element.0) && takes_as types t element.0

abbrev pub takes_elements_if : Types → Ty → Option (TyId × Bool) → Bool
takes_elements_if types t None = false
takes_elements_if types t (Some element) = takes_element types t element

-- the variable of a loop over a range
abbrev pub takes_elements : Types → Option TypedLocal → Option (TyId × Bool) → Bool
takes_elements types None element = false
takes_elements types (Some v) element = takes_elements_if types (type_at types v.ty) element
