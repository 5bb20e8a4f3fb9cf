-- What is asked of members, of member functions and of lists.
use Rattle.std.specs.Prelude.{◌≡◌, ℕ, suc, Bool, true, false, ◌&&◌, List, [], ◌∷◌, Option, None, Some, is_none, slice_get}
use Rattle.life_types.specs.Trees.{holds_unique, members_at, tree_at}
use Rattle.life_types.specs.Types.{Types}
use Rattle.life_types.specs.declared.ty.Ty.{Ty}
use Rattle.life_types.specs.declared.ty.Ty.TheVariants as ty
use Rattle.life_types.specs.declared.ty.TyId.{TyId}
use Rattle.life_typed.specs.BaseTypes.{type_at}
use Rattle.life_typed.specs.Members.{method_answer, method_parameters, parameter, takes}
use Rattle.life_typed.specs.TypedForm.{Form, Typed, typed, nothing, ◌⨟◌}
use Rattle.life_typed.specs.declared.members.MethodParameters.{MethodParameters}
use Rattle.life_typed.specs.declared.typed_expr.Category.{Category}
use Rattle.life_typed.specs.declared.typed_expr.Category.TheVariants as category
use Rattle.life_typed.specs.declared.typed_expr.ExprType.{ExprType}
use Rattle.life_typed.specs.declared.typed_expr.ExprType.TheVariants as expr_type
use Rattle.life_typed.specs.declared.typed_expr.Method.{Method}
use Rattle.life_type_expr.specs.Lists.{is_taken, struct_fault}
use Rattle.life_type_expr.specs.Members.{change_fault}
use Rattle.life_type_expr.specs.Operands.{is_constant, place_of}

-- an operand as an expression; what is no expression counts as nullptr
abbrev pub typed_in : Form → Typed
typed_in (typed place t c form) = record { place = place; ty = t; category = c; form = form }
typed_in other = record { place = record { line = 0; column = 0 }; ty = expr_type.NullPointer; category = category.Value; form = other }

-- ---- members of structs

abbrev pub IsMemberAt : Types → Option TyId → Bool → Typed → Type 0
IsMemberAt types None constant e = ⊥
IsMemberAt types (Some id) constant e = e ≡ place_of types id constant e.place e.form

-- a struct that is a place has the member with this number, which is const as the struct is (ISO/IEC 14882:2017 [expr.ref])
abbrev pub IsMember : Types → ExprType → Category → ℕ → Typed → Type 0
IsMember types (expr_type.Of (ty.Struct number)) (category.Place id constant) which e = IsMemberAt types (slice_get (members_at types number) which) constant e
IsMember types _ _ which e = ⊥

-- ---- member functions

-- each argument from number n on fits its parameter, and there are as many as are taken
abbrev pub are_taken : Types → MethodParameters → ℕ → Form → Bool
are_taken types p n nothing = takes p n
are_taken types p n (e ⨟ es) = is_taken types (parameter p n) (typed_in e) && are_taken types p (suc n) es
are_taken types p n _ = false

abbrev pub are_passed : Types → Option MethodParameters → Form → Bool
are_passed types None arguments = false
are_passed types (Some p) arguments = are_taken types p 0 arguments

-- an object of this type has the member function, which may be called on it, takes the arguments, and gives the expression
abbrev pub IsCalled : Types → ExprType → Category → Method → Form → Typed → Type 0
IsCalled types (expr_type.Of t) c m arguments e =
    (change_fault m c ≡ None)
    × (are_passed types (method_parameters types t m) arguments ≡ true)
    × (method_answer types t (is_constant c) m ≡ Some (e.ty, e.category))
IsCalled types _ c m arguments e = ⊥

-- ---- lists

-- each is an element of this type
abbrev pub are_elements : Types → TyId → Form → Bool
are_elements types id nothing = true
are_elements types id (e ⨟ es) = is_taken types (Some (type_at types id)) (typed_in e) && are_elements types id es
are_elements types id _ = false

-- a member that is a struct with a unique_ptr in it has no copy, so it isn't initialised by a list
abbrev pub can_be_listed : Types → TyId → Bool
can_be_listed types id = is_none (struct_fault (type_at types id) (holds_unique (tree_at types id)))

-- each member is initialised
abbrev pub are_each : Types → List TyId → Form → Bool
are_each types [] nothing = true
are_each types (id ∷ ids) (e ⨟ es) = (can_be_listed types id && is_taken types (Some (type_at types id)) (typed_in e)) && are_each types ids es
are_each types _ _ = false

-- .. or none
abbrev pub are_members : Types → List TyId → Form → Bool
are_members types ids nothing = true
are_members types ids elements = are_each types ids elements

-- a vector is made of its elements, and a struct of its members (ISO/IEC 14882:2017 [dcl.init.list])
abbrev pub makes_object : Types → Ty → Form → Bool
makes_object types (ty.Vector element) elements = are_elements types element elements
makes_object types (ty.Struct number) elements = are_members types (members_at types number) elements
makes_object types _ elements = false

-- .. or what a const reference refers to
abbrev pub is_listed : Types → Ty → Form → Bool
is_listed types (ty.Reference target true) elements = makes_object types (type_at types target) elements
is_listed types t elements = makes_object types t elements

-- one expression of this type, or none
abbrev pub is_optional : Types → TyId → Form → Bool
is_optional types id nothing = true
is_optional types id e = is_taken types (Some (type_at types id)) (typed_in e)
