-- What stands behind an operand: members, member functions, and `[i]`.
use Rattle.std.specs.Prelude.{ℕ, suc, ◌-◌, ◌^◌, Bool, false, ◌&&◌, List, [], ◌∷◌, Option, None, Some, Ok, if◌then◌else◌, nat_eq, nat_lt}
use Rattle.life_types.specs.TypeTests.{is_value}
use Rattle.life_types.specs.Types.{Types}
use Rattle.life_types.specs.declared.place.Place.{Place}
use Rattle.life_types.specs.declared.ty.NameId.{NameId}
use Rattle.life_types.specs.declared.ty.Ty.{Ty}
use Rattle.life_types.specs.declared.ty.Ty.TheVariants as ty
use Rattle.life_types.specs.declared.ty.TyId.{TyId}
use Rattle.life_tree.specs.declared.identifier.Identifier.{Identifier}
use Rattle.life_typed.specs.Delimiters.{DelimitersForm}
use Rattle.life_typed.specs.TypedForm.{Typed, forms, index, member, method, whole}
use Rattle.life_typed.specs.declared.typed_expr.Category.{Category}
use Rattle.life_typed.specs.declared.typed_expr.Category.TheVariants as category
use Rattle.life_typed.specs.declared.typed_expr.ExprType.{ExprType}
use Rattle.life_typed.specs.declared.typed_expr.ExprType.TheVariants as expr_type
use Rattle.life_typed.specs.declared.typed_expr.Method.{Method}
use Rattle.life_names.specs.Checked.{Checked, ◌>>=◌}
use Rattle.life_names.specs.Environment.{Scope, StructureView, structure, text}
use Rattle.life_names.specs.Found.{Found, found_in, given, not_found}
use Rattle.life_type_expr.specs.Lists.{ListMeaning, Meaning, method_parameters, passed}
use Rattle.life_type_expr.specs.Operands.{const_or, is_constant, literal_allowed, place_of, pointed_to}
use Rattle.life_typed.specs.Members.{method_answer, method_named, mutates, method_parameters as parameters_of}
use Rattle.life_typed.specs.Operators.{indexed}
use Rattle.life_names.specs.declared.environment.MemberType.{MemberType}
use Rattle.life_names.specs.declared.fault.IllKind.{IllKind}
use Rattle.life_names.specs.declared.fault.IllKind.TheVariants as kinds
use Rattle.life_type_expr.specs.declared.members.Called.{Called}
use Rattle.life_typed.specs.declared.members.MethodParameters.{MethodParameters}

-- ---- members of structs

-- the first member with this name, and its number; numbers are of 32 bits
abbrev pub member_from : ℕ → List MemberType → NameId → Option (ℕ × TyId)
member_from n [] name = None
member_from n (m ∷ ms) name = if nat_eq m.name.0 name.0 && nat_lt n (2 ^ 32 - 1) then Some (n, m.ty) else member_from (suc n) ms name

abbrev pub member_of_struct : Option StructureView → NameId → Option (ℕ × TyId)
member_of_struct None name = None
member_of_struct (Some s) name = member_from 0 s.members name

abbrev pub member_of : ExprType → NameId → Scope → Option (ℕ × TyId)
member_of (expr_type.Of (ty.Struct number)) name scope = member_of_struct (structure scope number) name
member_of _ name scope = None

-- the member of a place; a struct that is a value isn't served
abbrev pub member_in : Category → Types → Place → Typed → ℕ × TyId → Found Typed
member_in category.Value types place base m = not_found kinds.Unsupported place
member_in (category.Place id constant) types place base m = Ok (place_of types m.1 constant place (member (whole base) m.0))

abbrev pub data_member_of : Option (ℕ × TyId) → Types → Place → Typed → Found Typed
data_member_of None types place base = not_found kinds.UnknownName place
data_member_of (Some m) types place base = member_in base.category types place base m

abbrev pub data_member : Identifier → Scope → Types → Typed → Found Typed
data_member name scope types base = data_member_of (member_of base.ty name.id scope) types name.place base

-- ---- member functions

abbrev pub called_with : Ty → Method → Option MethodParameters → Place → Found Called
called_with t m None place = not_found kinds.UnknownName place
called_with t m (Some p) place = Ok (record { base = t; method = m; parameters = p })

abbrev pub called_as : Option Method → Ty → Types → Place → Found Called
called_as None t types place = not_found kinds.UnknownName place
called_as (Some m) t types place = called_with t m (parameters_of types t m) place

-- a data member is no function
abbrev pub called_member : Option (ℕ × TyId) → Place → Found Called
called_member None place = not_found kinds.UnknownName place
called_member (Some m) place = not_found kinds.WrongType place

abbrev pub struct_number : Ty → Option ℕ
struct_number (ty.Struct number) = Some number
struct_number _ = None

-- .. of the struct with that number, or of a type that is no struct
abbrev pub called_in : Option ℕ → Ty → Identifier → Scope → Types → Found Called
called_in None t name scope types = called_as (method_named (text scope name.id)) t types name.place
called_in (Some number) t name scope types = called_member (member_of_struct (structure scope number) name.id) name.place

unfoldable pub called_of : ExprType → Identifier → Scope → Types → Found Called
called_of (expr_type.Of t) name scope types = called_in (struct_number t) t name scope types
called_of expr_type.NullPointer name scope types = not_found kinds.UnknownName name.place
called_of expr_type.TextLiteral name scope types = not_found kinds.UnknownName name.place

-- a member function that changes its object isn't called on a `const` place
unfoldable pub change_fault : Method → Category → Option IllKind
change_fault m c = if mutates m then const_or (is_constant c) None else None

abbrev pub answered_as : Option (ExprType × Category) → Place → Typed → Method → List Typed → DelimitersForm → Found Typed
answered_as None place base m arguments delimiters = not_found kinds.UnknownName place
answered_as (Some answer) place base m arguments delimiters =
    Ok (record { place = place; ty = answer.0; category = answer.1; form = method (whole base) m (forms arguments) delimiters })

abbrev pub answered : Called → Types → Place → Typed → List Typed → DelimitersForm → Found Typed
answered called types place base arguments delimiters =
    answered_as (method_answer types called.base (is_constant base.category) called.method) place base called.method arguments delimiters

abbrev pub method_called : Called → Place → ListMeaning → Typed → Scope → Types → Checked Typed
method_called called place arguments base scope types =
    passed kinds.WrongArguments (change_fault called.method base.category) place (method_parameters called.parameters) arguments.list scope types >>= (λ x.
    found_in x.1 (answered called x.1 place base x.0 arguments.delimiters))

abbrev pub method_call : Identifier → ListMeaning → Typed → Scope → Types → Checked Typed
method_call name arguments base scope types =
    given (called_of base.ty name scope types) (λ called. method_called called name.place arguments base scope types)

-- ---- behind an operand

-- a member, or a call of one
abbrev pub member_part : Identifier → Option ListMeaning → Typed → Scope → Types → Checked Typed
member_part name None base scope types = found_in types (data_member name scope types base)
member_part name (Some arguments) base scope types = method_call name arguments base scope types

-- behind a `.`
abbrev pub dot_part : Identifier → Option ListMeaning → Typed → Scope → Types → Checked Typed
dot_part name arguments base scope types = given (literal_allowed false base) (λ _. member_part name arguments base scope types)

-- behind a `->`: `e->m` is `(*e).m`
abbrev pub arrow_part : Identifier → Option ListMeaning → Typed → Scope → Types → Checked Typed
arrow_part name arguments base scope types =
    given (literal_allowed false base) (λ _.
    given (pointed_to types name.place base) (λ target.
    member_part name arguments target scope types))

abbrev pub is_position : ExprType → Bool
is_position (expr_type.Of t) = is_value t
is_position expr_type.NullPointer = false
is_position expr_type.TextLiteral = false

abbrev pub element_of : Typed → Typed → Option (TyId × Bool)
element_of base position = if is_position position.ty then indexed base.ty (is_constant base.category) else None

abbrev pub indexed_to : Option (TyId × Bool) → Types → Place → Typed → Typed → Place → Found Typed
indexed_to None types opening base position closing = not_found kinds.WrongType opening
indexed_to (Some element) types opening base position closing =
    Ok (place_of types element.0 element.1 opening (index (whole base) (whole position) closing))

abbrev pub indexed_at : Types → Place → Typed → Typed → Place → Found Typed
indexed_at types opening base position closing = indexed_to (element_of base position) types opening base position closing

-- in brackets
abbrev pub index_part : Place → Meaning → Place → Typed → Scope → Types → Checked Typed
index_part opening position closing base scope types =
    given (literal_allowed false base) (λ _.
    position scope types >>= (λ x.
    given (literal_allowed false x.0) (λ _.
    found_in x.1 (indexed_at x.1 opening base x.0 closing))))
