-- The type of a variable that is declared with `auto` (ISO/IEC 14882:2017 [dcl.spec.auto]): that of the expression as a value.
use Rattle.std.specs.Prelude.{Bool, false, List, Option, Some, None, Result, Ok, Err, is_some}
use Rattle.life_types.specs.Trees.{is_plain, tree_at}
use Rattle.life_types.specs.Types.{Types}
use Rattle.life_types.specs.declared.place.Place.{Place}
use Rattle.life_types.specs.declared.ty.Ty.{Ty}
use Rattle.life_types.specs.declared.ty.Ty.TheVariants as ty
use Rattle.life_types.specs.declared.ty.TyId.{TyId}
use Rattle.life_tree.specs.declared.declaration.AutoType.{AutoType}
use Rattle.life_tree.specs.declared.declaration.InitialValue.{InitialValue}
use Rattle.life_tree.specs.declared.declaration.InitialValue.TheVariants as initial_value
use Rattle.life_tree.specs.declared.declaration.Initializer.{Initializer}
use Rattle.life_tree.specs.declared.declaration.Initializer.TheVariants as initializer
use Rattle.life_tree.specs.declared.expr.Expr.{Expr}
use Rattle.life_tree.specs.declared.expr.InitList.{InitList, out-InitList}
use Rattle.life_typed.specs.TypedForm.{Typed}
use Rattle.life_typed.specs.TypedStatement.{InitialForm, one, several}
use Rattle.life_typed.specs.declared.typed_expr.Category.{Category}
use Rattle.life_typed.specs.declared.typed_expr.ExprType.{ExprType}
use Rattle.life_typed.specs.declared.typed_expr.ExprType.TheVariants as expr_type
use Rattle.life_names.specs.Checked.{Checked, ◌>>=◌, broken}
use Rattle.life_type_stmt.specs.Each.{each}
use Rattle.life_names.specs.Environment.{Scope, structure}
use Rattle.life_type_stmt.specs.Conditions.{unless}
use Rattle.life_type_expr.specs.Expressions.{expr_meaning}
use Rattle.life_names.specs.Found.{allowed, given}
use Rattle.life_type_stmt.specs.Given.{value_fault}
use Rattle.life_type_expr.specs.Lists.{lower_kind}
use Rattle.life_type_expr.specs.Operands.{literal_allowed}
use Rattle.life_names.specs.Table.{type_added}
use Rattle.life_names.specs.WrittenTypes.{struct_type}
use Rattle.life_names.specs.declared.fault.IllKind.{IllKind}
use Rattle.life_names.specs.declared.fault.IllKind.TheVariants as kinds
use Rattle.life_names.specs.declared.written.Written.{Written}

-- ---- what stands behind `auto x`

-- an element of a list that initialises nothing
abbrev pub lone_element : Expr → Scope → Types → Checked Typed
lone_element e scope types = expr_meaning e scope types >>= (λ x. given (literal_allowed false x.0) (λ _. Ok x))

abbrev pub lone_elements : List Expr → Scope → Types → Checked (List Typed)
lone_elements es scope types = each lone_element es scope types

abbrev pub lone_list : InitList → Scope → Types → Checked InitialForm
lone_list l scope types =
    lone_elements (out-InitList l).list.items scope types >>= (λ x.
    Ok (several (record { opening = (out-InitList l).opening; elements = x.0; delimiters = record { commas = (out-InitList l).commas.items; closing = (out-InitList l).closing } }), x.1))

abbrev pub auto_value : InitialValue → Scope → Types → Checked InitialForm
auto_value (initial_value.Expr e) scope types = expr_meaning e.value scope types >>= (λ x. Ok (one x.0, x.1))
auto_value (initial_value.List l) scope types = lone_list l scope types

abbrev pub auto_given : Option Initializer → Scope → Types → Checked (Option InitialForm)
auto_given None scope types = Ok (None, types)
auto_given (Some (initializer.Equals equals value)) scope types = auto_value value scope types >>= (λ x. Ok (Some x.0, x.1))
auto_given (Some (initializer.List l)) scope types = lone_list l scope types >>= (λ x. Ok (Some x.0, x.1))

-- ---- its type

-- a type that a variable may have
abbrev pub variable_type : Ty → Result Ty IllKind
variable_type ty.Void = Err kinds.WrongType
variable_type t = Ok t

-- .. by an expression
abbrev pub auto_target : ExprType → Result Ty IllKind
auto_target (expr_type.Of t) = variable_type t
auto_target expr_type.NullPointer = Err kinds.WrongType
auto_target expr_type.TextLiteral = Err kinds.Unsupported

-- the number of the type of an expression; a struct's is known where it is declared
abbrev pub type_number : Place → Ty → Scope → Types → Checked TyId
type_number place (ty.Struct number) scope types = struct_type (structure scope number) place types
type_number place t scope types = type_added place t types

-- the rule that a reference breaks whose target is plain or not; the lowest of several
abbrev pub reference_fault : Bool → Option IllKind → Option IllKind
reference_fault plain misfit = lower_kind misfit (unless plain kinds.NotPlain)

-- a variable with a value of this type, whose number is given
abbrev pub auto_object : Bool → Place → Ty → TyId → ExprType → Category → Types → Checked Written
auto_object constant place t id e category types =
    given (allowed (value_fault kinds.WrongType types t e category) place) (λ _. Ok (record { ty = id; constant = constant }, types))

-- a reference to what has this type
abbrev pub auto_reference : Bool → Place → TyId → ExprType → Category → Types → Checked Written
auto_reference constant place id e category types =
    type_added place (ty.Reference id constant) types >>= (λ r.
    given (allowed (reference_fault (is_plain (tree_at r.1 id)) (value_fault kinds.WrongType r.1 (ty.Reference id constant) e category)) place) (λ _.
    Ok (record { ty = r.0; constant = false }, r.1)))

abbrev pub auto_declared : Option Place → Bool → Place → Ty → TyId → ExprType → Category → Types → Checked Written
auto_declared None constant place t id e category types = auto_object constant place t id e category types
auto_declared (Some reference) constant place t id e category types = auto_reference constant place id e category types

abbrev pub auto_from : AutoType → Place → Result Ty IllKind → ExprType → Category → Scope → Types → Checked Written
auto_from a place (Err kind) e category scope types = broken kind place
auto_from a place (Ok t) e category scope types =
    type_number place t scope types >>= (λ id. auto_declared a.reference (is_some a.constant) place t id.0 e category id.1)

-- the type of a variable whose name stands at this place, from an expression of this type
abbrev pub auto_written : AutoType → Place → ExprType → Category → Scope → Types → Checked Written
auto_written a place e category scope types = auto_from a place (auto_target e) e category scope types

-- .. from what it is given: a list has no type
abbrev pub auto_local : AutoType → Place → Option InitialForm → Scope → Types → Checked Written
auto_local a place None scope types = broken kinds.WrongType place
auto_local a place (Some (one e)) scope types = auto_written a place e.ty e.category scope types
auto_local a place (Some (several l)) scope types = broken kinds.WrongType place
