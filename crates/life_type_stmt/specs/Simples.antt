-- Assignments, steps and calls as statements (ISO/IEC 14882:2017 [expr.ass], [expr.pre.incr], [expr.post.incr]).
use Rattle.std.specs.Prelude.{ℕ, ◌==◌, Bool, true, false, ◌&&◌, Box, Option, Some, None, Ok, if◌then◌else◌}
use Rattle.std.specs.declared.alloc.Global.{Global}
use Rattle.life_types.specs.Types.{Types}
use Rattle.life_types.specs.declared.place.Place.{Place}
use Rattle.life_types.specs.declared.ty.Ty.{Ty}
use Rattle.life_types.specs.declared.ty.Ty.TheVariants as ty
use Rattle.life_tree.specs.declared.declaration.InitialValue.{InitialValue}
use Rattle.life_tree.specs.declared.expr.Expr.{Expr}
use Rattle.life_tree.specs.declared.operator.CompoundOperator.{CompoundOperator}
use Rattle.life_tree.specs.declared.operator.StepOperator.{StepOperator}
use Rattle.life_tree.specs.declared.primary.Postfix.{Postfix}
use Rattle.life_tree.specs.declared.simple.Simple.{Simple}
use Rattle.life_tree.specs.declared.simple.Simple.TheVariants as simple
use Rattle.life_tree.specs.declared.simple.Target.{Target}
use Rattle.life_typed.specs.TypedForm as form
use Rattle.life_typed.specs.TypedForm.{Form, Typed}
use Rattle.life_typed.specs.TypedStatement as typed
use Rattle.life_typed.specs.TypedStatement.{InitialForm, one, several, SimpleForm}
use Rattle.life_typed.specs.declared.typed_expr.Category.{Category}
use Rattle.life_typed.specs.declared.typed_expr.Category.TheVariants as category
use Rattle.life_typed.specs.declared.typed_expr.ExprType.{ExprType}
use Rattle.life_typed.specs.declared.typed_expr.ExprType.TheVariants as expr_type
use Rattle.life_names.specs.Checked.{Checked, ◌>>=◌}
use Rattle.life_names.specs.Environment.{Scope}
use Rattle.life_type_stmt.specs.Conditions.{unless}
use Rattle.life_type_expr.specs.Expressions.{expr_meaning, postfix_meaning, target_meaning}
use Rattle.life_names.specs.Found.{Found, allowed, found_with, given}
use Rattle.life_type_stmt.specs.Given.{given_value, initial_fault}
use Rattle.life_type_expr.specs.Lists.{fits_at_all, lower_kind, misfit_of, struct_fault}
use Rattle.life_type_expr.specs.Operands.{const_or, is_constant, literal_allowed}
use Rattle.life_typed.specs.BaseTypes.{type_at}
use Rattle.life_typed.specs.Conversions.{Fit}
use Rattle.life_typed.specs.Statements.{compounded, can_step}
use Rattle.life_types.specs.Trees.{holds_unique, tree_at}
use Rattle.life_names.specs.declared.fault.IllKind.{IllKind}
use Rattle.life_names.specs.declared.fault.IllKind.TheVariants as kinds

-- ---- what is assigned to or stepped

-- a target is no string literal
abbrev pub target : Target → Scope → Types → Checked Typed
target t scope types = target_meaning t scope types >>= (λ x. given (literal_allowed false x.0) (λ _. Ok x))

abbrev pub operand : Postfix → Scope → Types → Checked Typed
operand p scope types = postfix_meaning p scope types >>= (λ x. given (literal_allowed false x.0) (λ _. Ok x))

-- an owner that is a value becomes a temporary, which is a place
abbrev pub is_owner : Ty → Bool
is_owner ty.Text = true
is_owner (ty.Vector element) = true
is_owner (ty.Unique target) = true
is_owner t = false

abbrev pub is_place : ExprType → Category → Bool
is_place e (category.Place t constant) = true
is_place (expr_type.Of t) category.Value = is_owner t
is_place expr_type.NullPointer category.Value = false
is_place expr_type.TextLiteral category.Value = false

-- the type that something is given to
abbrev pub type_of : ExprType → Ty
type_of (expr_type.Of t) = t
type_of expr_type.NullPointer = ty.Void
type_of expr_type.TextLiteral = ty.Void

-- ---- assignments

-- a whole struct is assigned by a copy, which one that holds a `std::unique_ptr` has none of
abbrev pub whole_fault : Types → Category → Option IllKind
whole_fault types category.Value = None
whole_fault types (category.Place id constant) = struct_fault (type_at types id) (holds_unique (tree_at types id))

-- the variable that an expression names, also in parentheses
abbrev pub named_in : Form → Option ℕ
named_in (form.local n) = Some n
named_in (form.paren inner closing) = named_in inner
named_in (form.typed place t c inner) = named_in inner
named_in other = None

-- the variable that it moves from, also in parentheses, or where a string is made of what is moved: that is the string which is moved
abbrev pub moved_in : Form → Option ℕ
moved_in (form.move n) = Some n
moved_in (form.paren inner closing) = moved_in inner
moved_in (form.text_of inner closing) = moved_in inner
moved_in (form.typed place t c inner) = moved_in inner
moved_in other = None

-- nothing is moved onto itself
abbrev pub onto_itself : Option ℕ → Option ℕ → Option IllKind
onto_itself None moved = None
onto_itself (Some n) None = None
onto_itself (Some n) (Some m) = if n == m then Some kinds.Unsupported else None

abbrev pub self_fault : Form → InitialForm → Option IllKind
self_fault t (one e) = onto_itself (named_in t) (moved_in e.form)
self_fault t (several l) = None

-- the rule that an assignment breaks at its `=`; the lowest of several
abbrev pub assignment_fault : Types → Typed → InitialForm → Option IllKind
assignment_fault types t v =
    lower_kind (unless (is_place t.ty t.category) kinds.NotAssignable)
    (lower_kind (whole_fault types t.category)
    (lower_kind (initial_fault kinds.NotAssignable types (type_of t.ty) v)
    (const_or (is_constant t.category) (self_fault t.form v))))

abbrev pub assignment : Target → Place → InitialValue → Scope → Types → Checked SimpleForm
assignment t equals v scope types =
    target t scope types >>= (λ x. given_value (type_of x.0.ty) v scope x.1 >>= (λ y.
    given (allowed (assignment_fault y.1 x.0 y.0) equals) (λ _. Ok (typed.assign x.0 equals y.0, y.1))))

-- ---- `+=` and its kind

abbrev pub compound_fault : Fit → Typed → Option IllKind
compound_fault fit t =
    lower_kind (unless (is_place t.ty t.category) kinds.WrongType)
    (lower_kind (misfit_of kinds.WrongType fit) (const_or (is_constant t.category) None))

-- a string literal is only appended to a string
abbrev pub compound : Target → CompoundOperator → Place → Expr → Scope → Types → Checked SimpleForm
compound t operator place v scope types =
    target t scope types >>= (λ x. expr_meaning v scope x.1 >>= (λ y.
    given (literal_allowed (fits_at_all (compounded operator (type_of x.0.ty) y.0.ty)) y.0) (λ _.
    given (allowed (compound_fault (compounded operator (type_of x.0.ty) y.0.ty) x.0) place) (λ _.
    Ok (typed.compound x.0 operator place y.0, y.1)))))

-- ---- `++` and `--`

abbrev pub step_fault : Typed → Option IllKind
step_fault t = lower_kind (unless (is_place t.ty t.category && can_step (type_of t.ty)) kinds.WrongType) (const_or (is_constant t.category) None)

abbrev pub stepped : StepOperator → Place → Typed → Found SimpleForm
stepped operator place t = found_with (allowed (step_fault t) place) (λ _. Ok (typed.step t operator place))

abbrev pub prefix_step : StepOperator → Place → Target → Scope → Types → Checked SimpleForm
prefix_step operator place t scope types = target t scope types >>= (λ x. given (stepped operator place x.0) (λ s. Ok (s, x.1)))

abbrev pub postfix_step : Postfix → StepOperator → Place → Scope → Types → Checked SimpleForm
postfix_step t operator place scope types = operand t scope types >>= (λ x. given (stepped operator place x.0) (λ s. Ok (s, x.1)))

-- ---- a call alone

abbrev pub discarded : Postfix → Scope → Types → Checked SimpleForm
discarded call scope types = operand call scope types >>= (λ x. Ok (typed.discarded x.0, x.1))

-- ---- all of them

abbrev pub simple_statement : Simple → Scope → Types → Checked SimpleForm
simple_statement (simple.Assign t equals v) scope types = assignment t equals v scope types
simple_statement (simple.Compound t operator place v) scope types = compound t operator place v.value scope types
simple_statement (simple.PrefixStep operator place t) scope types = prefix_step operator place t scope types
simple_statement (simple.PostfixStep t operator place) scope types = postfix_step t operator place scope types
simple_statement (simple.Call call) scope types = discarded call scope types

abbrev pub optional_simple : Option (Box Simple Global) → Scope → Types → Checked (Option SimpleForm)
optional_simple None scope types = Ok (None, types)
optional_simple (Some s) scope types = simple_statement s.value scope types >>= (λ x. Ok (Some x.0, x.1))
