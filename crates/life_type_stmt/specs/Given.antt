-- What a variable, a target or a result is given (ISO/IEC 14882:2017 [dcl.init]).
use Rattle.std.specs.Prelude.{Option, Some, None, Ok}
use Rattle.life_types.specs.Types.{Types}
use Rattle.life_types.specs.declared.ty.Ty.{Ty}
use Rattle.life_tree.specs.declared.declaration.InitialValue.{InitialValue}
use Rattle.life_tree.specs.declared.declaration.InitialValue.TheVariants as initial_value
use Rattle.life_tree.specs.declared.declaration.Initializer.{Initializer}
use Rattle.life_tree.specs.declared.declaration.Initializer.TheVariants as initializer
use Rattle.life_tree.specs.declared.expr.Expr.{Expr}
use Rattle.life_tree.specs.declared.expr.InitList.{InitList}
use Rattle.life_typed.specs.TypedForm.{Typed}
use Rattle.life_typed.specs.TypedStatement.{InitialForm, one, several}
use Rattle.life_typed.specs.declared.typed_expr.Category.{Category}
use Rattle.life_typed.specs.declared.typed_expr.ExprType.{ExprType}
use Rattle.life_names.specs.Checked.{Checked, ◌>>=◌}
use Rattle.life_names.specs.Environment.{Scope}
use Rattle.life_type_expr.specs.Expressions.{expr_meaning, list_checked}
use Rattle.life_names.specs.Found.{given}
use Rattle.life_type_expr.specs.Lists.{is_taken, misfit_of}
use Rattle.life_type_expr.specs.Operands.{literal_allowed}
use Rattle.life_typed.specs.Conversions.{fits}
use Rattle.life_names.specs.declared.fault.IllKind.{IllKind}

-- the rule that is broken where an expression is given to this type
abbrev pub value_fault : IllKind → Types → Ty → ExprType → Category → Option IllKind
value_fault general types target t category = misfit_of general (fits types target t category)

-- .. an expression or a list; a list told of itself what doesn't fit in it
abbrev pub initial_fault : IllKind → Types → Ty → InitialForm → Option IllKind
initial_fault general types target (one e) = value_fault general types target e.ty e.category
initial_fault general types target (several l) = None

-- ---- what is given where this type is wanted; a string literal stands where it converts

abbrev pub given_expr : Ty → Expr → Scope → Types → Checked Typed
given_expr target e scope types =
    expr_meaning e scope types >>= (λ x. given (literal_allowed (is_taken x.1 (Some target) x.0) x.0) (λ _. Ok x))

abbrev pub given_list : Ty → InitList → Scope → Types → Checked InitialForm
given_list target l scope types = list_checked target l scope types >>= (λ x. Ok (several x.0, x.1))

abbrev pub given_value : Ty → InitialValue → Scope → Types → Checked InitialForm
given_value target (initial_value.Expr e) scope types = given_expr target e.value scope types >>= (λ x. Ok (one x.0, x.1))
given_value target (initial_value.List l) scope types = given_list target l scope types

abbrev pub given_first : Ty → Option Initializer → Scope → Types → Checked (Option InitialForm)
given_first target None scope types = Ok (None, types)
given_first target (Some (initializer.Equals equals value)) scope types = given_value target value scope types >>= (λ x. Ok (Some x.0, x.1))
given_first target (Some (initializer.List l)) scope types = given_list target l scope types >>= (λ x. Ok (Some x.0, x.1))
