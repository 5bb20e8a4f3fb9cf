-- What decides, and what is printed.
use Rattle.std.specs.Prelude.{Bool, true, false, List, Box, Option, Some, None, Ok}
use Rattle.std.specs.declared.alloc.Global.{Global}
use Rattle.life_types.specs.Types.{Types}
use Rattle.life_tree.specs.declared.expr.Expr.{Expr}
use Rattle.life_tree.specs.declared.stmt.PrintItem.{PrintItem}
use Rattle.life_tree.specs.declared.stmt.PrintItem.TheVariants as print_item
use Rattle.life_tree.specs.declared.stmt.PrintPart.{PrintPart}
use Rattle.life_typed.specs.TypedForm.{Typed}
use Rattle.life_typed.specs.TypedStatement.{ItemForm, printed, line_end}
use Rattle.life_names.specs.Checked.{Checked, ◌>>=◌}
use Rattle.life_type_stmt.specs.Each.{each}
use Rattle.life_names.specs.Environment.{Scope}
use Rattle.life_type_expr.specs.Expressions.{additive_meaning, expr_meaning}
use Rattle.life_names.specs.Found.{allowed, given}
use Rattle.life_type_expr.specs.Operands.{literal_allowed}
use Rattle.life_typed.specs.Statements.{is_printed}
use Rattle.life_typed.specs.Operators.{is_condition}
use Rattle.life_names.specs.declared.fault.IllKind.{IllKind}
use Rattle.life_names.specs.declared.fault.IllKind.TheVariants as kinds

-- this rule is broken unless that holds
abbrev pub unless : Bool → IllKind → Option IllKind
unless true kind = None
unless false kind = Some kind

-- an expression that decides
abbrev pub condition : Expr → Scope → Types → Checked Typed
condition e scope types =
    expr_meaning e scope types >>= (λ x.
    given (literal_allowed false x.0) (λ _.
    given (allowed (unless (is_condition x.0.ty) kinds.WrongType) x.0.place) (λ _. Ok x)))

-- .. where it may be left out
abbrev pub optional_condition : Option (Box Expr Global) → Scope → Types → Checked (Option Typed)
optional_condition None scope types = Ok (None, types)
optional_condition (Some e) scope types = condition e.value scope types >>= (λ x. Ok (Some x.0, x.1))

-- an item that is printed
abbrev pub item : PrintItem → Scope → Types → Checked ItemForm
item (print_item.Value e) scope types =
    additive_meaning e scope types >>= (λ x.
    given (allowed (unless (is_printed x.0.ty) kinds.WrongType) x.0.place) (λ _. Ok (printed x.0, x.1)))
item (print_item.EndLine name) scope types = Ok (line_end name.word, types)

abbrev pub part_item : PrintPart → Scope → Types → Checked ItemForm
part_item p scope types = item p.item scope types

-- the items of a statement
abbrev pub items : List PrintPart → Scope → Types → Checked (List ItemForm)
items ps scope types = each part_item ps scope types
