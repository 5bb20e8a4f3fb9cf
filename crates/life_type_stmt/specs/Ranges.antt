-- The head of a loop over a range (ISO/IEC 14882:2017 [stmt.ranged]). Its variable is given each element, which is a place.
use Rattle.std.specs.Prelude.{ℕ, Bool, false, Option, Some, None, Ok}
use Rattle.life_types.specs.Types.{Types}
use Rattle.life_types.specs.declared.place.Place.{Place}
use Rattle.life_types.specs.declared.ty.TyId.{TyId}
use Rattle.life_tree.specs.declared.declaration.AutoType.{AutoType}
use Rattle.life_tree.specs.declared.declaration.DeclaredType.{DeclaredType}
use Rattle.life_tree.specs.declared.declaration.DeclaredType.TheVariants as declared_type
use Rattle.life_tree.specs.declared.expr.Expr.{Expr}
use Rattle.life_tree.specs.declared.identifier.Identifier.{Identifier}
use Rattle.life_tree.specs.declared.type_name.TypeName.{TypeName}
use Rattle.life_typed.specs.TypedForm.{Typed}
use Rattle.life_typed.specs.declared.typed_expr.Category.{Category}
use Rattle.life_typed.specs.declared.typed_expr.Category.TheVariants as category
use Rattle.life_typed.specs.declared.typed_expr.ExprType.{ExprType}
use Rattle.life_typed.specs.declared.typed_expr.ExprType.TheVariants as expr_type
use Rattle.life_type_stmt.specs.Autos.{auto_written}
use Rattle.life_names.specs.Checked.{Checked, ◌>>=◌}
use Rattle.life_type_stmt.specs.Declarations.{local_of, redeclared}
use Rattle.life_names.specs.Environment.{Scope, declared}
use Rattle.life_type_expr.specs.Expressions.{expr_meaning}
use Rattle.life_names.specs.Found.{Found, allowed, given, not_found}
use Rattle.life_type_stmt.specs.Given.{value_fault}
use Rattle.life_type_expr.specs.Operands.{is_constant, literal_allowed}
use Rattle.life_typed.specs.Statements.{range_element}
use Rattle.life_typed.specs.BaseTypes.{type_at}
use Rattle.life_names.specs.WrittenTypes.{written_local}
use Rattle.life_names.specs.declared.fault.IllKind.TheVariants as kinds

-- a range with its elements: their type, and whether they may be changed through it
pub record RangeForm : Type 0 where
  pub range : Typed
  pub element : TyId × Bool

-- the variable's number, and what is gone over
pub record RangeHead : Type 0 where
  pub local : ℕ
  pub range : Typed

abbrev pub elements_of : Option (TyId × Bool) → Place → Typed → Found RangeForm
elements_of None colon e = not_found kinds.WrongType colon
elements_of (Some element) colon e = Ok (record { range = e; element = element })

-- what is gone over for a variable of this name
abbrev pub range_of : Identifier → Place → Expr → Scope → Types → Checked RangeForm
range_of name colon e scope types =
    expr_meaning e scope types >>= (λ x. given (literal_allowed false x.0) (λ _.
    given (allowed (redeclared scope name.id) name.place) (λ _.
    given (elements_of (range_element x.0.ty (is_constant x.0.category)) colon x.0) (λ r. Ok (r, x.1)))))

-- an element as an expression
abbrev pub element_type : Types → TyId × Bool → ExprType
element_type types element = expr_type.Of (type_at types element.0)

abbrev pub element_place : TyId × Bool → Category
element_place element = category.Place element.0 element.1

-- a variable with a type that is written
abbrev pub written_head : TypeName → Identifier → Place → Expr → Scope → Types → Checked (RangeHead × Scope)
written_head t name colon e scope types =
    written_local t name.place scope types >>= (λ w. range_of name colon e scope w.1 >>= (λ r.
    given (allowed (value_fault kinds.WrongType r.1 (type_at w.1 w.0.ty) (element_type r.1 r.0.element) (element_place r.0.element)) name.place) (λ _.
    given (declared (local_of name w.0) scope) (λ n. Ok ((record { local = n.0; range = r.0.range }, n.1), r.1)))))

-- .. with `auto`
abbrev pub auto_head : AutoType → Identifier → Place → Expr → Scope → Types → Checked (RangeHead × Scope)
auto_head a name colon e scope types =
    range_of name colon e scope types >>= (λ r.
    auto_written a name.place (element_type r.1 r.0.element) (element_place r.0.element) scope r.1 >>= (λ w.
    given (declared (local_of name w.0) scope) (λ n. Ok ((record { local = n.0; range = r.0.range }, n.1), w.1))))

abbrev pub range_head : DeclaredType → Identifier → Place → Expr → Scope → Types → Checked (RangeHead × Scope)
range_head (declared_type.Written t) name colon e scope types = written_head t name colon e scope types
range_head (declared_type.Auto a) name colon e scope types = auto_head a name colon e scope types
