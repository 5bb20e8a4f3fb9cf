-- Expressions with their types, as plain data.
use Rattle.std.specs.Prelude.{ℕ, Bool, List, [], ◌∷◌, Box, Option, None, Some, map}
use Rattle.std.specs.declared.alloc.Global.{Global}
use Rattle.life_types.specs.declared.place.Place.{Place}
use Rattle.life_types.specs.declared.ty.TyId.{TyId}
use Rattle.life_typed.specs.Delimiters.{DelimitersForm, delimiters_view}
use Rattle.life_typed.specs.declared.typed_expr.BinaryOperator.{BinaryOperator}
use Rattle.life_typed.specs.declared.typed_expr.Category.{Category}
use Rattle.life_typed.specs.declared.typed_expr.ExprType.{ExprType}
use Rattle.life_typed.specs.declared.typed_expr.Method.{Method}
use Rattle.life_typed.specs.declared.typed_expr.ExprForm.TheFolds.{fold-ExprForm, fold-TypedExpr, fold-TypedOperand}
use Rattle.life_typed.specs.declared.typed_expr.ExprForm.TheOpen as open_expr
use Rattle.life_typed.specs.declared.typed_expr.ExprForm.{ExprForm}
use Rattle.life_typed.specs.declared.typed_expr.TypedExpr.{TypedExpr}
use Rattle.life_typed.specs.declared.typed_expr.TypedOperand.{TypedOperand}

-- what an expression is made of; a list of expressions is one and then the next, up to nothing
infixr 30 ◌⨟◌
pub data Form : Type 0 where
  number : ℕ → Form
  character : ℕ → Form
  boolean : Bool → Form
  text : ℕ → Form
  null : Form
  local : ℕ → Form
  call : (function : ℕ) → (arguments : Form) → DelimitersForm → Form
  construct : (structure : ℕ) → (elements : Form) → DelimitersForm → Form
  paren : (inner : Form) → (closing : Place) → Form
  move : ℕ → Form
  make_unique : TyId → (argument : Form) → (closing : Place) → Form
  text_of : (inner : Form) → (closing : Place) → Form
  input : Form
  member : (base : Form) → (member : ℕ) → Form
  dereference : Form → Form
  index : (base index : Form) → (closing : Place) → Form
  method : (base : Form) → Method → (arguments : Form) → DelimitersForm → Form
  negate : Form → Form
  not : Form → Form
  address_of : Form → Form
  binary : BinaryOperator → (left right : Form) → Form
  -- an expression: where its own token stands, its type, whether it is a place, and what it is
  typed : Place → ExprType → Category → Form → Form
  nothing : Form
  ◌⨟◌ : Form → Form → Form

-- an expression
pub record Typed : Type 0 where
  pub place : Place
  pub ty : ExprType
  pub category : Category
  pub form : Form

abbrev pub whole : Typed → Form
whole e = typed e.place e.ty e.category e.form

abbrev pub forms : List Typed → Form
forms [] = nothing
forms (e ∷ es) = whole e ⨟ forms es

-- one that may be left out
abbrev pub optional_form : Option Typed → Form
optional_form None = nothing
optional_form (Some e) = whole e

-- ---- the views of the program's values

abbrev pub boxed_form : Box Typed Global → Form
boxed_form e = whole e.value

abbrev pub optional_boxed_form : Option (Box Typed Global) → Form
optional_boxed_form None = nothing
optional_boxed_form (Some e) = boxed_form e

-- what a form makes of the operand to which it is applied; one that is applied to none makes what it is
abbrev pub Applied : Type 0
Applied = Form → Form

-- one level of a value, with what is inside already seen as plain data
abbrev pub form_step : open_expr.ExprForm-F Applied Typed Applied → Applied
form_step (open_expr.Number value) operand = number value
form_step (open_expr.Char value) operand = character value
form_step (open_expr.Bool value) operand = boolean value
form_step (open_expr.Text id) operand = text id
form_step open_expr.Null operand = null
form_step (open_expr.Local id) operand = local id
form_step (open_expr.Call function arguments delimiters) operand = call function (forms arguments.items) (delimiters_view delimiters.value)
form_step (open_expr.Construct structure elements delimiters) operand = construct structure (forms elements.items) (delimiters_view delimiters.value)
form_step (open_expr.Paren closing) operand = paren operand closing
form_step (open_expr.Move id) operand = move id
form_step (open_expr.MakeUnique element argument closing) operand = make_unique element (optional_boxed_form argument) closing
form_step (open_expr.TextOf closing) operand = text_of operand closing
form_step open_expr.Input operand = input
form_step (open_expr.Member which) operand = member operand which
form_step open_expr.Dereference operand = dereference operand
form_step (open_expr.Index position closing) operand = index operand (boxed_form position) closing
form_step (open_expr.Method called arguments delimiters) operand = method operand called (forms arguments.items) (delimiters_view delimiters.value)
form_step open_expr.Negate operand = negate operand
form_step open_expr.Not operand = not operand
form_step open_expr.AddressOf operand = address_of operand
form_step (open_expr.Binary operator right) operand = binary operator operand (boxed_form right)

-- an operand, of what is within it
abbrev pub operand_step : open_expr.TypedOperand-F Applied Typed Applied → Applied
operand_step o operand = typed o.place o.ty o.category (o.form operand)

-- operands one in the other, the first the innermost
abbrev pub nested : Form → List Applied → Form
nested operand [] = operand
nested operand (f ∷ fs) = nested (f operand) fs

abbrev pub typed_step : open_expr.TypedExpr-F Applied Typed Applied → Typed
typed_step e = record { place = e.place; ty = e.ty; category = e.category; form = e.form (nested nothing e.within.items) }

abbrev pub form_view : ExprForm → Applied
form_view = fold-ExprForm Applied Typed Applied form_step typed_step operand_step

abbrev pub typed_view : TypedExpr → Typed
typed_view = fold-TypedExpr Applied Typed Applied form_step typed_step operand_step

abbrev pub operand_view : TypedOperand → Applied
operand_view = fold-TypedOperand Applied Typed Applied form_step typed_step operand_step

-- what a form makes of an expression to which it is applied
abbrev pub applied : Typed → Place → ExprType → Category → Applied → Typed
applied e place ty category form = record { place = place; ty = ty; category = category; form = form (whole e) }

-- .. of several
abbrev pub typed_views : List TypedExpr → List Typed
typed_views es = map typed_view es
