-- Expressions and the operands within them, as plain data.
use Rattle.std.specs.Prelude.{◌≡◌, Bool, true, false, Box, List, [], ◌∷◌, Option, None, Some, map}
use Rattle.std.specs.declared.alloc.Global.{Global}
use Rattle.life_typed.specs.Delimiters.{delimiters_view}
use Rattle.life_typed.specs.TypedForm.{Form, Typed, number, character, boolean, text, null, local, call, construct, paren, move, make_unique, text_of, input, member, dereference, index, method, negate, not, address_of, binary, nothing, forms, form_view, nested, operand_view, typed_view, typed_views, whole}
use Rattle.life_typed.specs.declared.typed_expr.TypedExpr.{TypedExpr}
use Rattle.life_typed.specs.declared.typed_expr.TypedOperand.{TypedOperand}
use Rattle.life_writer.specs.declared.parts.Node.{Node}
use Rattle.life_writer.specs.declared.parts.Part.{Part}
use Rattle.life_writer.specs.declared.parts.Shape.{Shape}
use Rattle.life_writer.specs.declared.parts.Shape.TheVariants as shape

-- operands one in the other
abbrev pub inside : List TypedOperand → Form
inside operands = nested nothing (map operand_view operands)

abbrev pub part_view : Part → Typed
part_view p = record { place = p.place; ty = p.ty; category = p.category; form = form_view p.form.now (inside p.within.now) }

-- one that may not be there
abbrev pub part_form : Option Part → Form
part_form None = nothing
part_form (Some p) = whole (part_view p)

abbrev pub argument_form : Option (Box TypedExpr Global) → Form
argument_form None = nothing
argument_form (Some e) = whole (typed_view e.value)

-- whether there is none
abbrev pub has_none : List TypedExpr → Bool
has_none [] = true
has_none (e ∷ es) = false

-- the first of some, and the second
abbrev pub first_form : List TypedExpr → Form
first_form [] = nothing
first_form (e ∷ es) = whole (typed_view e)

abbrev pub second_form : List TypedExpr → Form
second_form [] = nothing
second_form (e ∷ es) = first_form es

abbrev pub shape_form : Shape → Form
shape_form (shape.Number n) = number n
shape_form (shape.Char c) = character c
shape_form (shape.Bool b) = boolean b
shape_form (shape.Text t) = text t
shape_form shape.Null = null
shape_form (shape.Local x) = local x
shape_form (shape.Call f arguments delimiters) = call f (forms (typed_views arguments.now)) (delimiters_view delimiters.now)
shape_form (shape.Construct s elements delimiters) = construct s (forms (typed_views elements.now)) (delimiters_view delimiters.now)
shape_form (shape.Paren inner closing) = paren (part_form inner) closing
shape_form (shape.Move x) = move x
shape_form (shape.MakeUnique element argument closing) = make_unique element (part_form argument) closing
shape_form (shape.TextOf inner closing) = text_of (part_form inner) closing
shape_form shape.Input = input
shape_form (shape.Member base which) = member (part_form base) which
shape_form (shape.Dereference e) = dereference (part_form e)
shape_form (shape.Index base position closing) = index (part_form base) (whole (part_view position)) closing
shape_form (shape.Method base called arguments delimiters) = method (part_form base) called (forms (typed_views arguments.now)) (delimiters_view delimiters.now)
shape_form (shape.Negate e) = negate (part_form e)
shape_form (shape.Not e) = not (part_form e)
shape_form (shape.AddressOf e) = address_of (part_form e)
shape_form (shape.Binary operator left right) = binary operator (part_form left) (whole (part_view right))

abbrev pub node_view : Node → Typed
node_view n = record { place = n.place; ty = n.ty; category = n.category; form = shape_form n.shape }

abbrev pub node_form : Option Node → Form
node_form None = nothing
node_form (Some n) = whole (node_view n)

-- the left operand of an operator, the object of a member or an element, or what is dereferenced, is this one
abbrev pub HasLeft : Shape → Form → Type 0
HasLeft (shape.Binary operator left right) f = part_form left ≡ f
HasLeft (shape.Method base called arguments delimiters) f = part_form base ≡ f
HasLeft (shape.Member base which) f = part_form base ≡ f
HasLeft (shape.Dereference e) f = part_form e ≡ f
HasLeft (shape.Index base position closing) f = part_form base ≡ f
HasLeft _ f = Unit {0}
