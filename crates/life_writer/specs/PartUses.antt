-- The uses of expressions and of operands within them, as the code has them.
use Rattle.std.specs.Prelude.{List, Option}
use Rattle.life_typed.specs.TypedForm.{forms, typed_view, typed_views, whole}
use Rattle.life_typed.specs.declared.typed_expr.TypedExpr.{TypedExpr}
use Rattle.life_writer.specs.Around.{Around}
use Rattle.life_writer.specs.ExpressionForms.{all_uses, uses}
use Rattle.life_writer.specs.Parts.{node_view, part_form}
use Rattle.life_writer.specs.Uses.{Uses}
use Rattle.life_writer.specs.declared.parts.Node.{Node}
use Rattle.life_writer.specs.declared.parts.Part.{Part}

abbrev pub expression_uses : Around → TypedExpr → Uses
expression_uses a e = uses a (whole (typed_view e))

abbrev pub expressions_uses : Around → List TypedExpr → List Uses
expressions_uses a es = all_uses a (forms (typed_views es))

-- of an operand, which may not be there
abbrev pub part_uses : Around → Option Part → Uses
part_uses a p = uses a (part_form p)

abbrev pub node_uses : Around → Node → Uses
node_uses a n = uses a (whole (node_view n))
