-- Expressions in which `&&` and `||` stand in parentheses, brackets and lists alone. Such is each item of an output, which is a sum.
use Rattle.std.specs.Prelude.{Bool, true, false, not as isnt, ◌&&◌}
use Rattle.life_typed.specs.TypedForm.{Form, binary, negate, not, typed}
use Rattle.life_typed.specs.declared.typed_expr.BinaryOperator.{BinaryOperator}
use Rattle.life_typed.specs.declared.typed_expr.BinaryOperator.TheVariants as operators

abbrev pub joins : BinaryOperator → Bool
joins operators.And = true
joins operators.Or = true
joins _ = false

abbrev pub is_apart : Form → Bool
is_apart (typed place t category form) = is_apart form
is_apart (negate e) = is_apart e
is_apart (not e) = is_apart e
is_apart (binary o left right) = isnt (joins o) && (is_apart left && is_apart right)
is_apart _ = true
