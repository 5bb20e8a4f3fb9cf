-- What an operator between two operands does: a row for each case, by the operator and the types of the operands (ISO/IEC 14882:2017 [expr]).
use Rattle.std.specs.Prelude.{Bool, true, false, ◌&&◌, Option, Some, None, if◌then◌else◌}
use Rattle.life_types.specs.TypeTests.{is_iterator, is_value}
use Rattle.life_types.specs.declared.ty.Ty.{Ty}
use Rattle.life_typed.specs.Operators.{promoted}
use Rattle.life_typed.specs.TypedForm.{Form}
use Rattle.life_typed.specs.declared.typed_expr.BinaryOperator.{BinaryOperator}
use Rattle.life_typed.specs.declared.typed_expr.BinaryOperator.TheVariants as typed
use Rattle.life_typed.specs.declared.typed_expr.ExprType.{ExprType}
use Rattle.life_typed.specs.declared.typed_expr.ExprType.TheVariants as expr_type
use Rattle.life_core.specs.declared.instr.Direction.TheVariants.{Forward, Backward}
use Rattle.life_core.specs.declared.operation.Operator.{Operator}
use Rattle.life_core.specs.declared.operation.Operator.TheVariants as core
use Rattle.life_writer.specs.Around.{operand_type, own_type}
use Rattle.life_writer.specs.declared.rows.Row.{Row}
use Rattle.life_writer.specs.declared.rows.Row.TheVariants.{Computed, Joined, IsNull, NotNull, Concatenated, Advanced, Compared}
use Rattle.life_writer.specs.declared.rows.Join.TheVariants.{Both, Either}
use Rattle.life_writer.specs.declared.rows.Side.{Side}
use Rattle.life_writer.specs.declared.rows.Side.TheVariants.{Left, Right}

-- ---- the rows

-- the type in which two operands are computed
abbrev pub common : ExprType → ExprType → Ty
common left right = promoted (own_type left) (own_type right)

-- where the operand stands that is compared with nullptr, if one is
abbrev pub beside_null : ExprType → ExprType → Option Side
beside_null expr_type.NullPointer right = Some Right
beside_null _ expr_type.NullPointer = Some Left
beside_null _ _ = None

-- a comparison with nullptr is a test
abbrev pub unless_null : Option Side → (null : Side → Row) → (otherwise : Row) → Row
unless_null (Some side) null otherwise = null side
unless_null None null otherwise = otherwise

-- two values are compared as numbers
abbrev pub compared : Operator → (equal : Bool) → (left right : ExprType) → Row
compared operator equal left right = if is_value (own_type left) then Computed operator (common left right) else Compared equal

-- a sum of two values, or of two texts; the left operand alone may be an iterator
abbrev pub added : (left right : ExprType) → Row
added left right =
    if is_iterator (own_type left) then Advanced Forward
    else (if is_value (own_type left) && is_value (own_type right) then Computed core.Add (common left right) else Concatenated)

abbrev pub subtracted : (left right : ExprType) → Row
subtracted left right = if is_iterator (own_type left) then Advanced Backward else Computed core.Subtract (common left right)

abbrev pub row_of : BinaryOperator → (left right : ExprType) → Row
row_of typed.Or left right = Joined Either
row_of typed.And left right = Joined Both
row_of typed.Equal left right = unless_null (beside_null left right) IsNull (compared core.Equal true left right)
row_of typed.NotEqual left right = unless_null (beside_null left right) NotNull (compared core.NotEqual false left right)
row_of typed.Less left right = Computed core.Less (common left right)
row_of typed.LessEqual left right = Computed core.LessEqual (common left right)
row_of typed.Greater left right = Computed core.Greater (common left right)
row_of typed.GreaterEqual left right = Computed core.GreaterEqual (common left right)
row_of typed.Add left right = added left right
row_of typed.Subtract left right = subtracted left right
row_of typed.Multiply left right = Computed core.Multiply (common left right)
row_of typed.Divide left right = Computed core.Divide (common left right)
row_of typed.Remainder left right = Computed core.Remainder (common left right)

-- .. between two expressions
abbrev pub row_between : BinaryOperator → (left right : Form) → Row
row_between operator left right = row_of operator (operand_type left) (operand_type right)

-- ---- tests on rows

-- a value that is computed from two others
abbrev pub computes : Row → Bool
computes (Computed operator t) = true
computes _ = false

-- a condition that is made of two others
abbrev pub joins : Row → Bool
joins (Joined join) = true
joins _ = false

-- a text that is made of two others
abbrev pub concatenates : Row → Bool
concatenates Concatenated = true
concatenates _ = false

-- an iterator that is moved
abbrev pub advances : Row → Bool
advances (Advanced direction) = true
advances _ = false
