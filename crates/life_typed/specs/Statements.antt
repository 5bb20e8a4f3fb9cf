-- What assignments with an operator, steps, prints and loops over ranges take.
use Rattle.std.specs.Prelude.{Bool, true, false, ◌&&◌, ◌||◌, Option, Err, if◌then◌else◌}
use Rattle.life_types.specs.TypeTests.{is_char, is_text, is_value}
use Rattle.life_tree.specs.declared.operator.CompoundOperator.{CompoundOperator}
use Rattle.life_tree.specs.declared.operator.CompoundOperator.TheVariants.{Add, Subtract, Multiply, Divide, Remainder}
use Rattle.life_types.specs.declared.ty.Ty.{Ty}
use Rattle.life_types.specs.declared.ty.Ty.TheVariants as ty
use Rattle.life_types.specs.declared.ty.TyId.{TyId}
use Rattle.life_typed.specs.Conversions.{Fit, fitting}
use Rattle.life_typed.specs.Operators.{indexed, is_text_like}
use Rattle.life_typed.specs.declared.misfit.Misfit.TheVariants.{General, Literal}
use Rattle.life_typed.specs.declared.typed_expr.ExprType.{ExprType}
use Rattle.life_typed.specs.declared.typed_expr.ExprType.TheVariants.{Of, NullPointer, TextLiteral}

abbrev pub fitting_where : Bool → Fit
fitting_where test = if test then fitting else Err General

-- two values
abbrev pub counted : Ty → ExprType → Fit
counted target (Of t) = fitting_where (is_value target && is_value t)
counted target NullPointer = Err General
counted target TextLiteral = Err Literal

-- a string, view, literal or char
abbrev pub appended_to_text : ExprType → Fit
appended_to_text (Of t) = fitting_where (is_text_like t || is_char t)
appended_to_text NullPointer = Err General
appended_to_text TextLiteral = fitting

abbrev pub appended : Ty → ExprType → Fit
appended target value = if is_text target then appended_to_text value else counted target value

-- `+=`: two values, or a string and what it takes; `-=`, `*=`, `/=`, `%=`: two values
abbrev pub compounded : CompoundOperator → Ty → ExprType → Fit
compounded Add target value = appended target value
compounded Subtract target value = counted target value
compounded Multiply target value = counted target value
compounded Divide target value = counted target value
compounded Remainder target value = counted target value

-- `++`, `--`: values other than bool, and iterators
abbrev pub can_step : Ty → Bool
can_step ty.Char = true
can_step ty.Int = true
can_step ty.Long = true
can_step ty.Size = true
can_step (ty.Iterator target constant) = true
can_step _ = false

abbrev pub is_printed_type : Ty → Bool
is_printed_type t = is_value t || is_text_like t

-- what `std::cout <<` takes
abbrev pub is_printed : ExprType → Bool
is_printed (Of t) = is_printed_type t
is_printed NullPointer = false
is_printed TextLiteral = true

-- what a loop over a range goes through: what an index gives
abbrev pub range_element : ExprType → Bool → Option (TyId × Bool)
range_element range constant = indexed range constant
