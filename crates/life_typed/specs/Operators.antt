-- Which operands each operator takes, and the type of its answer.
use Rattle.std.specs.Prelude.{Bool, true, false, ◌&&◌, ◌||◌, Option, None, Some, Result, Ok, Err, if◌then◌else◌}
use Rattle.life_types.specs.TypeTests.{is_char, is_iterator, is_long, is_raw, is_size, is_text, is_unique, is_value, is_view}
use Rattle.life_types.specs.declared.ty.Ty.{Ty}
use Rattle.life_types.specs.declared.ty.Ty.TheVariants as ty
use Rattle.life_types.specs.declared.ty.TyId.{TyId}
use Rattle.life_types.specs.contracts.ty.TyIdPartialEq.TheImpl.{ghosts as id}
use Rattle.life_typed.specs.declared.basic.TheConstants.{CHAR}
use Rattle.life_typed.specs.declared.misfit.Misfit.{Misfit}
use Rattle.life_typed.specs.declared.misfit.Misfit.TheVariants.{General, Literal, Unsupported}
use Rattle.life_typed.specs.declared.typed_expr.BinaryOperator.{BinaryOperator}
use Rattle.life_typed.specs.declared.typed_expr.BinaryOperator.TheVariants.{Or, And, Equal, NotEqual, Less, LessEqual, Greater, GreaterEqual, Add, Subtract, Multiply, Divide, Remainder}
use Rattle.life_typed.specs.declared.typed_expr.ExprType.{ExprType}
use Rattle.life_typed.specs.declared.typed_expr.ExprType.TheVariants.{Of, NullPointer, TextLiteral}

-- ---- tests of operands

-- a raw pointer or a unique_ptr
abbrev pub is_nullable : Ty → Bool
is_nullable t = is_raw t || is_unique t

-- a string or a view
abbrev pub is_text_like : Ty → Bool
is_text_like t = is_text t || is_view t

abbrev pub is_literal : ExprType → Bool
is_literal (Of t) = false
is_literal NullPointer = false
is_literal TextLiteral = true

abbrev pub is_raw_operand : ExprType → Bool
is_raw_operand (Of t) = is_raw t
is_raw_operand NullPointer = false
is_raw_operand TextLiteral = false

abbrev pub is_condition_type : Ty → Bool
is_condition_type t = is_value t || is_nullable t

-- what `if`, `while`, `for`, `!`, `&&` and `||` take
abbrev pub is_condition : ExprType → Bool
is_condition (Of t) = is_condition_type t
is_condition NullPointer = false
is_condition TextLiteral = false

-- ---- numbers

-- the type that two values are brought to
abbrev pub promoted : Ty → Ty → Ty
promoted a b = if is_size a || is_size b then ty.Size else (if is_long a || is_long b then ty.Long else ty.Int)

abbrev pub negated_type : Ty → Result Ty Misfit
negated_type t = if is_value t then Ok (promoted t t) else Err General

-- `-e`
abbrev pub negated : ExprType → Result Ty Misfit
negated (Of t) = negated_type t
negated NullPointer = Err General
negated TextLiteral = Err Literal

-- the type where the test holds
abbrev pub given : Bool → Ty → Option Ty
given test t = if test then Some t else None

abbrev pub arithmetic : Ty → Ty → Option Ty
arithmetic a b = given (is_value a && is_value b) (promoted a b)

-- ---- operators between two operands

-- `*`, `/`, `%`: two values
abbrev pub multiplied : ExprType → ExprType → Option Ty
multiplied (Of a) (Of b) = arithmetic a b
multiplied _ _ = None

-- an iterator moved by a value
abbrev pub moved : Ty → Ty → Option Ty
moved iterator by = given (is_value by) iterator

-- what a string is joined with
abbrev pub is_joined : Ty → Bool
is_joined t = is_text t || is_char t

-- string and string, string and char, char and string
abbrev pub concatenated : Ty → Ty → Option Ty
concatenated a b = if is_joined a && is_joined b then Some ty.Text else None

abbrev pub added_types : Ty → Ty → Option Ty
added_types a b = if is_text a || is_text b then concatenated a b else (if is_iterator a then moved a b else arithmetic a b)

-- `+`: two values, an iterator and a value, a string with a string, a literal or a char
abbrev pub added : ExprType → ExprType → Option Ty
added (Of a) (Of b) = added_types a b
added (Of a) TextLiteral = given (is_text a) ty.Text
added TextLiteral (Of b) = given (is_text b) ty.Text
added _ _ = None

abbrev pub subtracted_types : Ty → Ty → Option Ty
subtracted_types a b = if is_iterator a then moved a b else arithmetic a b

-- `-`: two values, an iterator and a value
abbrev pub subtracted : ExprType → ExprType → Option Ty
subtracted (Of a) (Of b) = subtracted_types a b
subtracted _ _ = None

-- `<`, `<=`, `>`, `>=`: two values
abbrev pub ordered : ExprType → ExprType → Option Ty
ordered (Of a) (Of b) = given (is_value a && is_value b) ty.Bool
ordered _ _ = None

-- two iterators of one type of elements, const or not
abbrev pub are_iterators_of_one : Ty → Ty → Bool
are_iterators_of_one (ty.Iterator a m) (ty.Iterator b n) = id.eq a b
are_iterators_of_one _ _ = false

abbrev pub are_equated : Ty → Ty → Bool
are_equated a b = (is_value a && is_value b) || (is_text_like a && is_text_like b) || are_iterators_of_one a b

-- `==`, `!=`: two values, two iterators, two of string, view and literal but not two literals, a raw pointer or unique_ptr and nullptr
abbrev pub equated : ExprType → ExprType → Option Ty
equated (Of a) (Of b) = given (are_equated a b) ty.Bool
equated (Of a) TextLiteral = given (is_text_like a) ty.Bool
equated TextLiteral (Of b) = given (is_text_like b) ty.Bool
equated (Of a) NullPointer = given (is_nullable a) ty.Bool
equated NullPointer (Of b) = given (is_nullable b) ty.Bool
equated _ _ = None

-- `&&`, `||`: two conditions
abbrev pub joined_conditions : ExprType → ExprType → Option Ty
joined_conditions a b = given (is_condition a && is_condition b) ty.Bool

-- the type of the answer
abbrev pub answer : BinaryOperator → ExprType → ExprType → Option Ty
answer Or a b = joined_conditions a b
answer And a b = joined_conditions a b
answer Equal a b = equated a b
answer NotEqual a b = equated a b
answer Less a b = ordered a b
answer LessEqual a b = ordered a b
answer Greater a b = ordered a b
answer GreaterEqual a b = ordered a b
answer Add a b = added a b
answer Subtract a b = subtracted a b
answer Multiply a b = multiplied a b
answer Divide a b = multiplied a b
answer Remainder a b = multiplied a b

-- the operators that take a string literal beside some operands
abbrev pub takes_literals : BinaryOperator → Bool
takes_literals Add = true
takes_literals Equal = true
takes_literals NotEqual = true
takes_literals _ = false

abbrev pub is_equality : BinaryOperator → Bool
is_equality Equal = true
is_equality NotEqual = true
is_equality _ = false

-- why there is none: a literal that isn't taken, two raw pointers compared, or another
abbrev pub misfit : BinaryOperator → ExprType → ExprType → Misfit
misfit operator a b =
    if is_literal a || is_literal b then Literal else (if is_equality operator && is_raw_operand a && is_raw_operand b then Unsupported else General)

abbrev pub answered : Option Ty → Misfit → Result Ty Misfit
answered (Some t) why = Ok t
answered None why = Err why

abbrev pub combined : BinaryOperator → ExprType → ExprType → Result Ty Misfit
combined operator a b = answered (answer operator a b) (misfit operator a b)

-- ---- places behind an operand

-- `*e`: the type of the target, and whether it is const
abbrev pub dereferenced : ExprType → Option (TyId × Bool)
dereferenced (Of (ty.Raw target constant)) = Some (target, constant)
dereferenced (Of (ty.Iterator target constant)) = Some (target, constant)
dereferenced (Of (ty.Unique target)) = Some (target, false)
dereferenced _ = None

-- `e[i]`, where e is const as a place or not
abbrev pub indexed : ExprType → Bool → Option (TyId × Bool)
indexed (Of (ty.Vector element)) constant = Some (element, constant)
indexed (Of ty.Text) constant = Some (CHAR, constant)
indexed (Of ty.View) constant = Some (CHAR, true)
indexed (Of (ty.Span target held)) constant = Some (target, held)
indexed _ constant = None
