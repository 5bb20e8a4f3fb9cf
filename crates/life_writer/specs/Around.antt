-- What stays the same while a function is written: the program and the function.
use Rattle.std.specs.Prelude.{ℕ, if◌then◌else◌, List, [], Option, Some, None, length, map, nat_lt, slice_get, take}
use Rattle.life_types.specs.declared.ty.Ty.{Ty}
use Rattle.life_types.specs.declared.ty.Ty.TheVariants as ty
use Rattle.life_types.specs.declared.ty.TyId.{TyId}
use Rattle.life_typed.specs.BaseTypes.{type_at}
use Rattle.life_typed.specs.TypedForm.{Form, typed}
use Rattle.life_typed.specs.declared.typed_expr.ExprType.{ExprType}
use Rattle.life_typed.specs.declared.typed_expr.ExprType.TheVariants as expr_type
use Rattle.life_typed.specs.declared.typed_program.TypedLocal.{TypedLocal}
use Rattle.life_typed.specs.Programs.{FunctionForm, ProgramForm}

pub record Around : Type 0 where
  pub program : ProgramForm
  pub function : FunctionForm

-- the type with a number
abbrev pub type_of : Around → TyId → Ty
type_of a id = type_at a.program.types id

-- ---- texts

-- what endl writes stands behind the texts of the file
abbrev pub end_line : Around → ℕ
end_line a = length a.program.texts

-- the text of a literal with a number; one that the file doesn't have counts as the end of a line
abbrev pub text_in : ProgramForm → ℕ → ℕ
text_in p n = if nat_lt n (length p.texts) then n else length p.texts

-- ---- functions

-- the types of a function's parameters, which are its first locals
abbrev pub types_of : ℕ → List TypedLocal → List TyId
types_of n locals = map (λ (l : TypedLocal). l.ty) (take n locals)

abbrev pub parameters_of : Option FunctionForm → List TyId
parameters_of None = []
parameters_of (Some f) = types_of (length f.parameters) f.locals

-- .. by the function's number
abbrev pub parameter_types : Around → ℕ → List TyId
parameter_types a f = parameters_of (slice_get a.program.functions f)

-- the local of the function's result, where it has one: it comes right behind the parameters
abbrev pub result_local : Around → ℕ
result_local a = length a.function.parameters

-- ---- expressions

-- the type of an expression that has one of its own
abbrev pub own_type : ExprType → Ty
own_type (expr_type.Of t) = t
own_type expr_type.NullPointer = ty.Void
own_type expr_type.TextLiteral = ty.Void

-- the type of an operand
abbrev pub operand_type : Form → ExprType
operand_type (typed place t category form) = t
operand_type _ = expr_type.NullPointer
