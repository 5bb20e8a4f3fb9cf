-- Calls.
use Rattle.std.specs.Prelude.{ℕ, ◌&&◌, not, List, ◌∷◌, Option, Some, None, if◌then◌else◌}
use Rattle.life_types.specs.contracts.ty.TyPartialEq.TheImpl.{ghosts as compared}
use Rattle.life_types.specs.declared.ty.Ty.{Ty}
use Rattle.life_typed.specs.Conversions.{is_place}
use Rattle.life_typed.specs.Delimiters.{DelimitersForm}
use Rattle.life_typed.specs.TypedForm.{Form, Typed, typed, call, paren}
use Rattle.life_core.specs.Operands.{Argument, Location, Value}
use Rattle.life_core.specs.Step.{Step, Call}
use Rattle.life_writer.specs.Around.{own_type}
use Rattle.life_writer.specs.Writing.{State, Gives, ◌>>◌, mapped}

-- a call that gives its result somewhere, and one that has none
abbrev pub called : ℕ → List Argument → Location → Step
called f given l = Call (Some l) (record { 0 = f }) given

abbrev pub called_alone : ℕ → List Argument → Step
called_alone f given = Call None (record { 0 = f }) given

-- an argument by value, before the others
abbrev pub handed : (State → Gives ℕ) → (State → Gives (List Argument)) → State → Gives (List Argument)
handed first others s = first s >> λ r s. mapped (λ given. Value r ∷ given) (others s)

-- a call: the number of the function, the arguments, and the tokens behind them
pub record Called : Type 0 where
  pub function : ℕ
  pub arguments : Form
  pub delimiters : DelimitersForm

-- the call that an expression is, also in parentheses
abbrev mutual
  pub expression_call : Form → Option Called
  expression_call (typed place t category form) = form_call form
  expression_call _ = None

  pub form_call : Form → Option Called
  form_call (call f arguments delimiters) = Some (record { function = f; arguments = arguments; delimiters = delimiters })
  form_call (paren inner closing) = expression_call inner
  form_call _ = None

-- .. where its result needs no conversion to a type
abbrev pub call_for : Typed → Ty → Option Called
call_for e t = if compared.eq (own_type e.ty) t && not (is_place e.category) then form_call e.form else None
