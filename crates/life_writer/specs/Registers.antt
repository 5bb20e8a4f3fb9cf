-- Registers, and what is written to them.
use Rattle.std.specs.Prelude.{ℕ, zero, suc, false, List, [], ◌∷◌, ◌++◌, Option, Some, None, length, if◌then◌else◌, ℤ}
use Rattle.life_types.specs.Types.{with_type}
use Rattle.life_types.specs.contracts.ty.TyPartialEq.TheImpl.{ghosts as compared}
use Rattle.life_types.specs.declared.place.Place.{Place}
use Rattle.life_types.specs.declared.ty.Ty.{Ty}
use Rattle.life_types.specs.declared.ty.TyId.{TyId}
use Rattle.life_core.specs.Operands.{Operand}
use Rattle.life_core.specs.Step.{Step, Eval, Load}
use Rattle.life_core.specs.declared.operation.Operation.{Operation}
use Rattle.life_core.specs.declared.operation.Operation.TheVariants as operation
use Rattle.life_core.specs.declared.program.Local.{Local}
use Rattle.life_core.specs.declared.program.LocalKind.TheVariants.{Register}
use Rattle.life_writer.specs.Building.{Fill, Destination, built}
use Rattle.life_writer.specs.Writing.{State, Gives, gives, ◌>>◌}

-- ---- types

-- the place of a type among others
abbrev pub number_of : List Ty → Ty → ℕ
number_of [] t = zero
number_of (x ∷ xs) t = if compared.eq t x then zero else suc (number_of xs t)

-- the table has the type from here on
abbrev pub typed_with : Ty → State → State
typed_with t s = record s { types = record s.types { types = with_type s.types.types t } }

abbrev pub type_number : Ty → State → TyId
type_number t s = record { 0 = number_of s.types.types t }

-- ---- locals

-- the next local is this one
abbrev pub with_local : Local → State → Gives ℕ
with_local l s = gives (length s.locals) (record s { locals = s.locals ++ l ∷ [] })

-- a local without a name
abbrev pub nameless : Place → TyId → Local
nameless place ty = record { name = None; ty = ty; kind = Register; place = place; nonnull = false; keeps = false }

abbrev pub with_nameless : Place → Ty → State → Gives ℕ
with_nameless place t s = with_local (nameless place (type_number t s)) s

-- a register stands where the first point that writes it does
abbrev pub new_register : Place → Ty → State → Gives ℕ
new_register place t s = with_nameless place t (typed_with t s)

-- ---- values in registers

-- the register that a value goes to: the one that is wanted, or a new one, which is written first here
abbrev pub target : Place → Option ℕ → Ty → State → Gives ℕ
target place (Some r) t s = gives r s
target place None t s = new_register place t s

abbrev pub wanted : Place → Option ℕ → Ty → Destination
wanted place into t = record { begins = target place into t; place = place }

-- a register that an instruction writes
abbrev pub computed : Option ℕ → Ty → Place → (ℕ → Step) → State → Gives ℕ
computed into t place step s = built (Fill place (λ l. step l.local)) (wanted place into t) s

abbrev pub eval : Operation → ℕ → Step
eval operation r = Eval r operation

abbrev pub constant : ℤ → ℕ → Step
constant z = eval (operation.Number z)

abbrev pub conversion : ℕ → ℕ → Step
conversion from = eval (operation.Convert from)

abbrev pub load : Operand → ℕ → Step
load from r = Load r from

-- ---- conversions

-- a register's value as one of another type
abbrev pub converted : (from to : Ty) → Place → ℕ → State → Gives ℕ
converted from to place r s = if compared.eq from to then gives r s else computed None to place (conversion r) s

-- .. where the value is yet to be written, to the register that is wanted
abbrev pub as_type : (from to : Ty) → Place → (Option ℕ → State → Gives ℕ) → Option ℕ → State → Gives ℕ
as_type from to place value into s =
    if compared.eq from to then value into s else (value None s >> λ r s. computed into to place (conversion r) s)
