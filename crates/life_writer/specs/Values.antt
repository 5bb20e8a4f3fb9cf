-- Values: how what is computed and what is read comes into a register.
use Rattle.std.specs.Int.{cast_signed, w64}
use Rattle.std.specs.Prelude.{ℕ, Bool, true, false, Option, Some, None, ℤ, pos}
use Rattle.life_types.specs.declared.place.Place.{Place}
use Rattle.life_types.specs.declared.ty.Ty.{Ty}
use Rattle.life_typed.specs.declared.typed_expr.Category.{Category}
use Rattle.life_typed.specs.declared.typed_expr.Category.TheVariants as category
use Rattle.life_core.specs.Operands.{Operand}
use Rattle.life_core.specs.Step.{Step, Ports, Takes}
use Rattle.life_core.specs.Tree.{Tree}
use Rattle.life_core.specs.declared.operation.Operation.TheVariants as operation
use Rattle.life_core.specs.declared.operation.Operator.{Operator}
use Rattle.life_writer.specs.Conditions.{by_branch}
use Rattle.life_writer.specs.Registers.{computed, eval, load}
use Rattle.life_writer.specs.Writing.{State, Gives, ◌>>◌}

abbrev pub truth : Bool → ℤ
truth true = pos 1
truth false = pos 0

-- the long that is written for the number of a literal, which it is: each number that a file can write is a long
abbrev pub long : ℕ → ℤ
long n = cast_signed w64 n

abbrev pub negated : ℕ → ℕ → Step
negated operand = eval (operation.Negate operand)

abbrev pub binary : Operator → ℕ → ℕ → ℕ → Step
binary operator left right = eval (operation.Binary operator left right)

abbrev pub input : ℕ → Step
input r = Ports (Takes r)

-- both operands, the left one first, and then the operator
abbrev pub operated : Option ℕ → Ty → Place → Operator → (left right : State → Gives ℕ) → State → Gives ℕ
operated into t place operator left right s =
    left s >> λ x s. right s >> λ y s. computed into t place (binary operator x y) s

-- ---- a value of its own type

-- a place is read where it stands
abbrev pub read : Ty → Place → (State → Gives Operand) → Option ℕ → State → Gives ℕ
read t place at into s = at s >> λ from s. computed into t place (load from) s

abbrev pub read_or_made : Ty → Place → Category → (State → Gives Operand) → (Option ℕ → State → Gives ℕ) → Option ℕ → State → Gives ℕ
read_or_made t place category.Value at made into s = made into s
read_or_made t place (category.Place ty constant) at made into s = read t place at into s

-- what is decided by tests is a branch, with an answer on each side
abbrev pub value_from :
    Ty → Place → Category → Option (State → Gives Tree) → (State → Gives Operand) → (Option ℕ → State → Gives ℕ) → Option ℕ → State → Gives ℕ
value_from t place category (Some decision) at made into s = by_branch into t place decision s
value_from t place category None at made into s = read_or_made t place category at made into s
