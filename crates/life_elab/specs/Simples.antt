-- Assignments, steps and calls.
use Rattle.std.specs.Prelude.{ℕ, None}
use Rattle.life_types.specs.declared.place.Place.{Place}
use Rattle.life_types.specs.declared.ty.Ty.{Ty}
use Rattle.life_tree.specs.declared.operator.CompoundOperator.{CompoundOperator}
use Rattle.life_tree.specs.declared.operator.CompoundOperator.TheVariants as compound
use Rattle.life_tree.specs.declared.operator.StepOperator.{StepOperator}
use Rattle.life_tree.specs.declared.operator.StepOperator.TheVariants as step
use Rattle.life_typed.specs.TypedForm.{Typed}
use Rattle.life_core.specs.Operands.{Operand}
use Rattle.life_core.specs.Step.{Save}
use Rattle.life_core.specs.declared.operation.Operation.{Operation}
use Rattle.life_core.specs.declared.operation.Operator.{Operator}
use Rattle.life_core.specs.declared.operation.Operator.TheVariants as core
use Rattle.life_writer.specs.Around.{own_type}
use Rattle.life_writer.specs.Registers.{as_type, computed, converted, eval}
use Rattle.life_writer.specs.Values.{read}
use Rattle.life_writer.specs.Writing.{State, Gives, gives, ◌>>◌, emit}

abbrev pub type_in : Typed → Ty
type_in e = own_type e.ty

-- ---- assignments that compute, and steps

-- what a place holds, as a value of a type
abbrev pub held : (target : Typed) → Operand → Ty → State → Gives ℕ
held target at t s = as_type (type_in target) t target.place (read (type_in target) target.place (gives at)) None s

-- the operator's answer goes back to the place
abbrev pub put_back : (target : Typed) → Operand → Ty → Place → Operation → State → State
put_back target at t place operation s =
    computed None t place (eval operation) s >> λ x s.
    converted t (type_in target) place x s >> λ y s. emit place (Save at y) s

abbrev pub compound_operator : CompoundOperator → Operator
compound_operator compound.Add = core.Add
compound_operator compound.Subtract = core.Subtract
compound_operator compound.Multiply = core.Multiply
compound_operator compound.Divide = core.Divide
compound_operator compound.Remainder = core.Remainder

abbrev pub step_operator : StepOperator → Operator
step_operator step.Increment = core.Add
step_operator step.Decrement = core.Subtract
