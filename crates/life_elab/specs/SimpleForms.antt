-- Assignments, steps and calls of every type (ISO/IEC 14882:2017 [expr.ass], [expr.pre.incr], [expr.post.incr], [stmt.expr]).
use Rattle.std.specs.Prelude.{Option, Some, None, if◌then◌else◌, pos}
use Rattle.life_types.specs.TypeTests.{is_iterator, is_text, is_void}
use Rattle.life_types.specs.Types.{class}
use Rattle.life_types.specs.declared.place.Place.{Place}
use Rattle.life_types.specs.declared.ty.Class.{Class}
use Rattle.life_types.specs.declared.ty.Class.TheVariants as classes
use Rattle.life_types.specs.declared.ty.Ty.{Ty}
use Rattle.life_types.specs.declared.ty.Ty.TheVariants as ty
use Rattle.life_tree.specs.declared.operator.CompoundOperator.{CompoundOperator}
use Rattle.life_tree.specs.declared.operator.StepOperator.{StepOperator}
use Rattle.life_tree.specs.declared.operator.StepOperator.TheVariants as step
use Rattle.life_typed.specs.Operators.{promoted}
use Rattle.life_typed.specs.TypedForm.{Typed, whole}
use Rattle.life_typed.specs.TypedStatement.{InitialForm, SimpleForm}
use Rattle.life_typed.specs.TypedStatement as typed
use Rattle.life_typed.specs.declared.typed_expr.Category.{Category}
use Rattle.life_typed.specs.declared.typed_expr.Category.TheVariants as category
use Rattle.life_core.specs.Step.{Advance, Append}
use Rattle.life_core.specs.declared.instr.Direction.{Direction}
use Rattle.life_core.specs.declared.instr.Direction.TheVariants.{Forward, Backward}
use Rattle.life_core.specs.declared.operation.Operation.TheVariants as operation
use Rattle.life_writer.specs.Around.{Around}
use Rattle.life_writer.specs.Assigning.{Target}
use Rattle.life_writer.specs.Assigning as assigning
use Rattle.life_writer.specs.Characters.{changed_by, seen}
use Rattle.life_writer.specs.ExpressionForms.{uses}
use Rattle.life_writer.specs.Registers.{computed, constant}
use Rattle.life_writer.specs.Uses.{Uses, own}
use Rattle.life_writer.specs.Using.{operand, pointer, temporary_of, value}
use Rattle.life_writer.specs.Variables.{full}
use Rattle.life_writer.specs.Writing.{State, ◌>>◌, emit}
use Rattle.life_elab.specs.DeclarationForms.{initial_uses}
use Rattle.life_elab.specs.Simples.{compound_operator, held, put_back, step_operator, type_in}

-- ---- calls whose answer is thrown away

-- a value or a pointer goes to a register, and an owner or a struct to a temporary
abbrev pub thrown_by : Class → Uses → (behind : Place) → State → State
thrown_by classes.Value e behind s = (value e behind (own e) None s).state
thrown_by classes.Pointer e behind s = (pointer e (own e) s).state
thrown_by _ e behind s = (temporary_of e (own e) s).state

-- a place isn't read
abbrev pub thrown : Category → Uses → (behind : Place) → State → State
thrown (category.Place id constant) e behind s = (e.at s).state
thrown category.Value e behind s = if is_void (own e) then e.alone s else thrown_by (class (Some (own e))) e behind s

-- ---- steps

abbrev pub direction : StepOperator → Direction
direction step.Increment = Forward
direction step.Decrement = Backward

-- an iterator is moved by 1
abbrev pub advanced : Uses → StepOperator → Place → State → State
advanced e operator place s =
    pointer e (own e) s >> λ l s. computed None ty.Int place (constant (pos 1)) s >> λ r s. emit place (Advance l l r (direction operator)) s

-- ---- assignments: the right side, and then the place

abbrev pub target_of : Uses → Target
target_of e = record { operand = operand e; location = pointer e (own e) }

module _ (a : Around) where
  abbrev pub assigned : (target : Typed) → (equals : Place) → InitialForm → (behind : Place) → State → State
  assigned target equals i behind s =
      assigning.assigned (initial_uses a (type_in target) i) (type_in target) (target_of (uses a (whole target))) equals behind s

  -- ---- assignments that compute

  -- the right side, the place, what it holds, and the operator
  abbrev pub combined : (target : Typed) → CompoundOperator → Place → Typed → (behind : Place) → Ty → State → State
  combined target operator place e behind t s =
      value (uses a (whole e)) behind t None s >> λ r s. operand (uses a (whole target)) s >> λ at s.
      held target at t s >> λ l s. put_back target at t place (operation.Binary (compound_operator operator) l r) s

  -- a string gains characters at its end ([string.op+=])
  abbrev pub appended : (target : Typed) → Place → Typed → State → State
  appended target place e s = seen (uses a (whole e)) s >> λ c s. operand (uses a (whole target)) s >> λ o s. changed_by Append place c o s

  abbrev pub compounded : (target : Typed) → CompoundOperator → Place → Typed → (behind : Place) → State → State
  compounded target operator place e behind s =
      if is_text (type_in target) then appended target place e s
      else combined target operator place e behind (promoted (type_in target) (type_in e)) s

  -- the place, what it holds, 1, and the operator
  abbrev pub stepped : (target : Typed) → StepOperator → Place → Ty → State → State
  stepped target operator place t s =
      operand (uses a (whole target)) s >> λ at s. held target at t s >> λ l s.
      computed None t place (constant (pos 1)) s >> λ r s. put_back target at t place (operation.Binary (step_operator operator) l r) s

  abbrev pub moved_on : (target : Typed) → StepOperator → Place → State → State
  moved_on target operator place s =
      if is_iterator (type_in target) then advanced (uses a (whole target)) operator place s
      else stepped target operator place (promoted (type_in target) (type_in target)) s

  -- ---- any of these

  abbrev pub done : SimpleForm → (behind : Place) → State → State
  done (typed.assign target equals i) behind s = assigned target equals i behind s
  done (typed.compound target operator place e) behind s = compounded target operator place e behind s
  done (typed.step target operator place) behind s = moved_on target operator place s
  done (typed.discarded e) behind s = thrown e.category (uses a (whole e)) behind s

  -- .. a full expression, up to the token behind it
  abbrev pub simple : SimpleForm → (behind : Place) → State → State
  simple it behind s = full behind (done it behind) s

  -- .. which may be left out
  abbrev pub simple_if : Option SimpleForm → (behind : Place) → State → State
  simple_if None behind s = s
  simple_if (Some it) behind s = simple it behind s
