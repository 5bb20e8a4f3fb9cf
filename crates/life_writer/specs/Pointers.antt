-- Pointers: what they are given, and where they lie.
use Rattle.std.specs.Prelude.{None}
use Rattle.life_types.specs.declared.place.Place.{Place}
use Rattle.life_types.specs.declared.ty.Ty.{Ty}
use Rattle.life_core.specs.Operands.{Location, Source, whole}
use Rattle.life_core.specs.Step.{Step, Aim, Repoint}
use Rattle.life_writer.specs.Building.{Fill, built}
use Rattle.life_writer.specs.Registers.{wanted}
use Rattle.life_writer.specs.Writing.{State, Gives, gives, mapped}

-- what an expression gives a pointer: one more instruction, with a hole for the pointer that it writes, or what another pointer points to
pub data Pointing : Type 0 where
  By : (Location → Step) → Pointing
  As : Location → Pointing

-- the instruction that makes a pointer point there
abbrev pub pointed : Pointing → Location → Step
pointed (By step) p = step p
pointed (As q) p = Repoint p q

-- it is aimed at something
abbrev pub aimed : Source → Pointing
aimed source = By (λ p. Aim p source)

-- a register is written by an instruction
abbrev pub written : Place → Ty → (Location → Step) → State → Gives Location
written place t step s = mapped whole (built (Fill place step) (wanted place None t) s)

-- a variable is its own location; anything else goes to a register
abbrev pub located : Place → Ty → Pointing → State → Gives Location
located place t (As q) s = gives q s
located place t (By step) s = written place t step s
