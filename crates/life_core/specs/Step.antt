-- Instructions and tests as definitions see them: their lists are plain lists.
use Rattle.std.specs.Prelude.{ℕ, Bool, List, Option, option_map, map}
use Rattle.life_core.specs.declared.instr.Change.{Change as Changing}
use Rattle.life_core.specs.declared.instr.Change.TheVariants as change
use Rattle.life_core.specs.declared.instr.Direction.{Direction}
use Rattle.life_core.specs.declared.instr.Form.{Form}
use Rattle.life_core.specs.declared.instr.Instr.{Instr}
use Rattle.life_core.specs.declared.instr.Instr.TheVariants as instr
use Rattle.life_core.specs.declared.instr.Made.{Made}
use Rattle.life_core.specs.declared.instr.Port.{Port as Gate}
use Rattle.life_core.specs.declared.instr.Port.TheVariants as port
use Rattle.life_core.specs.declared.instr.Test.{Test as Asked}
use Rattle.life_core.specs.declared.instr.Test.TheVariants as test
use Rattle.life_core.specs.declared.operation.Operation.{Operation}
use Rattle.life_core.specs.declared.program.FnId.{FnId}
use Rattle.life_core.specs.declared.operand.RangeEnd.{RangeEnd}
use Rattle.life_core.specs.declared.operand.Which.{Which}
use Rattle.life_core.specs.Operands.{Location, Operand, Source, Base, Characters, Argument, location_of, operand_of, source_of, base_of, characters_of, argument_of}

-- ---- parts of instructions

pub data Change : Type 0 where
  PushBack : (operand : ℕ) → Change
  PopBack : Change
  Clear : Change
  Reserve : (register : ℕ) → Change
  Erase : (at into : Location) → Change
  Set : Characters → Change
  Append : Characters → Change

abbrev pub change_of : Changing → Change
change_of (change.PushBack x) = PushBack x
change_of change.PopBack = PopBack
change_of change.Clear = Clear
change_of (change.Reserve r) = Reserve r
change_of (change.Erase at into) = Erase (location_of at) (location_of into)
change_of (change.Set c) = Set (characters_of c)
change_of (change.Append c) = Append (characters_of c)

pub data Port : Type 0 where
  Writes : (register : ℕ) → Port
  WritesView : Location → Port
  Takes : (register : ℕ) → Port

abbrev pub port_of : Gate → Port
port_of (port.Value r) = Writes r
port_of (port.View l) = WritesView (location_of l)
port_of (port.Take r) = Takes r

-- ---- instructions

pub data Step : Type 0 where
  Live : (local : ℕ) → Form → Step
  End : (locals : List ℕ) → Step
  Eval : (into : ℕ) → Operation → Step
  Load : (into : ℕ) → Operand → Step
  Save : Operand → (from : ℕ) → Step
  Copy : (to from : Operand) → Step
  Move : (to : Operand) → (from : ℕ) → Step
  Aim : (pointer : Location) → Source → Step
  Repoint : (pointer from : Location) → Step
  Element : (pointer : Location) → Base → Which → Step
  Cursor : (pointer : Location) → Base → RangeEnd → Step
  Advance : (pointer from : Location) → (count : ℕ) → Direction → Step
  Cut : (pointer from : Location) → (index : ℕ) → (count : Option ℕ) → Step
  Size : (into : ℕ) → Base → Step
  Same : (into : ℕ) → (left right : Location) → (equal : Bool) → Step
  Changes : Operand → Change → Step
  Make : (owner : Location) → Made → Step
  Call : (target : Option Location) → FnId → List Argument → Step
  Ports : Port → Step

abbrev pub step_of : Instr → Step
step_of (instr.Live x form) = Live x form
step_of (instr.End xs) = End xs.items
step_of (instr.Eval r operation) = Eval r operation
step_of (instr.Load r o) = Load r (operand_of o)
step_of (instr.Save o r) = Save (operand_of o) r
step_of (instr.Copy to from) = Copy (operand_of to) (operand_of from)
step_of (instr.Move to y) = Move (operand_of to) y
step_of (instr.Aim p s) = Aim (location_of p) (source_of s)
step_of (instr.Repoint p q) = Repoint (location_of p) (location_of q)
step_of (instr.Element p b which) = Element (location_of p) (base_of b) which
step_of (instr.Cursor p b end) = Cursor (location_of p) (base_of b) end
step_of (instr.Advance p q r direction) = Advance (location_of p) (location_of q) r direction
step_of (instr.Cut p q r count) = Cut (location_of p) (location_of q) r count
step_of (instr.Size r b) = Size r (base_of b)
step_of (instr.Same r a b equal) = Same r (location_of a) (location_of b) equal
step_of (instr.Change o c) = Changes (operand_of o) (change_of c)
step_of (instr.Make u made) = Make (location_of u) made
step_of (instr.Call target f xs) = Call (option_map location_of target) f (map argument_of xs.items)
step_of (instr.Port p) = Ports (port_of p)

-- ---- tests

pub data Test : Type 0 where
  NonZero : (register : ℕ) → Test
  NotNull : Location → Test

abbrev pub asked_of : Asked → Test
asked_of (test.NonZero r) = NonZero r
asked_of (test.NotNull l) = NotNull (location_of l)
