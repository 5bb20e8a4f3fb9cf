-- What instructions of each kind do to the locals that they name. Of the locals 0 to 3 are objects, and those from 4 on registers.
use Rattle.std.proofs.Common.{◌≡◌, ℕ, true, false, List, [], ◌∷◌, Some, None, refl}
use Rattle.std.specs.Prelude.{pos}
use Rattle.life_core.specs.declared.instr.Direction.TheVariants.{Forward}
use Rattle.life_core.specs.declared.instr.Form.TheVariants.{Plain}
use Rattle.life_core.specs.declared.instr.Made.TheVariants as made
use Rattle.life_core.specs.declared.operand.RangeEnd.TheVariants.{Begin}
use Rattle.life_core.specs.declared.operand.Which.TheVariants as which
use Rattle.life_core.specs.declared.operation.Operation.TheVariants as operation
use Rattle.life_core.specs.declared.operation.Operator.TheVariants as operator
use Rattle.life_core.specs.declared.program.Local.{Local}
use Rattle.life_core.specs.declared.program.LocalKind.{LocalKind}
use Rattle.life_core.specs.declared.program.LocalKind.TheVariants.{Object, Register}
use Rattle.life_core.specs.Function.{Function, Default}
use Rattle.life_core.specs.Operands.{Location, Operand, Name, Value, GivenOver, PointerOf, Slot, View, Single, behind, object_named, whole}
use Rattle.life_core.specs.Operands as source
use Rattle.life_core.specs.Step.{Live, End, Eval, Load, Save, Copy, Move, Aim, Repoint, Element, Cursor, Advance, Cut, Size, Same, Changes, Make, Call, Ports, PushBack, PopBack, Reserve, Erase, Set, Append, Writes, WritesView, Takes}
use Rattle.life_core.specs.Touched.{Touched, touched_by}
use Rattle.life_core.specs.Tree.{Skip}

abbrev local : LocalKind → Local
local kind = record { name = None; ty = record { 0 = 1 }; kind = kind; place = record { line = 1; column = 1 }; nonnull = false; keeps = false }

abbrev f : Function
f = record {
  name = record { 0 = 0 };
  place = record { line = 1; column = 1 };
  parameters = 0;
  result = record { 0 = 0 };
  promise = Default;
  locals = local Object ∷ local Object ∷ local Object ∷ local Object ∷ local Register ∷ local Register ∷ local Register ∷ local Register ∷ [];
  body = Skip;
}

-- a member of a local
abbrev part : ℕ → Location
part x = record { local = x; members = 0 ∷ [] }

-- in the order of the lists: uses, leaves, births, writes
abbrev lists : (uses leaves births writes : List ℕ) → Touched
lists uses leaves births writes = record { uses = uses; leaves = leaves; births = births; writes = writes }

lives : touched_by f (Live 0 Plain) ≡ lists [] [] (0 ∷ []) []
lives = refl

ends : touched_by f (End (0 ∷ 4 ∷ [])) ≡ lists [] (0 ∷ 4 ∷ []) [] []
ends = refl

number : touched_by f (Eval 4 (operation.Number (pos 7))) ≡ lists [] [] [] (4 ∷ [])
number = refl

sum : touched_by f (Eval 4 (operation.Binary operator.Add 5 6)) ≡ lists (5 ∷ 6 ∷ []) [] [] (4 ∷ [])
sum = refl

loads : touched_by f (Load 4 (behind 5)) ≡ lists (5 ∷ []) [] [] (4 ∷ [])
loads = refl

saves : touched_by f (Save (object_named 0) 4) ≡ lists (4 ∷ 0 ∷ []) [] [] []
saves = refl

copies : touched_by f (Copy (object_named 0) (behind 5)) ≡ lists (0 ∷ 5 ∷ []) [] [] []
copies = refl

-- what is moved from is there behind
moves : touched_by f (Move (object_named 0) 1) ≡ lists (1 ∷ 0 ∷ []) [] [] []
moves = refl

aims : touched_by f (Aim (whole 4) (source.Place (object_named 0))) ≡ lists (0 ∷ []) [] [] (4 ∷ [])
aims = refl

aims_a_member : touched_by f (Aim (part 0) source.Null) ≡ lists (0 ∷ []) [] [] []
aims_a_member = refl

repoints : touched_by f (Repoint (whole 4) (whole 5)) ≡ lists (5 ∷ []) [] [] (4 ∷ [])
repoints = refl

element : touched_by f (Element (whole 4) (source.Owner (object_named 0)) (which.Index 5)) ≡ lists (0 ∷ 5 ∷ []) [] [] (4 ∷ [])
element = refl

cursor : touched_by f (Cursor (whole 4) (source.Pointer (whole 5)) Begin) ≡ lists (5 ∷ []) [] [] (4 ∷ [])
cursor = refl

advances : touched_by f (Advance (whole 4) (whole 5) 6 Forward) ≡ lists (5 ∷ 6 ∷ []) [] [] (4 ∷ [])
advances = refl

cuts : touched_by f (Cut (whole 4) (whole 5) 6 (Some 7)) ≡ lists (5 ∷ 6 ∷ 7 ∷ []) [] [] (4 ∷ [])
cuts = refl

size : touched_by f (Size 4 (source.Owner (object_named 0))) ≡ lists (0 ∷ []) [] [] (4 ∷ [])
size = refl

same : touched_by f (Same 4 (whole 5) (whole 6) true) ≡ lists (5 ∷ 6 ∷ []) [] [] (4 ∷ [])
same = refl

-- a temporary that is given over is gone behind, and a register is only read
pushes_a_temporary : touched_by f (Changes (object_named 0) (PushBack 1)) ≡ lists (0 ∷ []) (1 ∷ []) [] []
pushes_a_temporary = refl

pushes_a_value : touched_by f (Changes (object_named 0) (PushBack 4)) ≡ lists (0 ∷ 4 ∷ []) [] [] []
pushes_a_value = refl

pops : touched_by f (Changes (behind 5) PopBack) ≡ lists (5 ∷ []) [] [] []
pops = refl

reserves : touched_by f (Changes (object_named 0) (Reserve 4)) ≡ lists (0 ∷ 4 ∷ []) [] [] []
reserves = refl

erases : touched_by f (Changes (object_named 0) (Erase (whole 4) (whole 5))) ≡ lists (0 ∷ 4 ∷ []) [] [] (5 ∷ [])
erases = refl

sets : touched_by f (Changes (object_named 0) (Set (View (whole 4)))) ≡ lists (0 ∷ 4 ∷ []) [] [] []
sets = refl

appends : touched_by f (Changes (object_named 0) (Append (Single 4))) ≡ lists (0 ∷ 4 ∷ []) [] [] []
appends = refl

makes_nothing : touched_by f (Make (whole 0) made.Null) ≡ lists (0 ∷ []) [] [] []
makes_nothing = refl

makes_of_a_temporary : touched_by f (Make (part 0) (made.Of 1)) ≡ lists (0 ∷ []) (1 ∷ []) [] []
makes_of_a_temporary = refl

calls : touched_by f (Call (Some (whole 2)) (record { 0 = 0 }) (Value 4 ∷ GivenOver 1 ∷ PointerOf (whole 5) ∷ Slot (whole 3) ∷ [])) ≡ lists (4 ∷ 5 ∷ 3 ∷ []) (1 ∷ []) (2 ∷ []) []
calls = refl

calls_into_a_register : touched_by f (Call (Some (whole 4)) (record { 0 = 0 }) []) ≡ lists [] [] [] (4 ∷ [])
calls_into_a_register = refl

calls_into_a_member : touched_by f (Call (Some (part 2)) (record { 0 = 0 }) []) ≡ lists (2 ∷ []) [] [] []
calls_into_a_member = refl

calls_for_nothing : touched_by f (Call None (record { 0 = 0 }) []) ≡ lists [] [] [] []
calls_for_nothing = refl

writes_out : touched_by f (Ports (Writes 4)) ≡ lists (4 ∷ []) [] [] []
writes_out = refl

writes_a_view : touched_by f (Ports (WritesView (whole 4))) ≡ lists (4 ∷ []) [] [] []
writes_a_view = refl

takes_in : touched_by f (Ports (Takes 4)) ≡ lists [] [] [] (4 ∷ [])
takes_in = refl
