-- What each kind of instruction does to the locals that it names. All that is asked of the ways through a function is said over these four lists, once for
-- all kinds.
use Rattle.std.specs.Prelude.{ℕ, if◌then◌else◌, List, [], ◌∷◌, ◌++◌, flat_map, Option, Some, None}
use Rattle.life_types.specs.Types.{Types, class_at}
use Rattle.life_types.specs.declared.ty.Class.{Class}
use Rattle.life_types.specs.declared.ty.Class.TheVariants.{Value}
use Rattle.life_core.specs.declared.instr.Made.{Made}
use Rattle.life_core.specs.declared.instr.Made.TheVariants as made
use Rattle.life_core.specs.declared.operand.Which.{Which}
use Rattle.life_core.specs.declared.operand.Which.TheVariants as which
use Rattle.life_core.specs.declared.operation.Operation.{Operation}
use Rattle.life_core.specs.declared.operation.Operation.TheVariants as operation
use Rattle.life_core.specs.Function.{Function}
use Rattle.life_core.specs.Kinds.{is_object_at}
use Rattle.life_core.specs.Operands.{Argument, GivenOver, PointerOf, Slot, Characters, Single, View, Location, Operand, Name, Through, Source, Base}
use Rattle.life_core.specs.Operands as source
use Rattle.life_core.specs.Step.{Step, Live, End, Eval, Load, Save, Copy, Move, Aim, Repoint, Element, Cursor, Advance, Cut, Size, Same, Changes, Make, Call, Ports, Change, PushBack, Reserve, Erase, Set, Append, Port, Writes, WritesView, Takes, Test}
use Rattle.life_core.specs.Step as test
use Rattle.life_core.specs.Tree.{Node, Action, Question, Return, Stop}

pub record Touched : Type 0 where
  -- they are there before
  pub uses : List ℕ
  -- they are there before, and gone behind
  pub leaves : List ℕ
  -- they aren't there before, and are behind
  pub births : List ℕ
  -- they are there behind, whether they were before or not
  pub writes : List ℕ

abbrev pub nothing : Touched
nothing = record { uses = []; leaves = []; births = []; writes = [] }

-- ---- what lies in memory comes and goes, where a register is written and read

abbrev pub if_object : Function → ℕ → List ℕ
if_object f x = if is_object_at f x then x ∷ [] else []

abbrev pub unless_object : Function → ℕ → List ℕ
unless_object f x = if is_object_at f x then [] else x ∷ []

-- ---- what is read

abbrev pub place_uses : Operand → List ℕ
place_uses (Name l) = l.local ∷ []
place_uses (Through p members) = p.local ∷ []

abbrev pub operation_uses : Operation → List ℕ
operation_uses (operation.Number n) = []
operation_uses (operation.Convert r) = r ∷ []
operation_uses (operation.Negate r) = r ∷ []
operation_uses (operation.IsZero r) = r ∷ []
operation_uses (operation.Binary operator a b) = a ∷ b ∷ []

abbrev pub source_uses : Source → List ℕ
source_uses (source.Place o) = place_uses o
source_uses (source.Whole o) = place_uses o
source_uses (source.Get l) = l.local ∷ []
source_uses _ = []

abbrev pub base_uses : Base → List ℕ
base_uses (source.Owner o) = place_uses o
base_uses (source.Pointer l) = l.local ∷ []

abbrev pub which_uses : Which → List ℕ
which_uses (which.Index r) = r ∷ []
which_uses _ = []

abbrev pub count_uses : Option ℕ → List ℕ
count_uses None = []
count_uses (Some r) = r ∷ []

abbrev pub characters_uses : Characters → List ℕ
characters_uses (View l) = l.local ∷ []
characters_uses (Single r) = r ∷ []

-- ---- what is written

abbrev pub by_members : (members whole part : List ℕ) → List ℕ
by_members [] whole part = whole
by_members (m ∷ ms) whole part = part

-- a whole local is written, and one that a member of is written is there before
abbrev pub written : Location → List ℕ
written l = by_members l.members (l.local ∷ []) []

abbrev pub part_uses : Location → List ℕ
part_uses l = by_members l.members [] (l.local ∷ [])

-- where a result goes: an object is born with it
abbrev pub target_uses : Option Location → List ℕ
target_uses None = []
target_uses (Some l) = part_uses l

abbrev pub target_births : Function → Option Location → List ℕ
target_births f None = []
target_births f (Some l) = by_members l.members (if_object f l.local) []

abbrev pub target_writes : Function → Option Location → List ℕ
target_writes f None = []
target_writes f (Some l) = by_members l.members (unless_object f l.local) []

-- ---- what is handed over

abbrev pub argument_uses : Function → Argument → List ℕ
argument_uses f (source.Value r) = r ∷ []
argument_uses f (GivenOver x) = unless_object f x
argument_uses f (PointerOf l) = l.local ∷ []
argument_uses f (Slot l) = l.local ∷ []

abbrev pub argument_leaves : Function → Argument → List ℕ
argument_leaves f (GivenOver x) = if_object f x
argument_leaves f _ = []

abbrev pub made_uses : Function → Made → List ℕ
made_uses f (made.Of x) = unless_object f x
made_uses f _ = []

abbrev pub made_leaves : Function → Made → List ℕ
made_leaves f (made.Of x) = if_object f x
made_leaves f _ = []

-- an erase gives an iterator
abbrev pub change_uses : Function → Change → List ℕ
change_uses f (PushBack x) = unless_object f x
change_uses f (Reserve r) = r ∷ []
change_uses f (Erase at into) = at.local ∷ part_uses into
change_uses f (Set c) = characters_uses c
change_uses f (Append c) = characters_uses c
change_uses f _ = []

abbrev pub change_leaves : Function → Change → List ℕ
change_leaves f (PushBack x) = if_object f x
change_leaves f _ = []

abbrev pub change_writes : Change → List ℕ
change_writes (Erase at into) = written into
change_writes _ = []

abbrev pub port_uses : Port → List ℕ
port_uses (Writes r) = r ∷ []
port_uses (WritesView l) = l.local ∷ []
port_uses (Takes r) = []

abbrev pub port_writes : Port → List ℕ
port_writes (Takes r) = r ∷ []
port_writes _ = []

-- ---- instructions

abbrev pub touched_by : Function → Step → Touched
touched_by f (Live x form) = record nothing { births = x ∷ [] }
touched_by f (End xs) = record nothing { leaves = xs }
touched_by f (Eval r o) = record nothing { uses = operation_uses o; writes = r ∷ [] }
touched_by f (Load r o) = record nothing { uses = place_uses o; writes = r ∷ [] }
touched_by f (Save o r) = record nothing { uses = r ∷ place_uses o }
touched_by f (Copy to from) = record nothing { uses = place_uses to ++ place_uses from }
touched_by f (Move to y) = record nothing { uses = y ∷ place_uses to }
touched_by f (Aim p s) = record nothing { uses = source_uses s ++ part_uses p; writes = written p }
touched_by f (Repoint p q) = record nothing { uses = q.local ∷ part_uses p; writes = written p }
touched_by f (Element p b which) = record nothing { uses = base_uses b ++ (which_uses which ++ part_uses p); writes = written p }
touched_by f (Cursor p b end) = record nothing { uses = base_uses b ++ part_uses p; writes = written p }
touched_by f (Advance p q r direction) = record nothing { uses = q.local ∷ r ∷ part_uses p; writes = written p }
touched_by f (Cut p q r count) = record nothing { uses = q.local ∷ r ∷ (count_uses count ++ part_uses p); writes = written p }
touched_by f (Size r b) = record nothing { uses = base_uses b; writes = r ∷ [] }
touched_by f (Same r a b equal) = record nothing { uses = a.local ∷ b.local ∷ []; writes = r ∷ [] }
touched_by f (Changes o c) = record nothing { uses = place_uses o ++ change_uses f c; leaves = change_leaves f c; writes = change_writes c }
touched_by f (Make u m) = record nothing { uses = u.local ∷ made_uses f m; leaves = made_leaves f m }
touched_by f (Call target g xs) = record {
  uses = flat_map (argument_uses f) xs ++ target_uses target;
  leaves = flat_map (argument_leaves f) xs;
  births = target_births f target;
  writes = target_writes f target;
}
touched_by f (Ports p) = record nothing { uses = port_uses p; writes = port_writes p }

-- ---- points

abbrev pub test_uses : Test → List ℕ
test_uses (test.NonZero r) = r ∷ []
test_uses (test.NotNull l) = l.local ∷ []

-- what a return gives back: a value may be left unwritten, and is 0 then, as that of main is (ISO/IEC 14882:2017 [basic.start.main])
abbrev pub result_uses : Class → (result : ℕ) → List ℕ
result_uses Value x = []
result_uses _ x = x ∷ []

abbrev pub touched : Types → Function → Node → Touched
touched types f (Action i) = touched_by f i
touched types f (Question t) = record nothing { uses = test_uses t }
touched types f Return = record nothing { uses = result_uses (class_at types f.result) f.parameters }
touched types f Stop = nothing
