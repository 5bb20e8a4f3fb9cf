-- Elements of what has some, and iterators.
use Rattle.std.specs.Prelude.{ℕ, zero, suc, ◌+◌, ℤ, pos, negsuc, ◌+ℤ◌, neg_ℤ, Bool, true, false, cond, nat_eq, nat_le, nat_lt, List, Option, Some, None, length}
use Rattle.std.specs.Int.{cast_unsigned, w64}
use Rattle.life_types.specs.declared.ty.Ty.{Ty}
use Rattle.life_types.specs.declared.ty.Ty.TheVariants as variant
use Rattle.life_core.specs.declared.instr.Direction.{Direction}
use Rattle.life_core.specs.declared.instr.Direction.TheVariants as direction
use Rattle.life_core.specs.declared.operand.RangeEnd.{RangeEnd}
use Rattle.life_core.specs.declared.operand.RangeEnd.TheVariants as range_end
use Rattle.life_core.specs.declared.operand.Which.{Which}
use Rattle.life_core.specs.declared.operand.Which.TheVariants as which
use Rattle.life_store.specs.Content.{Content}
use Rattle.life_store.specs.Effects.{Attempt, Got, GotTrap, GotFault, GotLost, cell}
use Rattle.life_store.specs.Held.{slots_at}
use Rattle.life_store.specs.Places.{is_valid}
use Rattle.life_store.specs.State.{Pointer, Null, Wild, To, Static, Cell, Empty, Named, Number, Points, State}
use Rattle.life_store.specs.Views.{text_size}
use Rattle.life_store.specs.declared.run.FaultKind.TheVariants as fault
use Rattle.life_store.specs.declared.run.TrapKind.TheVariants as trap

-- ---- which element

-- an index is read without a sign
abbrev pub index_in : Option Cell → Attempt ℕ
index_in (Some (Number z)) = Got (cast_unsigned w64 z)
index_in _ = GotLost

abbrev pub below : (index size : ℕ) → Attempt ℕ
below i size = cond (nat_lt i size) (Got i) (GotTrap trap.Bounds)

abbrev pub last_of : (size : ℕ) → Attempt ℕ
last_of zero = GotTrap trap.Bounds
last_of (suc n) = Got n

abbrev pub below_if : Attempt ℕ → (size : ℕ) → Attempt ℕ
below_if (Got i) size = below i size
below_if (GotTrap kind) size = GotTrap kind
below_if (GotFault kind) size = GotFault kind
below_if GotLost size = GotLost

-- the index of the element, of so many
abbrev pub chosen : State → Which → (size : ℕ) → Attempt ℕ
chosen st (which.Index r) size = below_if (index_in (cell st r)) size
chosen st which.First size = below 0 size
chosen st which.Last size = last_of size
chosen st which.Target size = GotLost

abbrev pub end_index : RangeEnd → (size : ℕ) → ℕ
end_index range_end.Begin size = 0
end_index range_end.End size = size

-- ---- whether an iterator may be used: at the end, too

abbrev pub standing : Content → Pointer → Attempt Pointer
standing c Null = GotLost
standing c Wild = GotFault fault.Dangling
standing c (To t) = cond (is_valid c t) (Got (To t)) (GotFault fault.Dangling)
standing c (Static s) = Got (Static s)

abbrev pub iterator : Content → Option Cell → Attempt Pointer
iterator c None = GotLost
iterator c (Some Empty) = GotLost
iterator c (Some (Named n)) = GotLost
iterator c (Some (Number z)) = GotLost
iterator c (Some (Points p)) = standing c p

-- ---- steps

-- a count is read as its type says
abbrev pub count_of : Option Ty → ℤ → ℤ
count_of (Some variant.Size) z = pos (cast_unsigned w64 z)
count_of _ z = z

abbrev pub directed : Direction → ℤ → ℤ
directed direction.Forward z = z
directed direction.Backward z = neg_ℤ z

-- from 0 to the length
abbrev pub up_to : (size : ℕ) → ℤ → Attempt ℕ
up_to size (pos n) = cond (nat_le n size) (Got n) (GotTrap trap.Bounds)
up_to size (negsuc n) = GotTrap trap.Bounds

-- the index to which an iterator is moved: over a text the text's length counts, however little was seen of it
abbrev pub stepped : List (List ℕ) → Content → Pointer → ℤ → Attempt ℕ
stepped texts c Null z = GotLost
stepped texts c Wild z = GotLost
stepped texts c (To t) z = up_to (length (slots_at c t.object)) (pos t.index +ℤ z)
stepped texts c (Static s) z = up_to (text_size texts s) (pos s.index +ℤ z)

-- a pointer of this moment to one position of the same object
abbrev pub at_index : (moment index : ℕ) → Pointer → Pointer
at_index now i Null = Null
at_index now i Wild = Wild
at_index now i (To t) = To (record { object = t.object; index = i; word = t.word; count = 1; moment = now })
at_index now i (Static c) = Static (record { text = c.text; index = i; count = 1 })

-- .. so many behind where it points
abbrev pub start_of : Pointer → ℕ
start_of Null = 0
start_of Wild = 0
start_of (To t) = t.index
start_of (Static c) = c.index

abbrev pub element_of : (moment index : ℕ) → Pointer → Pointer
element_of now i p = at_index now (start_of p + i) p

-- ---- whether two are the same

abbrev pub same_text : Option ℕ → Option ℕ → Bool
same_text None None = true
same_text None (Some b) = false
same_text (Some a) None = false
same_text (Some a) (Some b) = nat_eq a b

abbrev pub is_one_object : Pointer → Pointer → Bool
is_one_object (To a) (To b) = nat_eq a.object b.object
is_one_object (Static a) (Static b) = same_text a.text b.text
is_one_object _ _ = false

abbrev pub same_position : Pointer → Pointer → Attempt Bool
same_position a b = cond (is_one_object a b) (Got (nat_eq (start_of a) (start_of b))) (GotTrap trap.ForeignIterator)

-- the index of an iterator at an element of this buffer
abbrev pub erasable : Content → (buffer : ℕ) → Pointer → Attempt ℕ
erasable c b (To t) = cond (nat_eq t.object b) (below t.index (length (slots_at c b))) (GotTrap trap.ForeignIterator)
erasable c b _ = GotTrap trap.ForeignIterator
