-- What changes of vectors and strings, and copies, do, worked out by hand on whole stores.
use Rattle.std.proofs.Common.{◌≡◌, ℕ, false, List, [], ◌∷◌, length, Some, None, refl}
use Rattle.std.specs.Prelude.{ℤ, pos}
use Rattle.life_types.specs.Types.{Types}
use Rattle.life_types.specs.declared.ty.Ty.TheVariants as variant
use Rattle.life_types.specs.declared.ty.TyId.{TyId}
use Rattle.life_core.specs.Function.{Function, Default}
use Rattle.life_core.specs.Operands.{View, Single, object_named, whole}
use Rattle.life_core.specs.Step.{Changes, Copy, PushBack, PopBack, Clear, Reserve, Erase, Set, Append}
use Rattle.life_core.specs.Tree.{Skip}
use Rattle.life_core.specs.declared.program.Local.{Local}
use Rattle.life_core.specs.declared.program.LocalKind.{LocalKind}
use Rattle.life_core.specs.declared.program.LocalKind.TheVariants.{Object as AnObject, Register}
use Rattle.life_store.specs.Cells.{at}
use Rattle.life_store.specs.Content.{Slot, Object, Content, live_words_of, with_birth, without}
use Rattle.life_store.specs.Doing.{Next, Traps, Faults, Spot, does, replaced}
use Rattle.life_store.specs.Edits.{owns, put_last}
use Rattle.life_store.specs.Effects.{Setting}
use Rattle.life_store.specs.Held.{filled, resized_at}
use Rattle.life_store.specs.Owners.{Words, owning}
use Rattle.life_store.specs.Parts.{Vector, Single as Value}
use Rattle.life_store.specs.State.{Pointer, Wild, To, Static, Cell, Empty, Named, Number, Points, State}
use Rattle.life_store.specs.declared.run.FaultKind.TheVariants as fault
use Rattle.life_store.specs.declared.run.Growth.TheVariants as policy
use Rattle.life_store.specs.declared.run.TrapKind.TheVariants as trap

abbrev id : ℕ → TyId
id n = record { 0 = n }

-- 0 int, 1 std::vector<int>, 2 std::string, 3 std::vector<int>::iterator, 4 std::string_view, and 5 for characters of strings
abbrev table : Types
table = record { types = variant.Int ∷ variant.Vector (id 0) ∷ variant.Text ∷ variant.Iterator (id 0) false ∷ variant.View ∷ []; structs = [] }

abbrev local : LocalKind → ℕ → Local
local k n = record { name = None; ty = id n; kind = k; place = record { line = 1; column = 1 }; nonnull = false; keeps = false }

-- two vectors, a string, an int, two iterators and a view
abbrev f : Function
f = record {
  name = record { 0 = 0 };
  place = record { line = 1; column = 1 };
  parameters = 0;
  result = id 0;
  promise = Default;
  locals = local AnObject 1 ∷ local AnObject 1 ∷ local AnObject 2 ∷ local Register 0 ∷ local Register 3 ∷ local Register 3 ∷ local Register 4 ∷ [];
  body = Skip;
}

-- a run with room for so many words
abbrev within : (cells : ℕ) → Setting
within cells = record { given = record { growth = policy.Double; cells = cells; depth = 2 }; texts = (97 ∷ 98 ∷ []) ∷ [] }

abbrev state : Content → List Cell → State
state c cells = record { world = record { content = c; output = []; input = [] }; cells = cells }

abbrev slot : (word stamp : ℕ) → Slot
slot word stamp = record { words = word ∷ []; stamp = stamp }

-- a word in one slot
abbrev single : (type word : ℕ) → Object
single n word = record { ty = id n; width = 1; capacity = 1; slots = slot word 5 ∷ []; end = 5 }

abbrev buffer : (type capacity : ℕ) → List Slot → (end : ℕ) → Object
buffer n capacity slots end = record { ty = id n; width = 1; capacity = capacity; slots = slots; end = end }

-- ---- a vector is the object 1, whose buffer is the object 3: the elements 1, 2, 3, with room for a fourth, or full

abbrev three : (capacity : ℕ) → Object
three n = buffer 0 n (slot 1 5 ∷ slot 2 5 ∷ slot 3 5 ∷ []) 5

abbrev HasVector : Content → Object → Type 0
HasVector c b = (at c.objects 1 ≡ Some (single 1 4)) × (at c.objects 3 ≡ Some b)

-- .. with a number in the register, and with an iterator
abbrev with_number : ℤ → List Cell
with_number z = Named 1 ∷ Empty ∷ Empty ∷ Number z ∷ Points Wild ∷ Points Wild ∷ Points Wild ∷ []

abbrev with_iterators : (at into : Pointer) → List Cell
with_iterators i j = Named 1 ∷ Empty ∷ Empty ∷ Number (pos 9) ∷ Points i ∷ Points j ∷ Points Wild ∷ []

abbrev position : (index : ℕ) → Pointer
position i = To (record { object = 3; index = i; word = 0; count = 1; moment = 5 })

abbrev the_vector : Spot
the_vector = record { object = 1; index = 0; word = 0 }

-- a push_back into a buffer with room makes its fourth slot
pushed : (c : Content) → HasVector c (three 4) → does (within 20) table f (Changes (object_named 0) (PushBack 3)) (state c (with_number (pos 9)))
    ≡ Next (state (put_last the_vector 3 3 (9 ∷ [], resized_at 3 4 3 c)) (with_number (pos 9)))
pushed c has = rw (has.0, has.0, has.1) refl

-- a full one goes over to another, of twice its room
abbrev larger : Content → Content
larger c = without 3 (filled c.births ((1 ∷ []) ∷ (2 ∷ []) ∷ (3 ∷ []) ∷ []) (resized_at c.births 4 0 (with_birth (id 0) 1 6 c)))

pushed_full : (c : Content) → HasVector c (three 3) → live_words_of c ≡ 8 → does (within 20) table f (Changes (object_named 0) (PushBack 3)) (state c (with_number (pos 9)))
    ≡ Next (state (put_last the_vector c.births 3 (9 ∷ [], larger c)) (with_number (pos 9)))
pushed_full c has words = rw (has.0, has.0, has.1, words) refl

-- .. unless the words that a run may have are too few for both
pushed_past : (c : Content) → HasVector c (three 3) → live_words_of c ≡ 8 → does (within 15) table f (Changes (object_named 0) (PushBack 3)) (state c (with_number (pos 9))) ≡ Traps trap.Cells
pushed_past c has words = rw (has.0, has.0, has.1, words) refl

popped : (c : Content) → HasVector c (three 4) → does (within 20) table f (Changes (object_named 0) PopBack) (state c (with_number (pos 9)))
    ≡ Next (state (resized_at 3 2 2 c) (with_number (pos 9)))
popped c has = rw (has.0, has.0, has.1, has.1) refl

popped_empty : (c : Content) → HasVector c (buffer 0 4 [] 5) → does (within 20) table f (Changes (object_named 0) PopBack) (state c (with_number (pos 9))) ≡ Traps trap.Bounds
popped_empty c has = rw (has.0, has.0, has.1) refl

cleared : (c : Content) → HasVector c (three 4) → does (within 20) table f (Changes (object_named 0) Clear) (state c (with_number (pos 9)))
    ≡ Next (state (resized_at 3 0 0 c) (with_number (pos 9)))
cleared c has = rw (has.0, has.0, has.1, has.1) refl

-- a reserve within the room does nothing, and one past it takes another buffer
reserved : (c : Content) → HasVector c (three 4) → does (within 20) table f (Changes (object_named 0) (Reserve 3)) (state c (with_number (pos 4))) ≡ Next (state c (with_number (pos 4)))
reserved c has = rw (has.0, has.0, has.1) refl

abbrev roomier : Content → Content
roomier c = without 3 (filled c.births ((1 ∷ []) ∷ (2 ∷ []) ∷ (3 ∷ []) ∷ []) (resized_at c.births 3 0 (with_birth (id 0) 1 8 c)))

reserved_past : (c : Content) → HasVector c (three 4) → live_words_of c ≡ 9 → does (within 20) table f (Changes (object_named 0) (Reserve 3)) (state c (with_number (pos 8)))
    ≡ Next (state (owns the_vector c.births (roomier c)) (with_number (pos 8)))
reserved_past c has words = rw (has.0, has.0, has.1, words) refl

-- an erase of the second moves the third down, and gives the position where that stands now
abbrev without_second : Content → Content
without_second c = resized_at 3 2 1 (filled 3 ((1 ∷ []) ∷ (3 ∷ []) ∷ []) c)

erased : (c : Content) → HasVector c (three 4) → does (within 20) table f (Changes (object_named 0) (Erase (whole 4) (whole 5))) (state c (with_iterators (position 1) Wild))
    ≡ Next (state (without_second c) (with_iterators (position 1) (To (record { object = 3; index = 1; word = 0; count = 1; moment = (without_second c).clock }))))
erased c has = rw (has.0, has.0, has.1, has.1, has.1) refl

erased_end : (c : Content) → HasVector c (three 4) → does (within 20) table f (Changes (object_named 0) (Erase (whole 4) (whole 5))) (state c (with_iterators (position 3) Wild)) ≡ Traps trap.Bounds
erased_end c has = rw (has.0, has.0, has.1, has.1) refl

erased_wild : (c : Content) → HasVector c (three 4) → does (within 20) table f (Changes (object_named 0) (Erase (whole 4) (whole 5))) (state c (with_iterators Wild Wild)) ≡ Faults fault.Dangling
erased_wild c has = rw (has.0) refl

-- a vector that was moved from takes no change
changed_moved : (c : Content) → at c.objects 1 ≡ Some (single 1 0) → does (within 20) table f (Changes (object_named 0) Clear) (state c (with_number (pos 9))) ≡ Faults fault.Moved
changed_moved c owner = rw (owner, owner) refl

-- ---- a string is the object 1, whose characters are the object 3

abbrev HasString : Content → Type 0
HasString c = (at c.objects 1 ≡ Some (single 2 4)) × (at c.objects 3 ≡ Some (buffer 5 2 (slot 97 5 ∷ slot 98 5 ∷ []) 5))

abbrev with_string : (number : ℤ) → (view : Pointer) → List Cell
with_string z v = Empty ∷ Empty ∷ Named 1 ∷ Number z ∷ Points Wild ∷ Points Wild ∷ Points v ∷ []

abbrev characters : List (List ℕ) → Content → Content
characters words c = owns the_vector c.births (without 3 (filled c.births words (resized_at c.births (length words) 0 (with_birth (id 5) 1 (length words) c))))

appended : (c : Content) → HasString c → live_words_of c ≡ 7 → does (within 20) table f (Changes (object_named 2) (Append (Single 3))) (state c (with_string (pos 120) Wild))
    ≡ Next (state (characters ((97 ∷ []) ∷ (98 ∷ []) ∷ (120 ∷ []) ∷ []) c) (with_string (pos 120) Wild))
appended c has words = rw (has.0, has.0, has.1, words) refl

-- .. the text "ab" of the program, by a view
appended_view : (c : Content) → HasString c → live_words_of c ≡ 7
    → does (within 20) table f (Changes (object_named 2) (Append (View (whole 6)))) (state c (with_string (pos 0) (Static (record { text = Some 0; index = 0; count = 2 }))))
    ≡ Next (state (characters ((97 ∷ []) ∷ (98 ∷ []) ∷ (97 ∷ []) ∷ (98 ∷ []) ∷ []) c) (with_string (pos 0) (Static (record { text = Some 0; index = 0; count = 2 }))))
appended_view c has words = rw (has.0, has.0, has.1, words) refl

set_to : (c : Content) → HasString c → live_words_of c ≡ 7 → does (within 20) table f (Changes (object_named 2) (Set (Single 3))) (state c (with_string (pos 120) Wild))
    ≡ Next (state (characters ((120 ∷ []) ∷ []) c) (with_string (pos 120) Wild))
set_to c has words = rw (has.0, has.0, words) refl

-- ---- copies: from the vector of the object 2, whose buffer is the object 4

abbrev HaveVectors : Content → Type 0
HaveVectors c = (at c.objects 1 ≡ Some (single 1 4)) × ((at c.objects 2 ≡ Some (single 1 5)) × (at c.objects 4 ≡ Some (three 4)))

abbrev with_vectors : List Cell
with_vectors = Named 1 ∷ Named 2 ∷ Empty ∷ Number (pos 0) ∷ Points Wild ∷ Points Wild ∷ Points Wild ∷ []

-- the copy has just the room that it wants, and stands before what the destination had ends
abbrev copy_of : Content → Words
copy_of c = owning (c.births, filled c.births ((1 ∷ []) ∷ (2 ∷ []) ∷ (3 ∷ []) ∷ []) (resized_at c.births 3 0 (with_birth (id 0) 1 3 c)))

copied : (c : Content) → HaveVectors c → live_words_of c ≡ 10 → does (within 20) table f (Copy (object_named 0) (object_named 1)) (state c with_vectors)
    ≡ Next (state (replaced (Vector (id 0) Value) the_vector (copy_of c)) with_vectors)
copied c has words = rw (has.0, has.1.0, has.1.0, has.1.1, words) refl

copied_past : (c : Content) → HaveVectors c → live_words_of c ≡ 10 → does (within 14) table f (Copy (object_named 0) (object_named 1)) (state c with_vectors) ≡ Traps trap.Cells
copied_past c has words = rw (has.0, has.1.0, has.1.0, has.1.1, words) refl

copied_moved : (c : Content) → at c.objects 1 ≡ Some (single 1 4) → at c.objects 2 ≡ Some (single 1 0) → does (within 20) table f (Copy (object_named 0) (object_named 1)) (state c with_vectors) ≡ Faults fault.Moved
copied_moved c to from = rw (to, from, from) refl
