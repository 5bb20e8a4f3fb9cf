-- What instructions on pointers, iterators and views do, worked out by hand: Aim, Repoint, Element, Cursor, Step, Cut, Size and Same.
use Rattle.std.proofs.Common.{◌≡◌, ℕ, true, false, List, [], ◌∷◌, Option, Some, None, refl}
use Rattle.std.specs.Prelude.{ℤ, pos}
use Rattle.life_core.specs.Function.{Function}
use Rattle.life_core.specs.Operands.{behind, object_named, whole}
use Rattle.life_core.specs.Operands as named
use Rattle.life_core.specs.Step.{Aim, Repoint, Element, Cursor, Advance, Cut, Size, Same, Save, Load}
use Rattle.life_core.specs.declared.instr.Direction.TheVariants as direction
use Rattle.life_core.specs.declared.operand.RangeEnd.TheVariants as range_end
use Rattle.life_core.specs.declared.operand.Which.TheVariants as which
use Rattle.life_store.specs.Cells.{at}
use Rattle.life_store.specs.Content.{Content}
use Rattle.life_store.specs.Doing.{Next, Traps, Got, GotTrap, does, empty_view, pointer_to}
use Rattle.life_store.specs.Iterators.{below, last_of, same_position, up_to, directed}
use Rattle.life_store.specs.State.{Pointer, Null, Wild, To, Static, Cell, Named, Number, Points}
use Rattle.life_store.specs.Views.{are_same, is_valid_range, part_count}
use Rattle.life_store.specs.declared.run.TrapKind.TheVariants as trap
use Rattle.life_store.proofs.Worked.{object, points, register, single, state, table, target, three, with_locals, within}

-- a vector, an iterator, another one, a span, a view, an int* and an int as a register
abbrev f : Function
f = with_locals (object 1 ∷ register 7 ∷ register 7 ∷ register 8 ∷ register 9 ∷ register 2 ∷ register 0 ∷ [])

-- the vector's object is 1, and its buffer 3
abbrev cells : (iterator other span view raw : Pointer) → (count : ℤ) → List Cell
cells i j s t p n = Named 1 ∷ Points i ∷ Points j ∷ Points s ∷ Points t ∷ Points p ∷ Number n ∷ []

-- .. where only one of them matters
abbrev with_iterator : Pointer → (count : ℤ) → List Cell
with_iterator i n = cells i Wild Wild Wild Wild n

abbrev with_span : (iterator span : Pointer) → (count : ℤ) → List Cell
with_span i s n = cells i Wild s Wild Wild n

abbrev with_view : (view : Pointer) → (count : ℤ) → List Cell
with_view t n = cells Wild Wild Wild t Wild n

abbrev with_raw : Pointer → List Cell
with_raw p = cells Wild Wild Wild Wild p (pos 0)

-- "b" of the text "ab"
abbrev text : (index count : ℕ) → Pointer
text i n = Static (record { text = Some 0; index = i; count = n })

-- the span of so many ints of the moment of its making
abbrev seen : Content → (index count : ℕ) → Pointer
seen c i n = To (record { object = 3; index = i; word = 0; count = n; moment = c.clock })

-- ---- Aim, Repoint

aimed : (c : Content) → at c.objects 1 ≡ Some (single 1 4) → does (within 9) table f (Aim (whole 5) (named.Place (object_named 0))) (state c (with_raw Null)) ≡ Next (state c (with_raw (pointer_to c 1 0 0)))
aimed c here = rw here refl

aimed_null : (c : Content) → does (within 9) table f (Aim (whole 5) named.Null) (state c (with_raw Wild)) ≡ Next (state c (with_raw Null))
aimed_null c = refl

aimed_text : (c : Content) → does (within 9) table f (Aim (whole 4) (named.Text 0)) (state c (with_view Wild (pos 0))) ≡ Next (state c (with_view (text 0 2) (pos 0)))
aimed_text c = refl

aimed_empty : (c : Content) → does (within 9) table f (Aim (whole 3) named.Empty) (state c (with_span Wild Wild (pos 0))) ≡ Next (state c (with_span Wild empty_view (pos 0)))
aimed_empty c = refl

-- what a pointer copies needn't be valid
repointed : (c : Content) → does (within 9) table f (Repoint (whole 2) (whole 1)) (state c (cells (points 9 0 1) Null Wild Wild Wild (pos 0))) ≡ Next (state c (cells (points 9 0 1) (points 9 0 1) Wild Wild Wild (pos 0)))
repointed c = refl

-- ---- Element: of a span

element_of_span : (c : Content) → at c.objects 3 ≡ Some three
    → does (within 9) table f (Element (whole 5) (named.Pointer (whole 3)) which.Last) (state c (cells Wild Wild (points 3 0 2) Wild Null (pos 0))) ≡ Next (state c (cells Wild Wild (points 3 0 2) Wild (pointer_to c 3 1 0) (pos 0)))
element_of_span c held = rw held refl

indices : (below 2 3 ≡ Got 2) × (below 3 3 ≡ GotTrap trap.Bounds) × (last_of 3 ≡ Got 2) × (last_of 0 ≡ GotTrap trap.Bounds)
indices = (refl, refl, refl, refl)

-- ---- Cursor, Step

begin_of_span : (c : Content) → at c.objects 3 ≡ Some three
    → does (within 9) table f (Cursor (whole 1) (named.Pointer (whole 3)) range_end.Begin) (state c (with_span Wild (points 3 1 2) (pos 0))) ≡ Next (state c (with_span (pointer_to c 3 1 0) (points 3 1 2) (pos 0)))
begin_of_span c held = rw held refl

stepped_too_far : (c : Content) → at c.objects 3 ≡ Some three → does (within 9) table f (Advance (whole 1) (whole 1) 6 direction.Backward) (state c (with_iterator (points 3 1 1) (pos 2))) ≡ Traps trap.Bounds
stepped_too_far c held = rw held refl

-- to the end, past it, and before the begin
steps : (up_to 3 (pos 3) ≡ Got 3) × (up_to 3 (pos 4) ≡ GotTrap trap.Bounds) × (up_to 3 (directed direction.Backward (pos 1)) ≡ GotTrap trap.Bounds)
steps = (refl, refl, refl)

-- ---- Cut, Size

cut_of_span : (c : Content) → at c.objects 3 ≡ Some three
    → does (within 9) table f (Cut (whole 3) (whole 3) 6 None) (state c (with_span Wild (points 3 0 3) (pos 1))) ≡ Next (state c (with_span Wild (seen c 1 2) (pos 1)))
cut_of_span c held = rw held refl

cut_of_view : (c : Content) → does (within 9) table f (Cut (whole 4) (whole 4) 6 (Some 6)) (state c (with_view (text 0 2) (pos 1))) ≡ Next (state c (with_view (text 1 1) (pos 1)))
cut_of_view c = refl

cut_past_view : (c : Content) → does (within 9) table f (Cut (whole 4) (whole 4) 6 None) (state c (with_view (text 0 2) (pos 3))) ≡ Traps trap.Bounds
cut_past_view c = refl

-- a span has as many as are asked for, and a view what is left
subspans : (part_count true 1 (Some 2) 3 ≡ Got 2) × (part_count true 2 (Some 2) 3 ≡ GotTrap trap.Bounds) × (part_count true 3 (Some 0) 3 ≡ Got 0)
subspans = (refl, refl, refl)

substrings : (part_count false 1 (Some 9) 3 ≡ Got 2) × (part_count false 4 (Some 0) 3 ≡ GotTrap trap.Bounds) × (part_count false 3 None 3 ≡ Got 0)
substrings = (refl, refl, refl)

size_of_view : (c : Content) → does (within 9) table f (Size 6 (named.Pointer (whole 4))) (state c (with_view (text 1 1) (pos 0))) ≡ Next (state c (with_view (text 1 1) (pos 1)))
size_of_view c = refl

-- ---- Same: two iterators into one buffer, and views by their characters

same_iterators : (c : Content) → at c.objects 3 ≡ Some three
    → does (within 9) table f (Same 6 (whole 1) (whole 2) true) (state c (cells (points 3 1 1) (points 3 3 1) Wild Wild Wild (pos 9))) ≡ Next (state c (cells (points 3 1 1) (points 3 3 1) Wild Wild Wild (pos 0)))
same_iterators c held = rw held refl

foreign_iterators : (c : Content) → at c.objects 3 ≡ Some three → at c.objects 4 ≡ Some three
    → does (within 9) table f (Same 6 (whole 1) (whole 2) true) (state c (cells (points 3 1 1) (points 4 1 1) Wild Wild Wild (pos 9))) ≡ Traps trap.ForeignIterator
foreign_iterators c held other = rw (held, other) refl

same_views : (c : Content) → does (within 9) table f (Same 6 (whole 4) (whole 4) false) (state c (with_view (text 0 2) (pos 9))) ≡ Next (state c (with_view (text 0 2) (pos 0)))
same_views c = refl

positions : (same_position (points 1 2 1) (points 1 2 1) ≡ Got true) × (same_position (points 1 2 1) (points 1 3 1) ≡ Got false) × (same_position (points 1 2 1) (points 2 2 1) ≡ GotTrap trap.ForeignIterator)
positions = (refl, refl, refl)

-- into one text, into two, and into an empty view of none
abbrev reads : Option ℕ → ℕ → Pointer
reads t i = Static (record { text = t; index = i; count = 1 })

text_positions : (same_position (reads (Some 0) 1) (reads (Some 0) 1) ≡ Got true) × (same_position (reads (Some 0) 1) (reads (Some 1) 1) ≡ GotTrap trap.ForeignIterator) × (same_position (reads None 0) (reads None 0) ≡ Got true)
text_positions = (refl, refl, refl)

views : (are_same (1 ∷ 2 ∷ []) (1 ∷ 2 ∷ []) ≡ true) × (are_same (1 ∷ []) (1 ∷ 2 ∷ []) ≡ false)
views = (refl, refl)

-- ---- nothing is seen

-- a span of nothing names no position: it is valid wherever it begins, also behind the end, while its object lives. One that sees a
-- position behind the end isn't
of_nothing : (c : Content) → at c.objects 3 ≡ Some three → (is_valid_range c (target 3 4 0) ≡ true) × (is_valid_range c (target 3 3 1) ≡ false)
of_nothing c held = (rw held refl, rw held refl)

of_ended : (c : Content) → at c.objects 3 ≡ None → is_valid_range c (target 3 4 0) ≡ false
of_ended c gone = rw gone refl

size_of_nothing : (c : Content) → at c.objects 3 ≡ Some three
    → does (within 9) table f (Size 6 (named.Pointer (whole 3))) (state c (with_span Wild (points 3 4 0) (pos 9))) ≡ Next (state c (with_span Wild (points 3 4 0) (pos 0)))
size_of_nothing c held = rw held refl

-- the iterator over the span that is empty from its birth is at an end: what goes through it is a trap, whether it reads or writes
begin_of_empty : (c : Content) → does (within 9) table f (Cursor (whole 1) (named.Pointer (whole 3)) range_end.Begin) (state c (with_span Wild empty_view (pos 0))) ≡ Next (state c (with_span (reads None 0) empty_view (pos 0)))
begin_of_empty c = refl

read_empty : (c : Content) → does (within 9) table f (Load 6 (behind 1)) (state c (with_iterator (reads None 0) (pos 0))) ≡ Traps trap.Bounds
read_empty c = refl

written_empty : (c : Content) → does (within 9) table f (Save (behind 1) 6) (state c (with_iterator (reads None 0) (pos 0))) ≡ Traps trap.Bounds
written_empty c = refl
