-- What a call hands over and gives back, worked out by hand, with slots.
use Rattle.std.proofs.Common.{◌≡◌, ℕ, zero, List, [], ◌∷◌, Some, None, refl}
use Rattle.std.specs.Prelude.{ℤ, pos}
use Rattle.life_core.specs.Function.{Function, Program}
use Rattle.life_core.specs.Operands.{Location, Value, GivenOver, PointerOf, Slot, whole}
use Rattle.life_store.specs.Calls.{all_handed, handed, lent, results, parameters_given, slot_returned, taken_back}
use Rattle.life_store.specs.Cells.{at}
use Rattle.life_store.specs.Content.{Object, Content, with_object, without}
use Rattle.life_store.specs.Doing.{Setting, Next}
use Rattle.life_store.specs.Meaning.{Barred, calls}
use Rattle.life_store.specs.State.{Pointer, Null, Wild, Cell, Empty, Named, Number, Points, World}
use Rattle.life_store.specs.declared.run.TrapKind.TheVariants as trap
use Rattle.life_store.proofs.Worked.{object, points, register, single, state, table, with_locals, within}

-- ---- what goes in, and what comes out

-- an int and an int* as registers, and a string
abbrev f : Function
f = with_locals (register 0 ∷ register 2 ∷ object 3 ∷ [])

abbrev cells : ℤ → Pointer → Cell → List Cell
cells z p x = Number z ∷ Points p ∷ x ∷ []

all_three : (c : Content) → all_handed table f (state c (cells (pos 5) (points 7 0 1) (Named 1))) (Value 0 ∷ PointerOf (whole 1) ∷ GivenOver 2 ∷ []) ≡ Some (Number (pos 5) ∷ Points (points 7 0 1) ∷ Named 1 ∷ [])
all_three c = refl

-- what is given over isn't the caller's any more
given_over : (c : Content) → lent table f (Value 0 ∷ PointerOf (whole 1) ∷ GivenOver 2 ∷ []) (state c (cells (pos 5) (points 7 0 1) (Named 1))) ≡ state c (cells (pos 5) (points 7 0 1) Empty)
given_over c = refl

not_there : (c : Content) → all_handed table f (state c (cells (pos 5) Null Empty)) (GivenOver 2 ∷ []) ≡ None
not_there c = refl

-- from left to right, each as its parameter
taken_in : (c : Content) → parameters_given (within 9) table f 0 (Number (pos 5) ∷ Points Null ∷ Named 1 ∷ []) (state c (Empty ∷ Empty ∷ Empty ∷ [])) ≡ Next (state c (cells (pos 5) Null (Named 1)))
taken_in c = refl

-- an int is given back to an int
given_back : (c : Content) → results table f (state c (cells (pos 5) Null Empty)) ≡ Number (pos 5) ∷ []
given_back c = refl

back_at_target : (c : Content) → taken_back (within 9) table f (Some (whole 0)) (Value 0 ∷ []) (Number (pos 6) ∷ []) (state c (cells (pos 5) Null Empty)) ≡ Next (state c (cells (pos 6) Null Empty))
back_at_target c = refl

-- no frame is left
too_deep : (s : Setting) (p : Program) (g n : ℕ) (xs : List Cell) (w : World) → calls s p zero g xs n w ≡ Barred trap.Depth
too_deep s p g n xs w = refl

-- ---- slots: a whole unique_ptr, and one that is the last member of a struct, behind seven words

abbrev g : Function
g = with_locals (object 6 ∷ object 11 ∷ [])

abbrev member : Location
member = record { local = 0; members = 3 ∷ [] }

-- the struct whose unique_ptr has this word
abbrev structure : (word : ℕ) → Object
structure word = record {
  ty = record { 0 = 6 };
  width = 8;
  capacity = 1;
  slots = record { words = 1 ∷ 0 ∷ 0 ∷ 0 ∷ 0 ∷ 0 ∷ 0 ∷ word ∷ []; stamp = 5 } ∷ [];
  end = 5;
}

abbrev owners : List Cell
owners = Named 7 ∷ Named 8 ∷ []

-- each hands over what it owns, and is null while the call runs
whole_handed : (c : Content) → at c.objects 8 ≡ Some (single 11 5) → handed table g (state c owners) (Slot (whole 1)) ≡ Some (Named 4)
whole_handed c held = rw held refl

member_handed : (c : Content) → at c.objects 7 ≡ Some (structure 5) → handed table g (state c owners) (Slot member) ≡ Some (Named 4)
member_handed c held = rw held refl

null_handed : (c : Content) → at c.objects 7 ≡ Some (structure 0) → handed table g (state c owners) (Slot member) ≡ Some Empty
null_handed c held = rw held refl

whole_lent : (c : Content) → at c.objects 8 ≡ Some (single 11 5) → lent table g (Slot (whole 1) ∷ []) (state c owners) ≡ state (with_object 8 (single 11 0) c) owners
whole_lent c held = rw held refl

member_lent : (c : Content) → at c.objects 7 ≡ Some (structure 5) → lent table g (Slot member ∷ []) (state c owners) ≡ state (with_object 7 (structure 0) c) owners
member_lent c held = rw held refl

-- .. and has what the slot has in the end, which is no more then
member_returned : (c : Content) → at c.objects 7 ≡ Some (structure 0) → at c.objects 9 ≡ Some (single 11 6)
    → slot_returned table g member (Named 9) (state c owners) ≡ Next (state (without 9 (with_object 7 (structure 6) c)) owners)
member_returned c held slot = rw (held, slot) refl

-- a slot that is a pointer is handed over and given back as its value
abbrev h : Function
h = with_locals (register 2 ∷ [])

pointer_handed : (c : Content) → handed table h (state c (Points Wild ∷ [])) (Slot (whole 0)) ≡ Some (Points Wild)
pointer_handed c = refl

pointer_returned : (c : Content) → slot_returned table h (whole 0) (Points Null) (state c (Points Wild ∷ [])) ≡ Next (state c (Points Null ∷ []))
pointer_returned c = refl
