-- What instructions on values and ports do, worked out by hand: Live, End, Eval, Load, Save and Port.
use Rattle.std.proofs.Common.{◌≡◌, ℕ, List, [], ◌∷◌, Some, None, refl}
use Rattle.std.specs.Prelude.{ℤ, pos}
use Rattle.life_core.specs.Function.{Function}
use Rattle.life_core.specs.Operands.{behind, object_named, whole}
use Rattle.life_core.specs.Step.{Live, End, Eval, Load, Save, Ports, Writes, WritesView, Takes}
use Rattle.life_core.specs.declared.instr.Form.TheVariants as form
use Rattle.life_core.specs.declared.operation.Operation.TheVariants as operation
use Rattle.life_core.specs.declared.operation.Operator.TheVariants as operator
use Rattle.life_store.specs.Cells.{at}
use Rattle.life_store.specs.Content.{Content, live_words_of, with_object, without}
use Rattle.life_store.specs.Doing.{Next, Traps, Faults, does, with_value_object}
use Rattle.life_store.specs.State.{Pointer, Null, Wild, Static, Cell, Empty, Named, Number, Points, State}
use Rattle.life_store.specs.declared.run.FaultKind.TheVariants as fault
use Rattle.life_store.specs.declared.run.TrapKind.TheVariants as trap
use Rattle.life_store.proofs.Worked.{object, points, register, single, state, table, with_locals, within}

-- int x; and two registers of type int, and a pointer to int
abbrev f : Function
f = with_locals (object 0 ∷ register 0 ∷ register 0 ∷ register 2 ∷ [])

abbrev cells : (x : Cell) → (first second : ℤ) → Pointer → List Cell
cells x a b p = x ∷ Number a ∷ Number b ∷ Points p ∷ []

-- ---- Live, End

-- an int takes three words
born : (c : Content) → live_words_of c ≡ 7 → does (within 10) table f (Live 0 form.Plain) (state c (cells Empty (pos 1) (pos 2) Null))
    ≡ Next (state (with_value_object (record { 0 = 0 }) c) (cells (Named c.births) (pos 1) (pos 2) Null))
born c full = rw full refl

no_room : (c : Content) → live_words_of c ≡ 7 → does (within 9) table f (Live 0 form.Plain) (state c (cells Empty (pos 1) (pos 2) Null)) ≡ Traps trap.Cells
no_room c full = rw full refl

ended : (c : Content) → at c.objects 7 ≡ Some (single 0 5) → does (within 9) table f (End (0 ∷ [])) (state c (cells (Named 7) (pos 1) (pos 2) Null)) ≡ Next (state (without 7 c) (cells Empty (pos 1) (pos 2) Null))
ended c here = rw here refl

-- ---- Eval

computed : (c : Content) → does (within 9) table f (Eval 1 (operation.Binary operator.Add 1 2)) (state c (cells Empty (pos 2) (pos 3) Null)) ≡ Next (state c (cells Empty (pos 5) (pos 3) Null))
computed c = refl

overflow : (c : Content) → does (within 9) table f (Eval 1 (operation.Binary operator.Add 1 2)) (state c (cells Empty (pos 2147483647) (pos 1) Null)) ≡ Traps trap.Overflow
overflow c = refl

-- ---- Load, Save: an object, and what a pointer points to

read : (c : Content) → at c.objects 7 ≡ Some (single 0 5) → does (within 9) table f (Load 1 (object_named 0)) (state c (cells (Named 7) (pos 1) (pos 2) Null)) ≡ Next (state c (cells (Named 7) (pos 5) (pos 2) Null))
read c here = rw here refl

written : (c : Content) → at c.objects 7 ≡ Some (single 0 5) → does (within 9) table f (Save (object_named 0) 2) (state c (cells (Named 7) (pos 1) (pos 2) Null))
    ≡ Next (state (with_object 7 (single 0 2) c) (cells (Named 7) (pos 1) (pos 2) Null))
written c here = rw here refl

-- through null, through what never pointed anywhere, and to what is no more
read_null : (c : Content) → does (within 9) table f (Load 1 (behind 3)) (state c (cells Empty (pos 1) (pos 2) Null)) ≡ Faults fault.Null
read_null c = refl

written_wild : (c : Content) → does (within 9) table f (Save (behind 3) 2) (state c (cells Empty (pos 1) (pos 2) Wild)) ≡ Faults fault.Dangling
written_wild c = refl

read_ended : (c : Content) → at c.objects 7 ≡ None → does (within 9) table f (Load 1 (behind 3)) (state c (cells Empty (pos 1) (pos 2) (points 7 0 1))) ≡ Faults fault.Dangling
read_ended c gone = rw gone refl

-- ---- Port

-- a view of "b", a char, and a number of the input
abbrev g : Function
g = with_locals (register 9 ∷ register 10 ∷ register 0 ∷ [])

abbrev ports : (letter number : ℤ) → List Cell
ports letter number = Points (Static (record { text = Some 0; index = 1; count = 1 })) ∷ Number letter ∷ Number number ∷ []

abbrev with_ports : Content → (output : List ℕ) → (input : List ℤ) → (letter number : ℤ) → State
with_ports c output input letter number = record { world = record { content = c; output = output; input = input }; cells = ports letter number }

view_written : (c : Content) → does (within 9) table g (Ports (WritesView (whole 0))) (with_ports c (1 ∷ []) [] (pos 65) (pos 0)) ≡ Next (with_ports c (1 ∷ 98 ∷ []) [] (pos 65) (pos 0))
view_written c = refl

char_written : (c : Content) → does (within 9) table g (Ports (Writes 1)) (with_ports c (1 ∷ []) [] (pos 65) (pos 0)) ≡ Next (with_ports c (1 ∷ 65 ∷ []) [] (pos 65) (pos 0))
char_written c = refl

number_taken : (c : Content) → does (within 9) table g (Ports (Takes 2)) (with_ports c [] (pos 8 ∷ pos 9 ∷ []) (pos 65) (pos 0)) ≡ Next (with_ports c [] (pos 9 ∷ []) (pos 65) (pos 8))
number_taken c = refl

no_number : (c : Content) → does (within 9) table g (Ports (Takes 2)) (with_ports c [] [] (pos 65) (pos 0)) ≡ Traps trap.InputEnd
no_number c = refl
