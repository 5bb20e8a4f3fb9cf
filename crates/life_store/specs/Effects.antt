-- What comes of an instruction: the next state, a trap, a fault, or a step that no proper program takes. And what a register holds.
use Rattle.std.specs.Prelude.{ℕ, zero, ℤ, pos, ◌%◌, ◌^◌, List, Option, Some, None, slice_get, slice_set}
use Rattle.std.specs.Int.{cast_signed, cast_unsigned, w8, w32, w64}
use Rattle.life_types.specs.Types.{Types}
use Rattle.life_types.specs.declared.ty.Ty.{Ty}
use Rattle.life_types.specs.declared.ty.Ty.TheVariants as variant
use Rattle.life_core.specs.declared.program.Local.{Local}
use Rattle.life_core.specs.Function.{Function}
use Rattle.life_store.specs.Content.{Content}
use Rattle.life_store.specs.State.{Pointer, Cell, Empty, Named, Number, Points, State}
use Rattle.life_store.specs.declared.run.FaultKind.{FaultKind}
use Rattle.life_store.specs.declared.run.Growth.{Growth}
use Rattle.life_store.specs.declared.run.TrapKind.{TrapKind}

-- what a run is given: the growth policy, and the limits of live words and of frames
pub record Given : Type 0 where
  pub growth : Growth
  pub cells : ℕ
  pub depth : ℕ

-- .. with the program's texts
pub record Setting : Type 0 where
  pub given : Given
  pub texts : List (List ℕ)

-- the next state, a trap, a fault, or a step that no proper program takes
pub data Effect : Type 0 where
  Next : State → Effect
  Traps : TrapKind → Effect
  Faults : FaultKind → Effect
  Strays : Effect

-- ---- cells

abbrev pub cell : State → ℕ → Option Cell
cell st x = slice_get st.cells x

abbrev pub put_cell : ℕ → Cell → State → State
put_cell x v st = record st { cells = slice_set st.cells x v }

abbrev pub put_content : Content → State → State
put_content c st = record st { world = record (st.world) { content = c } }

-- ---- values

-- a value in the word of a slot, as 64 bits
abbrev pub word_of_number : ℤ → ℕ
word_of_number z = cast_unsigned w64 z

abbrev pub number_in_word : ℕ → ℤ
number_in_word word = cast_signed w64 word

-- modulo 2^32, with a sign (ISO/IEC 14882:2017 [conv.integral] leaves this to the implementation)
abbrev pub as_int : ℤ → ℤ
as_int z = cast_signed w32 (cast_unsigned w64 z % 2 ^ 32)

-- .. modulo 2^8, which is the width of a char
abbrev pub as_char : ℤ → ℤ
as_char z = cast_signed w8 (cast_unsigned w64 z % 2 ^ 8)

-- 1 for what isn't 0 ([conv.bool])
abbrev pub as_bool : ℤ → ℤ
as_bool (pos zero) = pos 0
as_bool _ = pos 1

-- a long and a size_t have all 64 bits, and what has no value of its own stays as it is
abbrev pub converted : Option Ty → ℤ → ℤ
converted (Some variant.Bool) z = as_bool z
converted (Some variant.Char) z = as_char z
converted (Some variant.Int) z = as_int z
converted _ z = z

abbrev pub type_of_local : Types → Option Local → Option Ty
type_of_local types None = None
type_of_local types (Some l) = slice_get types.types l.ty.0

abbrev pub type_of : Types → Function → ℕ → Option Ty
type_of types f x = type_of_local types (slice_get f.locals x)

abbrev pub on_number : Option Cell → (ℤ → Effect) → Effect
on_number None go = Strays
on_number (Some Empty) go = Strays
on_number (Some (Named n)) go = Strays
on_number (Some (Number z)) go = go z
on_number (Some (Points p)) go = Strays

abbrev pub on_pointer : Option Cell → (Pointer → Effect) → Effect
on_pointer None go = Strays
on_pointer (Some Empty) go = Strays
on_pointer (Some (Named n)) go = Strays
on_pointer (Some (Number z)) go = Strays
on_pointer (Some (Points p)) go = go p

-- ---- one after the other

abbrev pub on_next : Effect → (State → Effect) → Effect
on_next (Next st) go = go st
on_next (Traps kind) go = Traps kind
on_next (Faults kind) go = Faults kind
on_next Strays go = Strays

-- what may come of a part of an instruction
pub data Attempt (A : Type 0) : Type 0 where
  Got : A → Attempt A
  GotTrap : TrapKind → Attempt A
  GotFault : FaultKind → Attempt A
  GotLost : Attempt A

abbrev pub on_got : {A : Type 0} → Attempt A → (A → Effect) → Effect
on_got (Got a) go = go a
on_got (GotTrap kind) go = Traps kind
on_got (GotFault kind) go = Faults kind
on_got GotLost go = Strays

abbrev pub then_get : {A B : Type 0} → Attempt A → (A → Attempt B) → Attempt B
then_get (Got a) go = go a
then_get (GotTrap kind) go = GotTrap kind
then_get (GotFault kind) go = GotFault kind
then_get GotLost go = GotLost

-- the answer, or what is wrong where there is none
abbrev pub got_or : {A : Type 0} → Option A → Attempt A → Attempt A
got_or None otherwise = otherwise
got_or (Some a) otherwise = Got a
