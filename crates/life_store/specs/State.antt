-- The state of a run: the world that all frames share, and the cells of one frame.
use Rattle.std.specs.Prelude.{ℕ, ℤ, Bool, true, false, List, Option, map}
use Rattle.life_core.specs.Ready.{Ready}
use Rattle.life_store.specs.Content.{Content}

-- a position in an object, the word of the slot there at which begins what is pointed to, how many positions a span or a view has from
-- there on (what points to one thing has one), and the moment at which the pointer was made
pub record Target : Type 0 where
  pub object : ℕ
  pub index : ℕ
  pub word : ℕ
  pub count : ℕ
  pub moment : ℕ

-- characters that never end: of a text of the program, or of none, from an index on
pub record Characters : Type 0 where
  pub text : Option ℕ
  pub index : ℕ
  pub count : ℕ

-- a wild pointer never pointed to anything
pub data Pointer : Type 0 where
  Null : Pointer
  Wild : Pointer
  To : Target → Pointer
  Static : Characters → Pointer

-- what a local holds: nothing, the number of its object, a value, or a pointer
pub data Cell : Type 0 where
  Empty : Cell
  Named : (object : ℕ) → Cell
  Number : ℤ → Cell
  Points : Pointer → Cell

-- the store, what was written so far, and the input numbers that are left
pub record World : Type 0 where
  pub content : Content
  pub output : List ℕ
  pub input : List ℤ

pub record State : Type 0 where
  pub world : World
  pub cells : List Cell

-- a local is there where its cell isn't empty
abbrev pub is_there : Cell → Bool
is_there Empty = false
is_there (Named n) = true
is_there (Number z) = true
is_there (Points p) = true

-- which locals are there
abbrev pub ready_of : State → Ready
ready_of st = map is_there st.cells
