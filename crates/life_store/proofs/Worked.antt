-- What the small cases share: a table of types, functions with such locals, their states, and objects.
use Rattle.std.proofs.Common.{ℕ, false, List, [], ◌∷◌, None}
use Rattle.life_types.specs.Types.{Types}
use Rattle.life_types.specs.declared.place.Place.{Place}
use Rattle.life_types.specs.declared.ty.Ty.TheVariants as variant
use Rattle.life_types.specs.declared.ty.TyId.{TyId}
use Rattle.life_core.specs.Function.{Function, Default}
use Rattle.life_core.specs.Tree.{Skip}
use Rattle.life_core.specs.declared.program.Local.{Local}
use Rattle.life_core.specs.declared.program.LocalKind.{LocalKind}
use Rattle.life_core.specs.declared.program.LocalKind.TheVariants as local_kind
use Rattle.life_store.specs.Content.{Slot, Object, Content}
use Rattle.life_store.specs.Effects.{Setting}
use Rattle.life_store.specs.State.{Target, Pointer, To, Cell, State}
use Rattle.life_store.specs.declared.run.Growth.TheVariants as policy

abbrev pub id : ℕ → TyId
id n = record { 0 = n }

-- 0 int, 1 std::vector<int>, 2 int*, 3 std::string, 4 struct S' { std::string s; }, 5 std::unique_ptr<S'>,
-- 6 struct S { int n; std::vector<int> v; int* p; std::unique_ptr<S'> u; }, 7 std::vector<int>::iterator, 8 gsl::span<int>,
-- 9 std::string_view, 10 char, 11 std::unique_ptr<int>
abbrev pub table : Types
table = record {
  types = variant.Int
      ∷ variant.Vector (id 0)
      ∷ variant.Raw (id 0) false
      ∷ variant.Text
      ∷ variant.Struct 0
      ∷ variant.Unique (id 4)
      ∷ variant.Struct 1
      ∷ variant.Iterator (id 0) false
      ∷ variant.Span (id 0) false
      ∷ variant.View
      ∷ variant.Char
      ∷ variant.Unique (id 0)
      ∷ [];
  structs = (id 3 ∷ []) ∷ (id 0 ∷ id 1 ∷ id 2 ∷ id 5 ∷ []) ∷ [];
}

-- ---- functions

abbrev nowhere : Place
nowhere = record { line = 1; column = 1 }

abbrev local_of : LocalKind → ℕ → Local
local_of k n = record { name = None; ty = id n; kind = k; place = nowhere; nonnull = false; keeps = false }

-- an object or a register of the type with this number
abbrev pub object : ℕ → Local
object n = local_of local_kind.Object n

abbrev pub register : ℕ → Local
register n = local_of local_kind.Register n

abbrev pub with_locals : List Local → Function
with_locals ls = record { name = record { 0 = 0 }; place = nowhere; parameters = 0; result = id 0; promise = Default; locals = ls; body = Skip }

-- ---- states

-- a run with room for so many words, with the text "ab"
abbrev pub within : (cells : ℕ) → Setting
within cells = record { given = record { growth = policy.Double; cells = cells; depth = 2 }; texts = (97 ∷ 98 ∷ []) ∷ [] }

abbrev pub state : Content → List Cell → State
state c cells = record { world = record { content = c; output = []; input = [] }; cells = cells }

-- a pointer of the moment 5
abbrev pub target : (object index count : ℕ) → Target
target n i k = record { object = n; index = i; word = 0; count = k; moment = 5 }

abbrev pub points : (object index count : ℕ) → Pointer
points n i k = To (target n i k)

-- ---- objects, which stand as they are since the moment 5

abbrev pub slot : ℕ → Slot
slot word = record { words = word ∷ []; stamp = 5 }

-- a word in one slot
abbrev pub single : (type word : ℕ) → Object
single n word = record { ty = id n; width = 1; capacity = 1; slots = slot word ∷ []; end = 5 }

-- a buffer with room for so many ints
abbrev pub buffer : (capacity : ℕ) → List Slot → Object
buffer capacity slots = record { ty = id 0; width = 1; capacity = capacity; slots = slots; end = 5 }

abbrev pub three : Object
three = buffer 4 (slot 1 ∷ slot 2 ∷ slot 3 ∷ [])
