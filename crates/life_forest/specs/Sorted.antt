-- What a cell of a frame holds, by its local's kind and type: an object's cell names it, and what lies in no memory is a pointer or a number.
use Rattle.std.specs.Prelude.{◌≡◌, ℕ, Bool, true, false, List, Option, Some, None, slice_get}
use Rattle.life_types.specs.TypeTests.{is_constant, is_pointer, is_raw, is_view}
use Rattle.life_types.specs.Types.{Types}
use Rattle.life_types.specs.declared.ty.Ty.{Ty}
use Rattle.life_core.specs.Function.{Function}
use Rattle.life_proper.specs.Placed.{object_at, type_at}
use Rattle.life_store.specs.State.{Target, Pointer, Null, Wild, To, Static, Cell, Empty, Named, Number, Points}

pub data Sort : Type 0 where
  Names : Sort
  Aims : Sort
  Counts : Sort

abbrev pub sort_if : (object pointer : Bool) → Sort
sort_if true pointer = Names
sort_if false true = Aims
sort_if false false = Counts

abbrev pub sort_at : Types → Function → ℕ → Sort
sort_at types f x = sort_if (object_at types f x) (is_pointer (type_at types f x))

-- of the pointers a raw pointer alone is null, and what points to characters of a text takes them as const
abbrev pub StaticFits : Ty → Option ℕ → Type 0
StaticFits t None = Unit {0}
StaticFits t (Some n) = is_constant t ≡ true

-- .. and a view sees the first word of each position, where a character lies
abbrev pub SeesFirst : Ty → Target → Type 0
SeesFirst t target = is_view t ≡ true → target.word ≡ 0

abbrev pub PointerFits : Ty → Pointer → Type 0
PointerFits t Null = is_raw t ≡ true
PointerFits t Wild = Unit {0}
PointerFits t (To target) = SeesFirst t target
PointerFits t (Static s) = StaticFits t s.text

-- where the local is there
abbrev pub Fits : Sort → Ty → Cell → Type 0
Fits sort t Empty = Unit {0}
Fits sort t (Named n) = sort ≡ Names
Fits sort t (Number z) = sort ≡ Counts
Fits sort t (Points p) = (sort ≡ Aims) × PointerFits t p

abbrev pub AreSorted : Types → Function → List Cell → Type 0
AreSorted types f cells = (x : ℕ) (v : Cell) → slice_get cells x ≡ Some v → Fits (sort_at types f x) (type_at types f x) v
