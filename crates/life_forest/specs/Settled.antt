-- What comes of an instruction that is ready: no stray step, and with it the locals that are there, each of its sort.
use Rattle.std.specs.Prelude.{◌≡◌, ℕ, true, Some, slice_get}
use Rattle.life_types.specs.TypeTests.{is_pointer}
use Rattle.life_types.specs.Types.{Types}
use Rattle.life_core.specs.declared.program.Local.{Local}
use Rattle.life_core.specs.Function.{Function}
use Rattle.life_core.specs.Operands.{Location}
use Rattle.life_core.specs.Ready.{Ready}
use Rattle.life_proper.specs.Placed.{type_at, type_in}
use Rattle.life_proper.specs.WellFormedPrograms.{fits_kind}
use Rattle.life_store.specs.Effects.{Effect, Next, Traps, Faults, Strays}
use Rattle.life_store.specs.Places.{location_cell}
use Rattle.life_store.specs.State.{Pointer, Points, State, ready_of}
use Rattle.life_forest.specs.FrameTypes.{IsFrame}
use Rattle.life_forest.specs.Sorted.{AreSorted, PointerFits}

-- the kind of each local fits its type
abbrev pub KindsFit : Types → Function → Type 0
KindsFit types f = (x : ℕ) (l : Local) → slice_get f.locals x ≡ Some l → fits_kind l.kind (type_at types f x) ≡ true

-- .. and what stands in a pointer that is a local, or a member of one
abbrev pub PointersFit : Types → Function → State → Type 0
PointersFit types f st = (l : Location) (p : Pointer) → is_pointer (type_in types f l) ≡ true → location_cell types f l st ≡ Some (Points p) → PointerFits (type_in types f l) p

-- a state of a frame before an instruction
pub record IsPoised (types : Types) (f : Function) (st : State) : Type 0 where
  pub kinds : KindsFit types f
  pub frame : IsFrame types f st.world.content st.cells
  pub sorted : AreSorted types f st.cells
  pub pointers : PointersFit types f st

-- the next state has these locals
abbrev pub Settles : Types → Function → Ready → Effect → Type 0
Settles types f bits (Next st) = (ready_of st ≡ bits) × AreSorted types f st.cells
Settles types f bits (Traps kind) = Unit {0}
Settles types f bits (Faults kind) = Unit {0}
Settles types f bits Strays = ⊥
