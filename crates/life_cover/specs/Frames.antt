-- Where the places of a frame lie, and that its facts cover what its pointers hold.
use Rattle.std.specs.Prelude.{◌≡◌, ℕ, true, Bool, List, Option, Some, slice_get}
use Rattle.life_types.specs.TypeTests.{is_constant, is_pointer}
use Rattle.life_types.specs.Types.{Types}
use Rattle.life_types.specs.declared.ty.TyId.{TyId}
use Rattle.life_contract.specs.Located.{located}
use Rattle.life_core.specs.Function.{Function}
use Rattle.life_core.specs.Operands.{Location, whole}
use Rattle.life_proper.specs.OperandTypes.{is_range}
use Rattle.life_proper.specs.Placed.{type_in}
use Rattle.life_pset.specs.Shapes.{ty_if}
use Rattle.life_pset.specs.declared.element.Fact.{Fact}
use Rattle.life_pset.specs.declared.element.Root.{Root}
use Rattle.life_pset.specs.declared.element.Root.TheVariants as root
use Rattle.life_store.specs.Parts.{local_type, location_type}
use Rattle.life_store.specs.Places.{location_cell}
use Rattle.life_store.specs.State.{Pointer, Cell, Named, Points, State}
use Rattle.life_forest.specs.FrameTypes.{seen_type}
use Rattle.life_cover.specs.Covers.{IsCovered, Look}
use Rattle.life_cover.specs.Inputs.{StandsAt, may_change}
use Rattle.life_cover.specs.Regions.{Region}

-- a local's object is all of it; where the inputs stand was settled at the frame's entry
abbrev pub RootStands : Types → Function → (Input : Root → Region → Type 0) → List Cell → Root → Region → Type 0
RootStands types f Input cells (root.Local x) r = (slice_get cells x ≡ Some (Named r.object)) × (r.word ≡ 0) × (local_type types f x ≡ Some r.ty)
RootStands types f Input cells (root.Input q member) r = Input (root.Input q member) r

-- a pointer of this type
abbrev pub look_of : Types → Option TyId → Look
look_of types id = record { ranged = is_range (ty_if types id); target = seen_type types id; constant = is_constant (ty_if types id) }

-- one that is a local, or a member of one
abbrev pub look_in : Types → Function → Location → Look
look_in types f l = record { ranged = is_range (type_in types f l); target = seen_type types (location_type types f l); constant = is_constant (type_in types f l) }

abbrev pub look_at : Types → Function → ℕ → Look
look_at types f x = look_in types f (whole x)

-- what each of them holds is covered
abbrev pub LocationsCovered : Types → Function → (Input : Root → Region → Type 0) → (may_change : Root → Bool) → (S : Fact → Type 0) → State → Type 0
LocationsCovered types f Input may_change S st =
    (l : Location) (v : Pointer) → is_pointer (type_in types f l) ≡ true → location_cell types f l st ≡ Some (Points v) → IsCovered types st.world.content (RootStands types f Input st.cells) may_change S (located l) (look_in types f l) v

-- ---- a frame

-- no input stands anywhere
abbrev pub NoInput : Root → Region → Type 0
NoInput r a = ⊥

abbrev pub FrameCovered : Types → Function → (inputs : Root → Option Region) → (S : Fact → Type 0) → State → Type 0
FrameCovered types f inputs S st = LocationsCovered types f (StandsAt inputs) (may_change types f) S st
