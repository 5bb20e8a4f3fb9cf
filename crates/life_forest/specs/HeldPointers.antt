-- What the pointers point to that are members of the objects of a frame.
use Rattle.std.specs.Prelude.{◌≡◌, ℕ, Some, slice_get}
use Rattle.life_types.specs.Types.{Types}
use Rattle.life_types.specs.declared.ty.Ty.{Ty}
use Rattle.life_types.specs.declared.ty.TyId.{TyId}
use Rattle.life_core.specs.Function.{Function}
use Rattle.life_store.specs.Content.{Content}
use Rattle.life_store.specs.Effects.{cell}
use Rattle.life_store.specs.Held.{pointer_in, words_at}
use Rattle.life_store.specs.Parts.{local_type}
use Rattle.life_store.specs.State.{Named, State}
use Rattle.life_forest.specs.Begins.{begins_at}
use Rattle.life_forest.specs.FrameTypes.{PointsWell, seen_type}
use Rattle.life_forest.specs.Sorted.{PointerFits}

-- each pointer in the object's first slot points well, and is one of its type
pub record HoldsWell (types : Types) (c : Content) (n : ℕ) (id : TyId) : Type 0 where
  pub aims : (u : ℕ) (part : TyId) → begins_at types id u ≡ Some part → PointsWell types c (seen_type types (Some part)) (pointer_in (words_at c n 0 u 5))
  pub fits : (u : ℕ) (part : TyId) (t : Ty) → begins_at types id u ≡ Some part → slice_get types.types part.0 ≡ Some t → PointerFits t (pointer_in (words_at c n 0 u 5))

-- so of each object that a cell names
abbrev pub HoldWell : Types → Function → State → Type 0
HoldWell types f st = (x n : ℕ) (id : TyId) → cell st x ≡ Some (Named n) → local_type types f x ≡ Some id → HoldsWell types st.world.content n id
