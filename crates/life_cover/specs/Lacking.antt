-- Which objects may be without their buffers in a frame: locals that facts say were moved from, and what the frame can't come to.
use Rattle.std.specs.Prelude.{◌≡◌, ◌≢◌, ℕ, ◌<◌, true, List, Option, Some, slice_get}
use Rattle.std.proofs.Common.{◌⊎◌}
use Rattle.life_types.specs.Types.{Types}
use Rattle.life_core.specs.Function.{Function}
use Rattle.life_pset.specs.Elements.{local_place}
use Rattle.life_pset.specs.Shapes.{has_buffer}
use Rattle.life_pset.specs.declared.element.Cause.{Cause}
use Rattle.life_pset.specs.declared.element.Element.TheVariants as element
use Rattle.life_pset.specs.declared.element.Fact.{Fact}
use Rattle.life_pset.specs.declared.element.Root.{Root}
use Rattle.life_proper.specs.Placed.{type_at}
use Rattle.life_rules.specs.Matching.{fact_at}
use Rattle.life_store.specs.Content.{Content}
use Rattle.life_store.specs.State.{Cell, Named, State}
use Rattle.life_forest.specs.Frames.{named_in}
use Rattle.life_forest.specs.Kinds.{kinds_of}
use Rattle.life_forest.specs.Owned.{every, owns_at, times}
use Rattle.life_cover.specs.Regions.{Region}

-- the object is a vector or a string that may have been moved from
pub record IsMovedFrom (types : Types) (f : Function) (S : Fact → Type 0) (cells : List Cell) (n : ℕ) : Type 0 where
  pub local : ℕ
  pub names : slice_get cells local ≡ Some (Named n)
  pub owner : has_buffer (type_at types f local) ≡ true
  pub cause : Cause
  pub holds : S (fact_at (local_place local) (element.Moved cause))

-- no input stands there
abbrev pub IsSpared : (inputs : Root → Option Region) → ℕ → Type 0
IsSpared inputs n = (r : Root) (a : Region) → inputs r ≡ Some a → a.object ≢ n

-- what was born, is named by none of these, isn't owned, and where no input stands: nobody here comes to it
pub record IsLoose (types : Types) (inputs : Root → Option Region) (names : List ℕ) (c : Content) (n : ℕ) : Type 0 where
  pub born : n < c.births
  pub unnamed : times names n ≡ 0
  pub spared : IsSpared inputs n
  pub unowned : (m : ℕ) → 0 < owns_at (kinds_of types) c every m n → ⊥

abbrev pub MayLack : Types → Function → (inputs : Root → Option Region) → (S : Fact → Type 0) → State → ℕ → Type 0
MayLack types f inputs S st n = IsMovedFrom types f S st.cells n ⊎ IsLoose types inputs (named_in st.cells) st.world.content n

-- no fact says that the local was moved from
abbrev pub IsUnmoved : (S : Fact → Type 0) → ℕ → Type 0
IsUnmoved S x = (cause : Cause) → S (fact_at (local_place x) (element.Moved cause)) → ⊥
