-- A change of an owner in a place, by its name or through a pointer: the facts that the rules leave cover all other pointers.
use Rattle.std.proofs.Common.{◌≡◌, ℕ, Bool, true, false, List, length, Some}
use Rattle.life_types.specs.Trees.{IsOrdered}
use Rattle.life_types.specs.Types.{Types}
use Rattle.life_types.specs.declared.ty.TyId.{TyId}
use Rattle.life_pset.specs.Places.{members_place, under}
use Rattle.life_pset.specs.declared.element.AbsPlace.{AbsPlace}
use Rattle.life_pset.specs.declared.element.Fact.{Fact}
use Rattle.life_pset.specs.declared.element.Root.{Root}
use Rattle.life_store.specs.Content.{Content}
use Rattle.life_store.specs.Parts.{type_within}
use Rattle.life_store.specs.State.{Pointer, Target}
use Rattle.life_forest.specs.Forest.{Touches}
use Rattle.life_forest.specs.Kinds.{kinds_of}
use Rattle.life_forest.specs.Typed.{IsStore}
use Rattle.life_cover.specs.Covers.{IsCovered, Look, PointsTo}
use Rattle.life_cover.specs.Kills.{Guards, LeftBy}
use Rattle.life_cover.specs.Regions.{IsAt, Region, foot_of}
use Rattle.life_cover.specs.Roots.{AreRooted}
use Rattle.life_cover.proofs.Guarding.{under_place}
use Rattle.life_cover.proofs.Killing.{cover_on}
use Rattle.life_cover.proofs.Stepping.{AllSmall, HasRoom, members_at}

module _ (types : Types) (ordered : IsOrdered types) (hand : ℕ → ℕ) (c d : Content) (store : IsStore types hand c) (Stands : Root → Region → Type 0) (may_change owning : Root → Bool) (rooted : AreRooted types c Stands owning) where
  -- what is owned in a place is guarded by what is under it
  pub place_guards : (S : Fact → Type 0) (killed : AbsPlace) (k : Region) → owning killed.root ≡ true → IsAt types c Stands killed k → Guards types c Stands S (under killed) (foot_of types k)
  place_guards S killed k may at_k place r names at_r low = under_place types ordered hand c store Stands owning rooted killed place k r may at_k at_r low

  -- any step that touches what is owned in a place, and kills what is under it
  pub place_cover : (killed : AbsPlace) (k : Region) → owning killed.root ≡ true → IsAt types c Stands killed k → Touches (kinds_of types) (foot_of types k) c d → (written : AbsPlace → Bool) (S S' : Fact → Type 0) → LeftBy Stands (under killed) written S S'
      → (l : AbsPlace) (look : Look) (v : Pointer) → written l ≡ false → IsCovered types c Stands may_change S l look v → IsCovered types d Stands may_change S' l look v
  place_cover killed k may at_k touch written S S' left =
      cover_on types ordered hand c d store (foot_of types k) touch Stands Stands may_change (λ r a s. rooted.fits r a s) (under killed) written S S' left (place_guards S killed k may at_k) (λ place r names free s. s)

-- where a pointer points to a place, its member lies in the member's place
pub member_pointed : (types : Types) (c : Content) (Stands : Root → Region → Type 0) (may_change : Root → Bool) (look : Look) (a : AbsPlace) (t : Target) (item : TyId) (members : List ℕ) → (h : PointsTo types c Stands may_change look a t)
    → type_within types (Some h.region.ty) members ≡ Some item → HasRoom (length members) a → AllSmall members → (r : Region) × IsAt types c Stands (members_place a members) r
member_pointed types c Stands may_change look a t item members h typed room small = (_, members_at types c Stands members a h.region item room small typed h.lies)
