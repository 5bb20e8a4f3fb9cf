-- What a fact says of a pointer's value, and of what an owner has.
use Rattle.std.specs.Prelude.{◌≡◌, ℕ, ◌+◌, ◌≤◌, Bool, true, false, Option, Some, None, length}
use Rattle.std.proofs.Common.{◌⊎◌}
use Rattle.life_types.specs.Types.{Types}
use Rattle.life_types.specs.declared.ty.TyId.{TyId}
use Rattle.life_pset.specs.declared.element.AbsPlace.{AbsPlace}
use Rattle.life_pset.specs.declared.element.Element.{Element}
use Rattle.life_pset.specs.declared.element.Element.TheVariants as element
use Rattle.life_pset.specs.declared.element.Fact.{Fact}
use Rattle.life_pset.specs.declared.element.Root.{Root}
use Rattle.life_rules.specs.Matching.{fact_at}
use Rattle.life_store.specs.Cells.{at}
use Rattle.life_store.specs.Content.{Content, is_valid_in}
use Rattle.life_store.specs.Held.{slots_at}
use Rattle.life_store.specs.Parts.{Single, characters_type, parts_at}
use Rattle.life_store.specs.State.{Target, Pointer, Null, To, Static}
use Rattle.life_cover.specs.Regions.{Region, IsAt}

-- ---- a pointer of a type

-- whether it sees a range, what it points to, and whether it may be changed through it
pub record Look : Type 0 where
  pub ranged : Bool
  pub target : Option TyId
  pub constant : Bool

-- what the pointer's type says lies there; and a character of a string, which has no number of its own, is seen as any value of one word
abbrev pub IsSeenAs : Types → (target : Option TyId) → TyId → Type 0
IsSeenAs types None id = ⊥
IsSeenAs types (Some t) id = (t ≡ id) ⊎ ((parts_at types t ≡ Single) × (id ≡ characters_type types))

-- whatever a pointer of the one type sees, one of the other does
abbrev pub Reseen : Types → (from to : Option TyId) → Type 0
Reseen types from to = (id : TyId) → IsSeenAs types from id → IsSeenAs types to id

-- each position that it has is there and has stood there since the pointer was made. An iterator may stand at the end. What sees a range
-- has all of it in front of the end; a range of nothing stands no further than there, so an iterator into it may be used
pub record Holds (c : Content) (ranged : Bool) (t : Target) : Type 0 where
  pub settled : is_valid_in t.index t.count t.moment (at c.objects t.object) ≡ true
  pub single : ranged ≡ false → t.count ≡ 1
  pub within : ranged ≡ true → t.index + t.count ≤ length (slots_at c t.object)

module _ (types : Types) (c : Content) (Stands : Root → Region → Type 0) (may_change : Root → Bool) where
  -- what the place names lies where the pointer points, and has the pointer's type; only what may be changed is pointed to so that it may
  pub record PointsTo (look : Look) (place : AbsPlace) (t : Target) : Type 0 where
    pub region : Region
    pub lies : IsAt types c Stands place region
    pub object : t.object ≡ region.object
    pub word : t.word ≡ region.word
    pub type : IsSeenAs types look.target region.ty
    pub change : look.constant ≡ false → may_change place.root ≡ true
    pub holds : Holds c look.ranged t

  -- invalid covers every value, and null null. No pointer is moved from, or owns
  abbrev pub Covers : Look → Element → Pointer → Type 0
  Covers look (element.Invalid cause) v = Unit {0}
  Covers look element.Null Null = Unit {0}
  Covers look (element.At place) (To t) = PointsTo look place t
  Covers look _ _ = ⊥

  -- some fact of the pointer's location does
  pub record IsTold (S : Fact → Type 0) (location : AbsPlace) (look : Look) (v : Pointer) : Type 0 where
    pub known : Element
    pub holds : S (fact_at location known)
    pub covers : Covers look known v

  -- what never ends needs none
  abbrev pub IsCovered : (S : Fact → Type 0) → AbsPlace → Look → Pointer → Type 0
  IsCovered S location look (Static s) = Unit {0}
  IsCovered S location look v = IsTold S location look v

-- ---- what owns

-- own covers what has something, null a unique_ptr that has nothing, and moved that, too, and every state of a vector or a string
abbrev pub CoversOwner : (unique : Bool) → Element → Option ℕ → Type 0
CoversOwner unique element.Own (Some n) = Unit {0}
CoversOwner true element.Null None = Unit {0}
CoversOwner true (element.Moved cause) None = Unit {0}
CoversOwner false (element.Moved cause) owned = Unit {0}
CoversOwner _ _ _ = ⊥

pub record IsOwnerTold (S : Fact → Type 0) (location : AbsPlace) (unique : Bool) (owned : Option ℕ) : Type 0 where
  pub known : Element
  pub holds : S (fact_at location known)
  pub covers : CoversOwner unique known owned
