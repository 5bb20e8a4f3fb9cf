-- Where a place of the rules lies in a store: in an object, from a word on, whichever the slot.
use Rattle.std.specs.Prelude.{◌≡◌, ℕ, suc, ◌+◌, ◌≤◌, ◌<◌, Bool, false, ◌&&◌, nat_eq, nat_le, nat_lt, List, [], ◌∷◌, Option, Some, None, slice_get, sum_by, take}
use Rattle.std.proofs.Common.{◌⊎◌}
use Rattle.life_types.specs.Types.{Types}
use Rattle.life_types.specs.declared.ty.Ty.{Ty}
use Rattle.life_types.specs.declared.ty.Ty.TheVariants as variant
use Rattle.life_types.specs.declared.ty.TyId.{TyId}
use Rattle.life_pset.specs.Places.{owned_step, path}
use Rattle.life_pset.specs.declared.element.AbsPlace.{AbsPlace}
use Rattle.life_pset.specs.declared.element.Root.{Root}
use Rattle.life_store.specs.Cells.{at}
use Rattle.life_store.specs.Content.{Object, Content, word_at}
use Rattle.life_store.specs.Parts.{characters_type, members_of, width_at}
use Rattle.life_forest.specs.Forest.{Foot}
use Rattle.life_forest.specs.Within.{LiesWithin}

-- the words of a value of the type, from a word on, in every slot of an object
pub record Region : Type 0 where
  pub object : ℕ
  pub word : ℕ
  pub ty : TyId

-- ---- one step of a place

-- what an owner of the type has
abbrev pub owned_in_type : Types → Option Ty → Option TyId
owned_in_type types (Some variant.Text) = Some (characters_type types)
owned_in_type types (Some (variant.Vector element)) = Some element
owned_in_type types (Some (variant.Unique target)) = Some target
owned_in_type types _ = None

-- to a member, behind the members before it
pub record ToMember (types : Types) (step : ℕ) (a b : Region) : Type 0 where
  pub small : step < owned_step
  pub type : slice_get (members_of types a.ty) step ≡ Some b.ty
  pub object : b.object ≡ a.object
  pub word : b.word ≡ a.word + sum_by (width_at types) (take step (members_of types a.ty))

-- to what the owner has that stands there in some slot: all of an object
pub record ToOwned (types : Types) (c : Content) (step : ℕ) (a b : Region) : Type 0 where
  pub owned : step ≡ owned_step
  pub type : owned_in_type types (slice_get types.types a.ty.0) ≡ Some b.ty
  pub holder : Object
  pub there : at c.objects a.object ≡ Some holder
  pub index : ℕ
  pub has : word_at holder index a.word ≡ suc b.object
  pub word : b.word ≡ 0

abbrev pub Goes : Types → Content → (step : ℕ) → (from to : Region) → Type 0
Goes types c step a b = ToMember types step a b ⊎ ToOwned types c step a b

-- ---- the steps one after the other

abbrev pub Lies : Types → Content → (steps : List ℕ) → (from to : Region) → Type 0
Lies types c [] a b = a ≡ b
Lies types c (s ∷ ss) a b = (next : Region) × Goes types c s a next × Lies types c ss next b

-- a value of the one type has one of the other there: itself, a member, a member of a member, and so on
pub data HasPart (types : Types) (whole : TyId) : ℕ → TyId → Type 0 where
  itself : (w : ℕ) (part : TyId) → w ≡ 0 → whole ≡ part → HasPart types whole w part
  member_part : (v w m : ℕ) (id part : TyId) → HasPart types whole v id → slice_get (members_of types id) m ≡ Some part → w ≡ v + sum_by (width_at types) (take m (members_of types id)) → HasPart types whole w part

-- a place lies there, where its root stands somewhere
pub record IsAt (types : Types) (c : Content) (Stands : Root → Region → Type 0) (place : AbsPlace) (r : Region) : Type 0 where
  pub start : Region
  pub stands : Stands place.root start
  pub lies : Lies types c (path place) start r

-- ---- regions of a store

-- the object, as long as it lives, has such a part there
abbrev pub IsPart : Types → Content → Region → Type 0
IsPart types c r = (o : Object) → at c.objects r.object ≡ Some o → HasPart types o.ty r.word r.ty

-- .. so its words there are as those of a value of the type
abbrev pub IsTrue : Types → Content → Region → Type 0
IsTrue types c r = (o : Object) → at c.objects r.object ≡ Some o → LiesWithin types o.ty r.word r.ty

abbrev pub is_in_region : Types → Region → (object word : ℕ) → Bool
is_in_region types r m u = nat_eq m r.object && (nat_le r.word u && nat_lt u (r.word + width_at types r.ty))

-- in one object, no word is in both
abbrev pub AreBeside : Types → Region → Region → Type 0
AreBeside types a b = (a.word + width_at types a.ty ≤ b.word) ⊎ (b.word + width_at types b.ty ≤ a.word)

-- the owners in it
abbrev pub foot_of : Types → Region → Foot
foot_of types r = record { whole = λ n. false; part = λ m u. is_in_region types r m u }
