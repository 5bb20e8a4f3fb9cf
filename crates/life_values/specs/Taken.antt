-- How the characters of a value's strings get other numbers where the value is taken, so that nothing points to them any more.
use Rattle.std.specs.Prelude.{◌≡◌, ◌<◌, ◌+◌, ◌^◌, ℕ, List, [], ◌∷◌, Option, Some, None, length, slice_get}
use Rattle.life_types.specs.declared.ty.TyId.{TyId}
use Rattle.life_store.specs.Cells.{at}
use Rattle.life_store.specs.Content.{Object, Content, word_at}
use Rattle.life_store.specs.Held.{owned_in, wrote}
use Rattle.life_store.specs.Kinds.{Owner}
use Rattle.life_store.specs.Owners.{Words, renamed}
use Rattle.life_store.specs.References.{Rows}
use Rattle.life_store.specs.declared.object.ObjRef.{ObjRef}
use Rattle.life_forest.specs.Forest.{IsForest}
use Rattle.life_forest.specs.Kinds.{Kinds}
use Rattle.life_forest.specs.Values.{AllWide}
use Rattle.life_seen.specs.Housed.{IsHoused}
use Rattle.life_seen.specs.Kinds.{Kinds as Seen}
use Rattle.life_seen.specs.Seen.{seen}
use Rattle.life_values.specs.declared.layout.Holds.{Holds}
use Rattle.life_values.specs.declared.layout.Holds.TheVariants as holds
use Rattle.life_values.specs.declared.layout.Leaf.{Leaf}
use Rattle.life_values.specs.declared.spot.Spot.{Spot}

-- what the word of an object owns
abbrev pub owned_if : Option Object → (slot word : ℕ) → Option ℕ
owned_if None i w = None
owned_if (Some o) i w = owned_in (word_at o i w)

abbrev pub wrote_back : (n slot word : ℕ) → Words → Content
wrote_back n i w v = wrote n i w v.0 v.1

-- it is taken out, gets another number, and is owned again
abbrev pub renewed : (n slot word : ℕ) → Content → Content
renewed n i w c = wrote_back n i w (renamed (owned_if (at c.objects n) i w) (wrote n i w (0 ∷ []) c))

-- a vector's elements and a target stay what they are
abbrev pub leaf_taken : (n slot word : ℕ) → Holds → Content → Content
leaf_taken n i w holds.Raw c = c
leaf_taken n i w holds.View c = c
leaf_taken n i w (holds.Characters ty) c = renewed n i w c
leaf_taken n i w (holds.Elements ty) c = c
leaf_taken n i w (holds.Target ty) c = c

-- .. those of a value that begins at a word
abbrev pub leaves_taken : (n slot word : ℕ) → List Leaf → Content → Content
leaves_taken n i w [] c = c
leaves_taken n i w (l ∷ ls) c = leaves_taken n i w ls (leaf_taken n i (w + l.word) l.holds c)

-- ---- in a store

-- the object is there with the word, which owns
pub record CanRenew (kinds : Seen) (kind : Kinds) (r : ObjRef) (i w : ℕ) (c : Content) (rows : Rows) : Type 0 where
  pub housed : IsHoused kinds c rows
  pub placed : at rows r.birth ≡ Some r.row
  pub hand : ℕ → ℕ
  pub forest : IsForest kind hand (seen kinds c rows)
  pub object : Object
  pub there : at (seen kinds c rows).objects r.birth ≡ Some object
  pub wide : AllWide object.width object.slots
  pub slot : i < length object.slots
  pub own : kinds object.ty w ≡ Owner
  pub within : w < object.width

abbrev pub CanRenewIf : Seen → Kinds → ObjRef → (slot word : ℕ) → Holds → Content → Rows → Type 0
CanRenewIf kinds kind r i w holds.Raw c rows = Unit {0}
CanRenewIf kinds kind r i w holds.View c rows = Unit {0}
CanRenewIf kinds kind r i w (holds.Characters ty) c rows = CanRenew kinds kind r i w c rows
CanRenewIf kinds kind r i w (holds.Elements ty) c rows = Unit {0}
CanRenewIf kinds kind r i w (holds.Target ty) c rows = Unit {0}

-- .. with the words of strings, which own
pub record CanTake (kinds : Seen) (kind : Kinds) (spot : Spot) (leaves : List Leaf) (c : Content) (rows : Rows) : Type 0 where
  pub housed : IsHoused kinds c rows
  pub placed : at rows spot.object.birth ≡ Some spot.object.row
  pub hand : ℕ → ℕ
  pub forest : IsForest kind hand (seen kinds c rows)
  pub object : Object
  pub there : at (seen kinds c rows).objects spot.object.birth ≡ Some object
  pub wide : AllWide object.width object.slots
  pub slot : spot.slot < length object.slots
  pub own : (j : ℕ) (l : Leaf) (ty : TyId) → slice_get leaves j ≡ Some l → l.holds ≡ holds.Characters ty → (kinds object.ty (spot.word + l.word) ≡ Owner) × (spot.word + l.word < object.width)
  pub small : (j : ℕ) (l : Leaf) → slice_get leaves j ≡ Some l → spot.word + l.word < 2 ^ 64
