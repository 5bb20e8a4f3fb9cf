-- How a buffer goes over to a fresh one, which is owned in its place.
use Rattle.std.specs.Prelude.{◌≡◌, ◌<◌, ◌≤◌, ◌+◌, ◌^◌, ℕ, zero, suc, List, Option, Some, None, length, slice_get}
use Rattle.life_types.specs.Types.{Types}
use Rattle.life_types.specs.declared.ty.TyId.{TyId}
use Rattle.life_store.specs.Cells.{at}
use Rattle.life_store.specs.Content.{Object, Content, word_at, without}
use Rattle.life_store.specs.Edits.{grown, owns}
use Rattle.life_store.specs.Effects.{Attempt, Got, then_get}
use Rattle.life_store.specs.Kinds.{Owner}
use Rattle.life_store.specs.Parts.{parts_at, width, Parts}
use Rattle.life_store.specs.Places.{Spot as Place}
use Rattle.life_store.specs.References.{Rows}
use Rattle.life_store.specs.declared.object.ObjRef.{ObjRef}
use Rattle.life_store.specs.declared.run.Growth.{Growth}
use Rattle.life_forest.specs.Forest.{IsForest}
use Rattle.life_forest.specs.Kinds.{kinds_of as forest_kinds, Kinds as Forest}
use Rattle.life_forest.specs.Owned.{times}
use Rattle.life_forest.specs.Values.{owned_slots, AllWide, IsOf, Known}
use Rattle.life_seen.specs.Housed.{IsHoused}
use Rattle.life_seen.specs.Kinds.{kinds_of, Kinds}
use Rattle.life_seen.specs.Seen.{seen}
use Rattle.life_values.specs.Layouts.{flat}
use Rattle.life_values.specs.Moved.{slots_moved}
use Rattle.life_values.specs.Taken.{leaves_taken}
use Rattle.life_values.specs.declared.layout.Holds.TheVariants as holds
use Rattle.life_values.specs.declared.layout.Leaf.{Leaf}
use Rattle.life_values.specs.declared.spot.Spot.{Spot}

-- the slot of an object, from its first word on
abbrev pub slot_at : (object index : ℕ) → Place
slot_at n i = record { object = n; index = i; word = 0 }

-- so many slots of an object are taken where they are, from one on
abbrev pub slots_taken : List Leaf → (n slot count : ℕ) → Content → Content
slots_taken ls n i zero c = c
slots_taken ls n i (suc k) c = slots_taken ls n (i + 1) k (leaves_taken n i 0 ls c)

-- the object is there with so many slots from one on, and the words of strings own
pub record CanTakeSlots (kinds : Kinds) (kind : Forest) (r : ObjRef) (leaves : List Leaf) (first count : ℕ) (c : Content) (rows : Rows) : Type 0 where
  pub housed : IsHoused kinds c rows
  pub placed : at rows r.birth ≡ Some r.row
  pub hand : ℕ → ℕ
  pub forest : IsForest kind hand (seen kinds c rows)
  pub object : Object
  pub there : at (seen kinds c rows).objects r.birth ≡ Some object
  pub wide : AllWide object.width object.slots
  pub size : first + count ≤ length object.slots
  pub own : (j : ℕ) (l : Leaf) (ty : TyId) → slice_get leaves j ≡ Some l → l.holds ≡ holds.Characters ty → (kinds object.ty (0 + l.word) ≡ Owner) × (0 + l.word < object.width)
  pub small : (j : ℕ) (l : Leaf) → slice_get leaves j ≡ Some l → 0 + l.word < 2 ^ 64

-- the slots of one object go into those of another from one on, which owns what they own, and the first one ends
abbrev pub handed_over : List Leaf → (width : ℕ) → (owners : List ℕ) → (from to onto count : ℕ) → Content → Content
handed_over ls w us n m j k c = without n (slots_moved (slot_at n 0) (slot_at m j) w us k (slots_taken ls n 0 k c))

-- the one is in the hand, its elements are known, and the other has room for them
pub record CanHandOver (kinds : Kinds) (kind : Forest) (element : Parts) (from to : ObjRef) (w : ℕ) (leaves : List Leaf) (owners : List ℕ) (onto count : ℕ) (c : Content) (rows : Rows) : Type 0 where
  pub take : CanTakeSlots kinds kind from leaves 0 count c rows
  pub held : 0 < take.hand from.birth
  pub to_placed : at rows to.birth ≡ Some to.row
  pub target : Object
  pub target_there : at (seen kinds c rows).objects to.birth ≡ Some target
  pub target_long : AllWide target.width target.slots
  pub apart : from.birth ≡ to.birth → ⊥
  pub alike : take.object.ty ≡ target.ty
  pub source_width : take.object.width ≡ w
  pub target_width : target.width ≡ w
  pub parts_width : w ≡ width element
  pub all : length take.object.slots ≡ count
  pub room : onto + count ≤ length target.slots
  pub are_leaves : leaves ≡ flat 0 element
  pub own : (j u : ℕ) → slice_get owners j ≡ Some u → (kinds take.object.ty (0 + u) ≡ Owner) × (u < w)
  pub from_free : times (owned_slots element take.object.slots) from.birth ≡ 0
  pub to_free : times (owned_slots element take.object.slots) to.birth ≡ 0

-- the owner takes what came
abbrev pub then_owned : Place → Attempt (ℕ × Content) → Attempt (ℕ × Content)
then_owned p meant = then_get meant (λ f. Got (f.0, owns p f.0 f.1))

-- an owner has the buffer, whose elements are known
pub record OwnsElements (types : Types) (spot : Spot) (b : ObjRef) (c : Content) (rows : Rows) : Type 0 where
  pub housed : IsHoused (kinds_of types) c rows
  pub spot_placed : at rows spot.object.birth ≡ Some spot.object.row
  pub placed : at rows b.birth ≡ Some b.row
  pub hand : ℕ → ℕ
  pub forest : IsForest (forest_kinds types) hand (seen (kinds_of types) c rows)
  pub owner : Object
  pub owner_there : at (seen (kinds_of types) c rows).objects spot.object.birth ≡ Some owner
  pub owner_long : AllWide owner.width owner.slots
  pub slot : spot.slot < length owner.slots
  pub word : spot.word < owner.width
  pub owns : kinds_of types owner.ty spot.word ≡ Owner
  pub owned : word_at owner spot.slot spot.word ≡ suc b.birth
  pub buffer : Object
  pub there : at (seen (kinds_of types) c rows).objects b.birth ≡ Some buffer
  pub known : IsOf (forest_kinds types) (parts_at types buffer.ty) buffer (Known (forest_kinds types) (seen (kinds_of types) c rows) (parts_at types buffer.ty))

-- .. so many slots hold them, and the fresh one has room for these
pub record CanRegrow (types : Types) (spot : Spot) (b : ObjRef) (capacity size : ℕ) (c : Content) (rows : Rows) : Type 0 where
  pub own : OwnsElements types spot b c rows
  pub enough : length own.buffer.slots ≤ size
  pub fits : size ≤ capacity

-- .. and they all lie within its capacity
pub record CanGrow (types : Types) (spot : Spot) (b : ObjRef) (c : Content) (rows : Rows) : Type 0 where
  pub own : OwnsElements types spot b c rows
  pub roomy : length own.buffer.slots ≤ own.buffer.capacity

-- the capacity of a buffer that was full, or none where it has more than 32 bits
abbrev pub IsGrown : Growth → (size capacity : ℕ) → Option ℕ → Type 0
IsGrown policy size capacity None = 2 ^ 32 ≤ grown policy size capacity
IsGrown policy size capacity (Some more) = (more ≡ grown policy size capacity) × (more < 2 ^ 32)
