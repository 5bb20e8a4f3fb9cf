-- How the words of values go from one place to another, which then owns what the first one owned.
use Rattle.std.specs.Prelude.{◌≡◌, ◌<◌, ◌≤◌, ◌+◌, ◌^◌, ℕ, zero, suc, List, Option, Some, None, length, slice_get}
use Rattle.std.proofs.Common.{◌⊎◌}
use Rattle.life_store.specs.Cells.{at}
use Rattle.life_store.specs.Content.{Object, Content, with_object}
use Rattle.life_store.specs.Kinds.{Kind, Owner, Pointing}
use Rattle.life_store.specs.Places.{Spot as Place, spot_words, wrote_spot}
use Rattle.life_store.specs.References.{Rows}
use Rattle.life_forest.specs.Values.{AllWide}
use Rattle.life_seen.specs.Housed.{IsHoused}
use Rattle.life_seen.specs.Kinds.{Kinds}
use Rattle.life_seen.specs.Seen.{seen}
use Rattle.life_values.specs.Zeroed.{zeroed}
use Rattle.life_values.specs.declared.spot.Spot.{Spot}

-- where a value stands, by numbers
abbrev pub place : Spot → Place
place spot = record { object = spot.object.birth; index = spot.slot; word = spot.word }

-- so many slots further back
abbrev pub behind : ℕ → Place → Place
behind k p = record { object = p.object; index = p.index + k; word = p.word }

-- these words of a value own nothing any more
abbrev pub disowned_if : Option Object → Place → List ℕ → Content → Content
disowned_if None p us c = c
disowned_if (Some o) p us c = with_object p.object (zeroed p.index p.word us o) c

abbrev pub disowned : Place → List ℕ → Content → Content
disowned p us c = disowned_if (at c.objects p.object) p us c

-- so many words go from one place to another, of which these own
abbrev pub moved_words : (from to : Place) → (width : ℕ) → (owners : List ℕ) → Content → Content
moved_words from to w us c = disowned from us (wrote_spot to (spot_words c from w) c)

-- .. and so do so many slots, one after the other
abbrev pub slots_moved : (from to : Place) → (width : ℕ) → (owners : List ℕ) → (count : ℕ) → Content → Content
slots_moved from to w us zero c = c
slots_moved from to w us (suc k) c = slots_moved (behind 1 from) (behind 1 to) w us k (moved_words from to w us c)

-- each pointer lies whole among so many words, from one on, or beside them
abbrev pub AreUncut : (ℕ → Kind) → (first count : ℕ) → Type 0
AreUncut f a n = (u : ℕ) → f u ≡ Pointing 0 → (u + 5 ≤ a) ⊎ ((a + n ≤ u) ⊎ ((a ≤ u) × (u + 5 ≤ a + n)))

-- ---- in a store

-- both are there, and words of the same kinds: what is written there is read before, or lies beside what is read
pub record CanCopyWords (kinds : Kinds) (from to : Spot) (w : ℕ) (c : Content) (rows : Rows) : Type 0 where
  pub housed : IsHoused kinds c rows
  pub from_placed : at rows from.object.birth ≡ Some from.object.row
  pub to_placed : at rows to.object.birth ≡ Some to.object.row
  pub apart : from.object.birth ≡ to.object.birth → from.slot ≡ to.slot → (to.word ≤ from.word) ⊎ (from.word + w ≤ to.word)
  pub source : Object
  pub source_there : at (seen kinds c rows).objects from.object.birth ≡ Some source
  pub target : Object
  pub target_there : at (seen kinds c rows).objects to.object.birth ≡ Some target
  pub alike : (u : ℕ) → u < w → kinds source.ty (from.word + u) ≡ kinds target.ty (to.word + u)
  pub source_width : from.word + w ≤ source.width
  pub target_width : to.word + w ≤ target.width
  pub source_long : AllWide source.width source.slots
  pub source_slot : from.slot < length source.slots
  pub target_slot : to.slot < length target.slots
  pub from_small : from.word + w < 2 ^ 64
  pub to_small : to.word + w < 2 ^ 64

-- these words of a value own
pub record CanDisown (kinds : Kinds) (spot : Spot) (owners : List ℕ) (c : Content) (rows : Rows) : Type 0 where
  pub housed : IsHoused kinds c rows
  pub placed : at rows spot.object.birth ≡ Some spot.object.row
  pub object : Object
  pub there : at (seen kinds c rows).objects spot.object.birth ≡ Some object
  pub slot : spot.slot < length object.slots
  pub own : (j u : ℕ) → slice_get owners j ≡ Some u → (kinds object.ty (spot.word + u) ≡ Owner) × (spot.word + u < object.width)
  pub small : (j u : ℕ) → slice_get owners j ≡ Some u → spot.word + u < 2 ^ 64

pub record CanMove (kinds : Kinds) (from to : Spot) (w : ℕ) (owners : List ℕ) (c : Content) (rows : Rows) : Type 0 where
  pub copy : CanCopyWords kinds from to w c rows
  pub own : (j u : ℕ) → slice_get owners j ≡ Some u → (kinds copy.source.ty (from.word + u) ≡ Owner) × (u < w)

-- so many slots of objects of one type: other ones, or those before them
pub record CanMoveSlots (kinds : Kinds) (from to : Spot) (count w : ℕ) (owners : List ℕ) (c : Content) (rows : Rows) : Type 0 where
  pub housed : IsHoused kinds c rows
  pub from_placed : at rows from.object.birth ≡ Some from.object.row
  pub to_placed : at rows to.object.birth ≡ Some to.object.row
  pub apart : from.object.birth ≡ to.object.birth → to.slot < from.slot
  pub source : Object
  pub source_there : at (seen kinds c rows).objects from.object.birth ≡ Some source
  pub target : Object
  pub target_there : at (seen kinds c rows).objects to.object.birth ≡ Some target
  pub alike : (u : ℕ) → u < w → kinds source.ty (from.word + u) ≡ kinds target.ty (to.word + u)
  pub source_width : from.word + w ≤ source.width
  pub target_width : to.word + w ≤ target.width
  pub source_long : AllWide source.width source.slots
  pub target_long : AllWide target.width target.slots
  pub source_size : from.slot + count ≤ length source.slots
  pub target_size : to.slot + count ≤ length target.slots
  pub own : (j u : ℕ) → slice_get owners j ≡ Some u → (kinds source.ty (from.word + u) ≡ Owner) × (u < w)
  pub from_small : from.word + w < 2 ^ 64
  pub to_small : to.word + w < 2 ^ 64
