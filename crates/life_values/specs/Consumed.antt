-- How a temporary gives its value over to a slot, and ends.
use Rattle.std.specs.Prelude.{◌≡◌, ◌<◌, ℕ, Some, length}
use Rattle.life_types.specs.Types.{Types}
use Rattle.life_store.specs.Cells.{at}
use Rattle.life_store.specs.Content.{Object, Content}
use Rattle.life_store.specs.Held.{wrote}
use Rattle.life_store.specs.Owners.{Words}
use Rattle.life_store.specs.Parts.{parts_at}
use Rattle.life_store.specs.References.{Rows}
use Rattle.life_store.specs.declared.object.ObjRef.{ObjRef}
use Rattle.life_forest.specs.Forest.{IsForest}
use Rattle.life_forest.specs.Kinds.{kinds_of as forest_kinds}
use Rattle.life_forest.specs.Owned.{times}
use Rattle.life_forest.specs.Values.{owned_slots, AllWide}
use Rattle.life_seen.specs.Housed.{IsHoused}
use Rattle.life_seen.specs.Kinds.{kinds_of}
use Rattle.life_seen.specs.Seen.{seen}

-- the words of a value stand in a slot
abbrev pub stored : (object index : ℕ) → Words → Content
stored n i v = wrote n i 0 v.0 v.1

-- the temporary is in the hand with its one slot, and another object of its type has the slot
pub record CanConsume (types : Types) (r to : ObjRef) (slot : ℕ) (c : Content) (rows : Rows) : Type 0 where
  pub housed : IsHoused (kinds_of types) c rows
  pub placed : at rows r.birth ≡ Some r.row
  pub to_placed : at rows to.birth ≡ Some to.row
  pub hand : ℕ → ℕ
  pub forest : IsForest (forest_kinds types) hand (seen (kinds_of types) c rows)
  pub held : 0 < hand r.birth
  pub temporary : Object
  pub there : at (seen (kinds_of types) c rows).objects r.birth ≡ Some temporary
  pub alone : length temporary.slots ≡ 1
  pub target : Object
  pub target_there : at (seen (kinds_of types) c rows).objects to.birth ≡ Some target
  pub target_slot : slot < length target.slots
  pub alike : temporary.ty ≡ target.ty
  pub long : AllWide temporary.width temporary.slots
  pub target_long : AllWide target.width target.slots
  pub width : temporary.width ≡ (forest_kinds types).width temporary.ty
  pub target_width : target.width ≡ temporary.width
  pub apart : r.birth ≡ to.birth → ⊥
  -- what the temporary owns isn't the other object
  pub free : times (owned_slots (parts_at types temporary.ty) temporary.slots) to.birth ≡ 0
