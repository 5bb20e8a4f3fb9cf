-- How an element of a buffer goes: what it owns ends, the later ones move down, and the positions from there on are stamped.
use Rattle.std.specs.Prelude.{◌≡◌, ◌≤◌, ◌<◌, ◌+◌, ◌-◌, ℕ, List, length}
use Rattle.life_store.specs.Content.{Content}
use Rattle.life_store.specs.Held.{resized_at}
use Rattle.life_store.specs.References.{Rows}
use Rattle.life_store.specs.declared.object.ObjRef.{ObjRef}
use Rattle.life_forest.specs.Kinds.{Kinds}
use Rattle.life_seen.specs.Kinds.{Kinds as Seen}
use Rattle.life_values.specs.Emptied.{emptied_each}
use Rattle.life_values.specs.Moved.{slots_moved}
use Rattle.life_values.specs.Popped.{IsGiving}
use Rattle.life_values.specs.Regrown.{slot_at, slots_taken}
use Rattle.life_values.specs.declared.layout.Leaf.{Leaf}

-- .. of a buffer of so many
abbrev pub erased_words : (ℕ → Content → Content) → List Leaf → (width : ℕ) → (owners : List ℕ) → (n index size : ℕ) → Content → Content
erased_words end ls w us n i size c =
    resized_at n (size - 1) i (slots_moved (slot_at n (i + 1)) (slot_at n i) w us (size - (i + 1)) (slots_taken ls n (i + 1) (size - (i + 1)) (emptied_each end n i 0 us c)))

-- the position is that of an element, and so many steps of owning are enough for it
pub record CanErase (kinds : Seen) (kind : Kinds) (depth : ℕ) (b : ObjRef) (index : ℕ) (c : Content) (rows : Rows) : Type 0 where
  pub giving : IsGiving kinds kind depth b c rows
  pub width : giving.object.width ≡ kind.width giving.object.ty
  pub roomy : length giving.object.slots ≤ giving.object.capacity
  pub inside : index < length giving.object.slots
