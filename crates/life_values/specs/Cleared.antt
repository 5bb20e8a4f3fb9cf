-- How all elements of a buffer go: what they own ends, one slot after the other, and the slots are taken away.
use Rattle.std.specs.Prelude.{◌≡◌, ℕ, zero, suc, ◌+◌, List}
use Rattle.life_store.specs.Content.{Content}
use Rattle.life_store.specs.Held.{resized_at}
use Rattle.life_store.specs.References.{Rows}
use Rattle.life_store.specs.declared.object.ObjRef.{ObjRef}
use Rattle.life_forest.specs.Kinds.{Kinds}
use Rattle.life_seen.specs.Kinds.{Kinds as Seen}
use Rattle.life_values.specs.Emptied.{emptied_each}
use Rattle.life_values.specs.Popped.{IsGiving}

-- so many slots, from one on; the words that own are these
abbrev pub emptied_slots : (ℕ → Content → Content) → List ℕ → (n slot count : ℕ) → Content → Content
emptied_slots end owners n i zero c = c
emptied_slots end owners n i (suc k) c = emptied_slots end owners n (i + 1) k (emptied_each end n i 0 owners c)

abbrev pub cleared_words : (ℕ → Content → Content) → List ℕ → (n size : ℕ) → Content → Content
cleared_words end owners n size c = resized_at n 0 0 (emptied_slots end owners n 0 size c)

pub record CanClear (kinds : Seen) (kind : Kinds) (depth : ℕ) (r : ObjRef) (c : Content) (rows : Rows) : Type 0 where
  pub giving : IsGiving kinds kind depth r c rows
  pub width : giving.object.width ≡ kind.width giving.object.ty
