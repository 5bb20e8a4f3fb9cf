-- How a buffer gets one more slot where it has room for it.
use Rattle.std.specs.Prelude.{◌≡◌, ◌≤◌, ◌<◌, ◌+◌, Bool, true, false, ℕ, Some, length}
use Rattle.life_store.specs.Cells.{at}
use Rattle.life_store.specs.Content.{Object, Content}
use Rattle.life_store.specs.Held.{resized_at}
use Rattle.life_store.specs.References.{Rows}
use Rattle.life_store.specs.declared.object.ObjRef.{ObjRef}
use Rattle.life_seen.specs.Housed.{IsHoused, Shows}
use Rattle.life_seen.specs.Kinds.{Kinds}

-- the object is there
pub record IsAt (kinds : Kinds) (r : ObjRef) (c : Content) (rows : Rows) : Type 0 where
  pub housed : IsHoused kinds c rows
  pub placed : at rows r.birth ≡ Some r.row

-- the store shows it with one more slot, or it was full and nothing has changed
abbrev pub Widens : Kinds → (n : ℕ) → Object → (before : Content) → Bool → Content → Rows → Type 0
Widens kinds n o m true c rows = (length o.slots < o.capacity) × Shows kinds c rows (resized_at n (length o.slots + 1) (length o.slots) m)
Widens kinds n o m false c rows = (o.capacity ≤ length o.slots) × Shows kinds c rows m
