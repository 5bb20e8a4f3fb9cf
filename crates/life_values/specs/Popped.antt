-- How the last element of a buffer goes: what it owns ends, and its slot is taken away.
use Rattle.std.specs.Prelude.{◌≡◌, ◌≤◌, ◌<◌, ℕ, zero, suc, Bool, true, false, List, Some, length, slice_get}
use Rattle.life_store.specs.Cells.{at}
use Rattle.life_store.specs.Content.{Object, Content}
use Rattle.life_store.specs.Effects.{Attempt, Got, GotTrap}
use Rattle.life_store.specs.Held.{resized_at}
use Rattle.life_store.specs.Kinds.{Owner}
use Rattle.life_store.specs.References.{Rows}
use Rattle.life_store.specs.declared.object.ObjRef.{ObjRef}
use Rattle.life_store.specs.declared.run.TrapKind.TheVariants as trap
use Rattle.life_forest.specs.Forest.{IsForest}
use Rattle.life_forest.specs.Kinds.{Kinds}
use Rattle.life_seen.specs.Housed.{IsHoused, Shows}
use Rattle.life_seen.specs.Kinds.{Kinds as Seen}
use Rattle.life_seen.specs.Seen.{seen}
use Rattle.life_values.specs.Emptied.{emptied_each}
use Rattle.life_values.specs.Ending.{AreSized}

-- .. of a buffer with so many elements; the words that own are these
abbrev pub popped_words : (ℕ → Content → Content) → List ℕ → (n size : ℕ) → Content → Attempt Content
popped_words end owners n zero c = GotTrap trap.Bounds
popped_words end owners n (suc i) c = Got (resized_at n i i (emptied_each end n i 0 owners c))

-- the object can give up what a slot of it owns: so many steps of owning are enough
pub record IsGiving (kinds : Seen) (kind : Kinds) (depth : ℕ) (r : ObjRef) (c : Content) (rows : Rows) : Type 0 where
  pub housed : IsHoused kinds c rows
  pub placed : at rows r.birth ≡ Some r.row
  pub sized : AreSized kinds (seen kinds c rows)
  pub hand : ℕ → ℕ
  pub forest : IsForest kind hand (seen kinds c rows)
  pub object : Object
  pub there : at (seen kinds c rows).objects r.birth ≡ Some object
  pub deep : kind.rank object.ty ≤ depth

-- .. this slot, of so many words, of which these own
pub record CanGive (kinds : Seen) (kind : Kinds) (depth : ℕ) (r : ObjRef) (i w : ℕ) (owners : List ℕ) (c : Content) (rows : Rows) : Type 0 where
  pub giving : IsGiving kinds kind depth r c rows
  pub slot : i < length giving.object.slots
  pub width : giving.object.width ≡ w
  pub own : (j u : ℕ) → slice_get owners j ≡ Some u → kinds giving.object.ty u ≡ Owner

-- .. the last one, whose object has room for its slots
pub record CanPop (kinds : Seen) (kind : Kinds) (depth : ℕ) (r : ObjRef) (c : Content) (rows : Rows) : Type 0 where
  pub giving : IsGiving kinds kind depth r c rows
  pub width : giving.object.width ≡ kind.width giving.object.ty
  pub roomy : length giving.object.slots ≤ giving.object.capacity

-- the store shows what the meaning got, or there was no element
abbrev pub Pops : Seen → Attempt Content → Bool → Content → Rows → Type 0
Pops kinds meant true c rows = (m : Content) × (meant ≡ Got m) × Shows kinds c rows m
Pops kinds meant false c rows = meant ≡ GotTrap trap.Bounds
