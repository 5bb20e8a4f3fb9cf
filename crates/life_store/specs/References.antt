-- References to objects: the row that an object has while it lives, and its number.
use Rattle.std.specs.Prelude.{◌≢◌, ℕ, ◌≤◌, ◌<◌, cond, nat_eq, Option, Some, None, Result, Ok, Err, option_and_then, length}
use Rattle.life_store.specs.Cells.{Cells, at}
use Rattle.life_store.specs.Content.{Content, Object}
use Rattle.life_store.specs.declared.object.Dead.{Dead}
use Rattle.life_store.specs.declared.object.ObjRef.{ObjRef}
use Rattle.life_store.specs.declared.object.Shape.{Shape}

-- the row of each object that lives, by the object's number
abbrev pub Rows : Type 0
Rows = Cells ℕ

-- the object to which a reference refers, if that lives
abbrev pub object_of : Content → Rows → ObjRef → Option Object
object_of c rows r = option_and_then (λ row. cond (nat_eq row r.row) (at c.objects r.birth) None) (at rows r.birth)

abbrev pub dead : Dead
dead = record {}

-- what is asked of the object, or that it doesn't live
abbrev pub asked_of : {A : Type 0} → Option Object → (Object → A) → Result A Dead
asked_of None ask = Err dead
asked_of (Some o) ask = Ok (ask o)

-- no object that lives has the row
abbrev pub IsFreeRow : Rows → ℕ → Type 0
IsFreeRow rows row = (n : ℕ) → at rows n ≢ Some row

abbrev pub shape_of : Object → Shape
shape_of o = record { ty = o.ty; length = length o.slots; capacity = o.capacity }

-- the object has the word of the slot
pub record HasWord (slot word : ℕ) (o : Object) : Type 0 where
  pub has_slot : slot < length o.slots
  pub has_word : word < o.width

-- the object can have so many slots, with positions stamped from there on
pub record CanResize (size since : ℕ) (o : Object) : Type 0 where
  pub fits : size ≤ o.capacity
  pub to : since ≤ size
  pub from : since ≤ length o.slots
