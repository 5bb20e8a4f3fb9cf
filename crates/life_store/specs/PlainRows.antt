-- The rows of the plain store, and the content that lies in them.
use Rattle.std.specs.Prelude.{◌≢◌, ℕ, zero, suc, ◌+◌, ◌<◌, ◌≤◌, nat_eq, cond, List, [], ◌∷◌, Option, Some, None, slice_get}
use Rattle.life_store.specs.Cells.{Cells, none, set}
use Rattle.life_store.specs.Content.{Object, Content, cost, resized, with_word}
use Rattle.life_store.specs.References.{Rows}
use Rattle.life_store.specs.declared.object.ObjRef.{ObjRef}
use Rattle.life_store.specs.declared.plain_rows.Entry.{Entry}

-- a row has an object with the number of its birth, or is vacant
abbrev pub Row : Type 0
Row = Option Entry

-- the objects, by the numbers of their births
abbrev pub objects_in : List Row → Cells Object
objects_in [] = none
objects_in (None ∷ rows) = objects_in rows
objects_in (Some e ∷ rows) = set (objects_in rows) e.birth e.object

-- the row of each object, the first of these having this number
abbrev pub rows_in : ℕ → List Row → Rows
rows_in at [] = none
rows_in at (None ∷ rows) = rows_in (at + 1) rows
rows_in at (Some e ∷ rows) = set (rows_in (at + 1) rows) e.birth at

-- the words that live in them
abbrev pub cost_in : List Row → ℕ
cost_in [] = 0
cost_in (None ∷ rows) = cost_in rows
cost_in (Some e ∷ rows) = cost e.object + cost_in rows

-- no object has the number
abbrev pub IsAbsent : ℕ → List Row → Type 0
IsAbsent n [] = Unit {0}
IsAbsent n (None ∷ rows) = IsAbsent n rows
IsAbsent n (Some e ∷ rows) = (e.birth ≢ n) × IsAbsent n rows

-- no two objects have one number, and each number is below the births
abbrev pub AreNumbered : ℕ → List Row → Type 0
AreNumbered births [] = Unit {0}
AreNumbered births (None ∷ rows) = AreNumbered births rows
AreNumbered births (Some e ∷ rows) = (e.birth < births) × IsAbsent e.birth rows × AreNumbered births rows

-- so many rows at the front have objects
abbrev pub AreTaken : ℕ → List Row → Type 0
AreTaken zero rows = Unit {0}
AreTaken (suc n) [] = ⊥
AreTaken (suc n) (None ∷ rows) = ⊥
AreTaken (suc n) (Some e ∷ rows) = AreTaken n rows

-- no object was changed after the moment
abbrev pub ArePast : ℕ → List Row → Type 0
ArePast moment [] = Unit {0}
ArePast moment (None ∷ rows) = ArePast moment rows
ArePast moment (Some e ∷ rows) = (e.object.end ≤ moment) × ArePast moment rows

abbrev pub entry_if : ℕ → Option Row → Option Entry
entry_if n None = None
entry_if n (Some None) = None
entry_if n (Some (Some e)) = cond (nat_eq e.birth n) (Some e) None

-- the object to which a reference refers, with its number
abbrev pub entry_at : List Row → ObjRef → Option Entry
entry_at rows r = entry_if r.birth (slice_get rows r.row)

-- the object has another word
abbrev pub entry_with : ℕ → ℕ → ℕ → Entry → Entry
entry_with slot word value e = record { birth = e.birth; object = with_word slot word value e.object }

-- the object has so many slots
abbrev pub entry_resized : ℕ → ℕ → ℕ → Entry → Entry
entry_resized moment length since e = record { birth = e.birth; object = resized moment length since e.object }

-- what the plain store keeps
pub record Table : Type 0 where
  pub rows : List Row
  pub births : ℕ
  pub clock : ℕ
  pub limit : ℕ

abbrev pub content_of : Table → Content
content_of t = record { objects = objects_in t.rows; births = t.births; clock = t.clock }

abbrev pub rows_of : Table → Rows
rows_of t = rows_in 0 t.rows
