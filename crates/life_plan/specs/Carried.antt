-- How far a plan has been carried.
use Rattle.std.specs.Prelude.{◌≡◌, ◌<◌, ◌⊎◌, ℕ, Bool, true, false, IsTrue, List, Box, Option, Some, None, length, nat_le, ◌&&◌, slice_get}
use Rattle.life_sets.specs.NumberSets.{holds}
use Rattle.life_plan.specs.Crossing.{Crossing, FromNone}
use Rattle.life_plan.specs.Numbered.{IsMarked, IsTabulated, KeepsFrom, MakesAt, MarksNumber}
use Rattle.life_plan.specs.Still.{IsStill}
use Rattle.life_plan.specs.declared.marking.Marking.{Marking}
use Rattle.life_plan.specs.declared.plan.Plan.{Plan}
use Rattle.life_plan.specs.declared.reading.Reading.{Reading}
use Rattle.life_plan.specs.declared.tabulated.Tabulated.{Tabulated}
use Rattle.life_plan.specs.declared.workspace.Workspace.{Workspace}

-- what the elements of the set make where the plan reads, as far as they were seen, is in the second set; and all were seen
pub record AreMade (c : Crossing) (readings : List Reading) (due : ℕ → Bool) (from into : ℕ → ℕ → Bool) : Type 0 where
  pub made : (k : ℕ) (r : Reading) → slice_get readings k ≡ Some r → (l m : ℕ) → MakesAt c r.location (holds r.seen) l m → IsTrue (into l m)
  pub seen : (k : ℕ) (r : Reading) → slice_get readings k ≡ Some r → due r.location ≡ false → (e : ℕ) → IsTrue (from r.location e) → IsTrue (holds r.seen e)

-- .. by those that stand below a number, and by those that weren't due
pub record AreMadeUpTo (c : Crossing) (below : ℕ) (readings : List Reading) (due : ℕ → Bool) (from into : ℕ → ℕ → Bool) : Type 0 where
  pub made : (k : ℕ) (r : Reading) → slice_get readings k ≡ Some r → (l m : ℕ) → MakesAt c r.location (holds r.seen) l m → IsTrue (into l m)
  pub seen : (k : ℕ) (r : Reading) → slice_get readings k ≡ Some r → (k < below) ⊎ (due r.location ≡ false) → (e : ℕ) → IsTrue (from r.location e) → IsTrue (holds r.seen e)

-- the targets of the set were seen, and the mask has what those that were seen mark, and nothing that no target of the set marks
pub record AreSeen (c : Crossing) (m : Marking) (due : ℕ → Bool) (from : ℕ → ℕ → Bool) : Type 0 where
  pub seen : (q e : ℕ) → due q ≡ false → IsTrue (holds m.targets q) → IsTrue (from q e) → IsTrue (holds m.seen e)
  pub marked : (d e : ℕ) → IsTrue (holds m.seen d) → MarksNumber c d e → IsTrue (holds m.mask e)
  pub only : (e : ℕ) → IsTrue (holds m.mask e) → IsMarked c m from e

-- by what is tabulated, what comes of the first set is in the second, save for what comes of the locations that are due
pub record AreCarried (c : Crossing) (plan : Tabulated) (due : ℕ → Bool) (from into : ℕ → ℕ → Bool) : Type 0 where
  pub means : IsTabulated c plan
  -- a fresh plan hasn't carried what comes of no fact, and has all locations due
  pub fresh : plan.is_fresh ≡ true → (l : ℕ) → l < length c.table.locations → due l ≡ true
  pub none : plan.is_fresh ≡ false → (l m : ℕ) → FromNone c l m → IsTrue (into l m)
  pub targets : AreSeen c plan.marking due from
  pub kept : (l m : ℕ) → due l ≡ false → KeepsFrom plan.staying plan.marking (length c.table.locations) (length c.table.elements) from l m → IsTrue (into l m)
  pub made : AreMade c plan.readings.items due from into

-- where nothing comes of facts but each fact itself, the pairs of the first set are in the second, save for those at the locations that are due
pub record AreKept (c : Crossing) (due : ℕ → Bool) (from into : ℕ → ℕ → Bool) : Type 0 where
  pub still : IsStill c
  pub kept : (l m : ℕ) → due l ≡ false → l < length c.table.locations → IsTrue (from l m) → IsTrue (into l m)

abbrev pub carried_by : {Z : Type 0} → Crossing → Option (Box Tabulated Z) → (due : ℕ → Bool) → (from into : ℕ → ℕ → Bool) → Type 0
carried_by c None due from into = AreKept c due from into
carried_by c (Some t) due from into = AreCarried c t.value due from into

-- what comes of the first set is in the second, save for what comes of the locations that are due
abbrev pub IsCarried : Crossing → Plan → (due : ℕ → Bool) → (from into : ℕ → ℕ → Bool) → Type 0
IsCarried c plan due from into = carried_by c plan.tabulated due from into

abbrev pub has_no_table : {Z : Type 0} → Option (Box Tabulated Z) → Bool
has_no_table None = true
has_no_table (Some t) = false

-- each fact is carried as it is, and nothing else
abbrev pub is_whole : Plan → Bool
is_whole plan = has_no_table plan.tabulated

-- no location is due
abbrev pub none_due : ℕ → Bool
none_due l = false

-- the sets of a workspace are for that many elements
pub record IsRoom (elements : ℕ) (w : Workspace) : Type 0 where
  pub before : w.before.limit ≡ elements
  pub after : w.after.limit ≡ elements

-- of the locations that were due, those from this one on
abbrev pub due_from : ℕ → (ℕ → Bool) → ℕ → Bool
due_from start due l = nat_le start l && due l
