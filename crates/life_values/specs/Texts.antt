-- How the buffer of a string comes to life with its characters.
use Rattle.std.specs.Prelude.{◌≡◌, ℕ, List, Some, Result, Ok, Err, length, map}
use Rattle.life_types.specs.declared.ty.TyId.{TyId}
use Rattle.life_store.specs.Cells.{at}
use Rattle.life_store.specs.Content.{Object, Content}
use Rattle.life_store.specs.Edits.{one_word}
use Rattle.life_store.specs.Effects.{Setting, Attempt, Got, GotTrap, then_get}
use Rattle.life_store.specs.Held.{filled}
use Rattle.life_store.specs.Kinds.{Plain}
use Rattle.life_store.specs.Owners.{sized_birth}
use Rattle.life_store.specs.References.{Rows}
use Rattle.life_store.specs.declared.object.BirthFault.{BirthFault}
use Rattle.life_store.specs.declared.object.BirthFault.TheVariants as birth_fault
use Rattle.life_store.specs.declared.object.ObjRef.{ObjRef}
use Rattle.life_store.specs.declared.run.TrapKind.TheVariants as trap
use Rattle.life_forest.specs.Values.{AllWide}
use Rattle.life_seen.specs.Housed.{IsHoused, Shows}
use Rattle.life_seen.specs.Kinds.{Kinds}
use Rattle.life_seen.specs.Seen.{seen}

-- each slot has one character
abbrev pub with_characters : ℕ → List ℕ → Content → Content
with_characters n characters c = filled n (map one_word characters) c

-- a fresh buffer of just these
abbrev pub text_born : Setting → TyId → List ℕ → Content → Attempt (ℕ × Content)
text_born s ty characters c = then_get (sized_birth s ty 1 (length characters) c) (λ f. Got (f.0, with_characters f.0 characters f.1))

-- the object has so many slots of one word, which is a number
pub record CanWrite (kinds : Kinds) (r : ObjRef) (size : ℕ) (c : Content) (rows : Rows) : Type 0 where
  pub housed : IsHoused kinds c rows
  pub placed : at rows r.birth ≡ Some r.row
  pub object : Object
  pub there : at (seen kinds c rows).objects r.birth ≡ Some object
  pub width : object.width ≡ 1
  pub long : AllWide 1 object.slots
  pub count : length object.slots ≡ size
  pub plain : kinds object.ty 0 ≡ Plain

-- the buffer has the number that the meaning got, or the live words passed their limit there, too
abbrev pub IsBuffer : Kinds → Attempt (ℕ × Content) → Result ObjRef BirthFault → Content → Rows → Type 0
IsBuffer kinds meant (Ok r) c rows = (m : Content) × (meant ≡ Got (r.birth, m)) × Shows kinds c rows m × (at rows r.birth ≡ Some r.row)
IsBuffer kinds meant (Err birth_fault.Cells) c rows = meant ≡ GotTrap trap.Cells
IsBuffer kinds meant (Err birth_fault.NoMemory) c rows = Unit {0}
