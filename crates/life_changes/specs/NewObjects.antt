-- What a unique_ptr is made to own: a new object, by what gives its value.
use Rattle.std.specs.Prelude.{◌≡◌, ◌<◌, ℕ, [], ◌∷◌, Some, Result, Ok, Err}
use Rattle.life_types.specs.Types.{Types}
use Rattle.life_types.specs.declared.ty.TyId.{TyId}
use Rattle.life_core.specs.declared.instr.Form.TheVariants as form
use Rattle.life_store.specs.Cells.{at}
use Rattle.life_store.specs.Content.{Slot, Object, Content}
use Rattle.life_store.specs.Doing.{replaced}
use Rattle.life_store.specs.Effects.{Setting, Attempt, Got, GotTrap, GotLost, then_get}
use Rattle.life_store.specs.Held.{owner_word}
use Rattle.life_store.specs.Owners.{Words, consumed, fresh, object_with}
use Rattle.life_store.specs.Parts.{Parts, Unique}
use Rattle.life_store.specs.Places.{Spot}
use Rattle.life_store.specs.References.{Rows}
use Rattle.life_store.specs.declared.object.BirthFault.{BirthFault}
use Rattle.life_store.specs.declared.object.BirthFault.TheVariants as birth_fault
use Rattle.life_store.specs.declared.object.ObjRef.{ObjRef}
use Rattle.life_store.specs.declared.run.TrapKind.TheVariants as trap
use Rattle.life_seen.specs.Housed.{IsRef, Shows}
use Rattle.life_seen.specs.Kinds.{Kinds}
use Rattle.life_cells.specs.Fits.{meant}

-- what it owned ends, and it owns what was made
abbrev pub owned_then : Parts → Spot → Attempt (ℕ × Content) → Attempt Content
owned_then p spot made = then_get made (λ b. Got (replaced p spot (owner_word (Some b.0) ∷ [], b.1)))

-- with the value that it gets
abbrev pub made_with : Setting → Parts → Spot → (Parts → Content → Attempt Words) → Content → Attempt Content
made_with s (Unique ty target) spot value c = owned_then (Unique ty target) spot (object_with s ty target (value target) c)
made_with s _ spot value c = GotLost

-- a fresh one, a number, or that of a temporary
abbrev pub fresh_value : Setting → Parts → Content → Attempt Words
fresh_value s p = fresh s form.Zero p

abbrev pub number_value : ℕ → Parts → Content → Attempt Words
number_value word p c = Got (word ∷ [], c)

abbrev pub taken_value : ℕ → Parts → Content → Attempt Words
taken_value n p c = Got (consumed p n c)

-- the store has the object that the meaning got, or the live words passed their limit there, too
abbrev pub Bears : Kinds → Attempt (ℕ × Content) → Result ObjRef BirthFault → Content → Rows → Type 0
Bears kinds meant (Ok r) c rows = (m : Content) × (meant ≡ Got (r.birth, m)) × Shows kinds c rows m × IsRef c rows r
Bears kinds meant (Err birth_fault.Cells) c rows = meant ≡ GotTrap trap.Cells
Bears kinds meant (Err birth_fault.NoMemory) c rows = Unit {0}

-- an object of one slot and of the type is in the hand
pub record IsTemporary (types : Types) (hand : ℕ → ℕ) (ty : TyId) (r : ObjRef) (c : Content) (rows : Rows) : Type 0 where
  pub placed : at rows r.birth ≡ Some r.row
  pub held : 0 < hand r.birth
  pub object : Object
  pub there : at (meant types c rows).objects r.birth ≡ Some object
  pub slot : Slot
  pub one : object.slots ≡ slot ∷ []
  pub type : object.ty ≡ ty
