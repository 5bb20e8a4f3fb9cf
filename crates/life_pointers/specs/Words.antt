-- A pointer in the words of a slot.
use Rattle.std.specs.Prelude.{◌≡◌, ◌<◌, ◌≤◌, ◌+◌, ◌^◌, ℕ, [], ◌∷◌, Some, length, slice_get, slice_index, IfSome}
use Rattle.life_store.specs.Content.{Content, Object, Slot}
use Rattle.life_store.specs.Kinds.{Pointing}
use Rattle.life_store.specs.References.{Rows, object_of}
use Rattle.life_store.specs.declared.object.ObjRef.{ObjRef}
use Rattle.life_seen.specs.Housed.{IsHoused}
use Rattle.life_seen.specs.Kinds.{AreWhole, Kinds}
use Rattle.life_pointers.specs.declared.pointer.Pointer.{Pointer}
use Rattle.life_pointers.specs.declared.pointer.Pointer.TheVariants as leads

-- the object lives, and a pointer begins at the word of its slots
pub record IsPointer (kinds : Kinds) (c : Content) (rows : Rows) (r : ObjRef) (word : ℕ) (o : Object) : Type 0 where
  pub housed : IsHoused kinds c rows
  pub there : object_of c rows r ≡ Some o
  pub whole : AreWhole (kinds o.ty)
  pub begins : kinds o.ty word ≡ Pointing 0

-- the slot has the words of a pointer from there on
abbrev pub HasWholeWords : (slot word : ℕ) → Object → Type 0
HasWholeWords slot word o = (s : Slot) → slice_get o.slots slot ≡ Some s → word + 5 ≤ length s.words

-- five words by their places
abbrev pub five : (first second third fourth last : ℕ) → ℕ → ℕ
five first second third fourth last = slice_index (first ∷ second ∷ third ∷ fourth ∷ last ∷ [])

abbrev pub row_of : Pointer → ℕ
row_of leads.Null = 0
row_of leads.Wild = 0
row_of (leads.To index count word object moment) = object.row
row_of (leads.Static c) = 0

-- its numbers of 32 bits are such numbers
abbrev pub IsSmall : Pointer → Type 0
IsSmall leads.Null = Unit {0}
IsSmall leads.Wild = Unit {0}
IsSmall (leads.To index count word object moment) = (word < 2 ^ 32) × (index < 2 ^ 32) × (count < 2 ^ 32)
IsSmall (leads.Static c) = IfSome c.text (λ n. n < 2 ^ 32)
