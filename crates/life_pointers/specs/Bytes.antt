-- The characters that a view sees, by the words of the store.
use Rattle.std.specs.Prelude.{◌≡◌, ◌<◌, ◌≤◌, ◌+◌, ◌%◌, ◌^◌, ℕ, List, [], Some, drop, length, map, take}
use Rattle.life_store.specs.Content.{Slot, Object, Content}
use Rattle.life_store.specs.Held.{slots_if}
use Rattle.life_store.specs.Kinds.{Plain}
use Rattle.life_store.specs.References.{Rows, object_of}
use Rattle.life_store.specs.Views.{characters_in, first_word, word_of_byte}
use Rattle.life_store.specs.declared.object.ObjRef.{ObjRef}
use Rattle.life_seen.specs.Kinds.{Kinds}
use Rattle.life_pointers.specs.Pointers.{characters_seen}
use Rattle.life_pointers.specs.declared.pointer.Pointer.{Pointer}
use Rattle.life_pointers.specs.declared.pointer.Pointer.TheVariants as leads

abbrev pub stored_slots : Content → Rows → ObjRef → List Slot
stored_slots c rows r = slots_if (object_of c rows r)

abbrev pub byte_in : ℕ → ℕ
byte_in word = word % 2 ^ 8

abbrev pub stored_bytes : List (List ℕ) → Content → Rows → Pointer → List ℕ
stored_bytes texts c rows leads.Null = []
stored_bytes texts c rows leads.Wild = []
stored_bytes texts c rows (leads.To index count word object moment) = map byte_in (map first_word (take count (drop index (stored_slots c rows object))))
stored_bytes texts c rows (leads.Static s) = characters_in texts (characters_seen s)

-- .. as they lie in the slots of a string
abbrev pub stored_words : List (List ℕ) → Content → Rows → Pointer → List ℕ
stored_words texts c rows leads.Null = []
stored_words texts c rows leads.Wild = []
stored_words texts c rows (leads.To index count word object moment) = map first_word (take count (drop index (stored_slots c rows object)))
stored_words texts c rows (leads.Static s) = map word_of_byte (characters_in texts (characters_seen s))

-- the object lives, and has so many positions from one on
pub record HasPositions (c : Content) (rows : Rows) (r : ObjRef) (first count : ℕ) : Type 0 where
  pub object : Object
  pub there : object_of c rows r ≡ Some object
  pub wide : 1 ≤ object.width
  pub within : (i : ℕ) → i < count → first + i < length object.slots

-- what is seen is there
abbrev pub IsInside : Content → Rows → Pointer → Type 0
IsInside c rows leads.Null = Unit {0}
IsInside c rows leads.Wild = Unit {0}
IsInside c rows (leads.To index count word object moment) = HasPositions c rows object index count
IsInside c rows (leads.Static s) = Unit {0}

-- the first word of each slot that is seen is a number
abbrev pub SeesPlain : Kinds → Content → Rows → Pointer → Type 0
SeesPlain kinds c rows leads.Null = Unit {0}
SeesPlain kinds c rows leads.Wild = Unit {0}
SeesPlain kinds c rows (leads.To index count word object moment) = (o : Object) → object_of c rows object ≡ Some o → kinds o.ty 0 ≡ Plain
SeesPlain kinds c rows (leads.Static s) = Unit {0}
