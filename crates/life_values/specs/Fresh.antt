-- How a value comes to life in a slot, one part after the other.
use Rattle.std.specs.Prelude.{◌≡◌, ◌<◌, ◌≤◌, ◌+◌, ◌^◌, ℕ, List, [], ◌∷◌, Some, Result, Ok, Err, length, slice_get}
use Rattle.life_types.specs.Types.{Types}
use Rattle.life_types.specs.declared.ty.TyId.{TyId}
use Rattle.life_core.specs.declared.instr.Form.{Form}
use Rattle.life_core.specs.declared.instr.Form.TheVariants as form
use Rattle.life_store.specs.Cells.{at}
use Rattle.life_store.specs.Content.{Object, Content, word_at}
use Rattle.life_store.specs.Effects.{Setting, Attempt, Got, GotTrap, then_get}
use Rattle.life_store.specs.Held.{owner_word, wrote}
use Rattle.life_store.specs.Kinds.{Kind, Owner, Pointing}
use Rattle.life_store.specs.Owners.{birth}
use Rattle.life_store.specs.Parts.{parts_at, width}
use Rattle.life_store.specs.References.{Rows}
use Rattle.life_store.specs.declared.object.BirthFault.{BirthFault}
use Rattle.life_store.specs.declared.object.BirthFault.TheVariants as birth_fault
use Rattle.life_store.specs.declared.run.TrapKind.TheVariants as trap
use Rattle.life_seen.specs.Housed.{IsHoused, Shows, WordLives}
use Rattle.life_seen.specs.Kinds.{Kinds}
use Rattle.life_seen.specs.Named.{names_of}
use Rattle.life_seen.specs.Seen.{seen, word_seen}
use Rattle.life_values.specs.declared.layout.Holds.{Holds}
use Rattle.life_values.specs.declared.layout.Holds.TheVariants as holds
use Rattle.life_values.specs.declared.layout.Leaf.{Leaf}
use Rattle.life_values.specs.declared.spot.Spot.{Spot}

-- a raw pointer is wild, or null
abbrev pub raw_word : Form → ℕ
raw_word form.Plain = 0
raw_word form.Zero = 1

-- what its first word owns, or the first word of a pointer whose other words are 0
abbrev pub leaf_born : Setting → Types → Form → Holds → Content → Attempt (ℕ × Content)
leaf_born s types f holds.Raw c = Got (raw_word f, c)
leaf_born s types f holds.View c = Got (2, c)
leaf_born s types f (holds.Characters ty) c = then_get (birth s ty 1 0 c) (λ b. Got (owner_word (Some b.0), b.1))
leaf_born s types f (holds.Elements ty) c = then_get (birth s ty (width (parts_at types ty)) 0 c) (λ b. Got (owner_word (Some b.0), b.1))
leaf_born s types f (holds.Target ty) c = Got (0, c)

abbrev pub leaf_wrote : Setting → Types → Form → (n slot word : ℕ) → Holds → Content → Attempt Content
leaf_wrote s types f n i w h c = then_get (leaf_born s types f h c) (λ v. Got (wrote n i w (v.0 ∷ []) v.1))

-- .. those of a value that begins at a word
abbrev pub leaves_wrote : Setting → Types → Form → (n slot word : ℕ) → List Leaf → Content → Attempt Content
leaves_wrote s types f n i w [] c = Got c
leaves_wrote s types f n i w (l ∷ ls) c = then_get (leaf_wrote s types f n i (w + l.word) l.holds c) (leaves_wrote s types f n i w ls)

-- every value has a word, since every struct has a member
abbrev pub AreWide : Types → Type 0
AreWide types = (ty : TyId) → 1 ≤ width (parts_at types ty)

-- ---- in a store

abbrev pub kind_of : Holds → Kind
kind_of holds.Raw = Pointing 0
kind_of holds.View = Pointing 0
kind_of (holds.Characters ty) = Owner
kind_of (holds.Elements ty) = Owner
kind_of (holds.Target ty) = Owner

-- the object is there with the words, which are of these kinds
pub record CanFill (kinds : Kinds) (spot : Spot) (leaves : List Leaf) (c : Content) (rows : Rows) : Type 0 where
  pub housed : IsHoused kinds c rows
  pub placed : at rows spot.object.birth ≡ Some spot.object.row
  pub object : Object
  pub there : at (seen kinds c rows).objects spot.object.birth ≡ Some object
  pub slot : spot.slot < length object.slots
  pub own : (j : ℕ) (l : Leaf) → slice_get leaves j ≡ Some l → kinds object.ty (spot.word + l.word) ≡ kind_of l.holds
  pub within : (j : ℕ) (l : Leaf) → slice_get leaves j ≡ Some l → spot.word + l.word < object.width
  pub small : (j : ℕ) (l : Leaf) → slice_get leaves j ≡ Some l → spot.word + l.word < 2 ^ 64

-- the words of each view behind its first are 0
abbrev pub AreBlank : List Leaf → (slot word : ℕ) → Object → Type 0
AreBlank leaves i w o = (j : ℕ) (l : Leaf) → slice_get leaves j ≡ Some l → l.holds ≡ holds.View → (n : ℕ) → 1 ≤ n → n ≤ 4 → word_at o i (w + l.word + n) ≡ 0

-- the word in the store stands for what the meaning got, or the live words passed their limit there, too
abbrev pub IsFirst : Kinds → Attempt (ℕ × Content) → Kind → Result ℕ BirthFault → Content → Rows → Type 0
IsFirst kinds meant k (Ok w) c rows = (v : ℕ) × (m : Content) × (meant ≡ Got (v, m)) × Shows kinds c rows m × WordLives (names_of c rows) k w × (word_seen (names_of c rows) k w ≡ v)
IsFirst kinds meant k (Err birth_fault.Cells) c rows = meant ≡ GotTrap trap.Cells
IsFirst kinds meant k (Err birth_fault.NoMemory) c rows = Unit {0}

-- the store shows what the meaning got, or the live words passed their limit there, too
abbrev pub Comes : {A : Type 0} → Kinds → Attempt Content → Result A BirthFault → Content → Rows → Type 0
Comes kinds meant (Ok done) c rows = (m : Content) × (meant ≡ Got m) × Shows kinds c rows m
Comes kinds meant (Err birth_fault.Cells) c rows = meant ≡ GotTrap trap.Cells
Comes kinds meant (Err birth_fault.NoMemory) c rows = Unit {0}
