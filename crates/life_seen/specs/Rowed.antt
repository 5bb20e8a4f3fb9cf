-- Pointers that lie in a store can be read: they have the rows of their objects beside the numbers.
use Rattle.std.specs.Prelude.{◌≡◌, ◌<◌, ◌≤◌, ℕ, suc, ◌+◌, ◌/◌, ◌^◌, ◌*◌, List, [], ◌∷◌, Some, slice_index}
use Rattle.life_store.specs.Cells.{at}
use Rattle.life_store.specs.Content.{Slot, Object, Content}
use Rattle.life_store.specs.Held.{owner_word, pointer_words}
use Rattle.life_store.specs.References.{Rows}
use Rattle.life_store.specs.State.{Pointer, Null, Wild, To, Static}
use Rattle.life_seen.specs.Kinds.{Kinds}
use Rattle.life_store.specs.Kinds.{Kind, Pointing}
use Rattle.life_seen.specs.Housed.{IsRef}

-- the words of a pointer to an object that has the row, or had it
abbrev pub stored_words : (row : ℕ) → Pointer → List ℕ
stored_words row Null = pointer_words Null
stored_words row Wild = pointer_words Wild
stored_words row (To t) = suc (suc t.object) ∷ t.index ∷ t.count ∷ (t.word + row * 2 ^ 32) ∷ suc t.moment ∷ []
stored_words row (Static c) = pointer_words (Static c)

-- five words, one behind the other, that can be read as a pointer
pub record IsReadable (c : Content) (rows : Rows) (word : ℕ → ℕ) : Type 0 where
  -- what leads to an object has its row, and an index and a count of 32 bits
  pub object : (n moment : ℕ) → word 0 ≡ suc (suc n) → word 4 ≡ suc moment → IsRef c rows (record { row = word 3 / 2 ^ 32; birth = n }) × (word 1 < 2 ^ 32) × (word 2 < 2 ^ 32)
  -- what leads to characters has the number of a text in 32 bits, if it has one, sees fewer than 2^63 and ends before that
  pub characters : (n : ℕ) → word 0 ≡ suc (suc n) → word 4 ≡ 0 → (n ≤ 2 ^ 32) × (word 2 < 2 ^ 63) × (word 1 + word 2 ≤ 2 ^ 63)

-- a pointer whose words can be read again
abbrev pub IsStorable : Content → Rows → (row : ℕ) → Pointer → Type 0
IsStorable c rows row Null = Unit {0}
IsStorable c rows row Wild = Unit {0}
IsStorable c rows row (To t) = IsRef c rows (record { row = row; birth = t.object }) × (t.word < 2 ^ 32) × (t.index < 2 ^ 32) × (t.count < 2 ^ 32)
IsStorable c rows row (Static s) = (owner_word s.text ≤ 2 ^ 32) × (s.count < 2 ^ 63) × (s.index + s.count ≤ 2 ^ 63)

abbrev pub WordsRowed : Content → Rows → (ℕ → Kind) → List ℕ → Type 0
WordsRowed c rows f ws = (u : ℕ) → f u ≡ Pointing 0 → IsReadable c rows (λ j. slice_index ws (u + j))

abbrev pub SlotsRowed : Content → Rows → (ℕ → Kind) → List Slot → Type 0
SlotsRowed c rows f [] = Unit {0}
SlotsRowed c rows f (s ∷ ss) = WordsRowed c rows f s.words × SlotsRowed c rows f ss

-- all of them in a store
abbrev pub AreRowed : Kinds → Content → Rows → Type 0
AreRowed kinds c rows = (n : ℕ) (o : Object) → at c.objects n ≡ Some o → SlotsRowed c rows (kinds o.ty) o.slots
