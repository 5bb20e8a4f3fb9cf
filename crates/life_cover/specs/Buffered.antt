-- Each vector and each string in a store has its buffer, but in objects that may have been moved from.
use Rattle.std.specs.Prelude.{◌≡◌, ℕ, zero, suc, Bool, true, false, List, Some, slice_get, slice_index}
use Rattle.life_types.specs.Types.{Types}
use Rattle.life_store.specs.Cells.{at}
use Rattle.life_store.specs.Content.{Slot, Object, Content}
use Rattle.life_store.specs.Held.{owned_in}
use Rattle.life_store.specs.Kinds.{row_behind}
use Rattle.life_store.specs.Parts.{Parts, Text, Vector, Member, parts_at, width}

-- the first word
abbrev pub is_first : ℕ → Bool
is_first zero = true
is_first (suc u) = false

-- the words of a value of these parts that are those of vectors and strings
abbrev pub is_buffer_at : Parts → ℕ → Bool
is_buffer_at (Text ty) u = is_first u
is_buffer_at (Vector ty element) u = is_first u
is_buffer_at (Member first others) u = row_behind (width first) (is_buffer_at first) (is_buffer_at others) u
is_buffer_at _ u = false

-- each of a value has a buffer, whose words these are
abbrev pub HasBuffers : Parts → List ℕ → Type 0
HasBuffers p ws = (u : ℕ) → is_buffer_at p u ≡ true → (b : ℕ) × (owned_in (slice_index ws u) ≡ Some b)

-- each object, but these
abbrev pub AreBut : Types → (bare : ℕ → Type 0) → Content → Type 0
AreBut types bare c = (n i : ℕ) (o : Object) (s : Slot) → (bare n → ⊥) → at c.objects n ≡ Some o → slice_get o.slots i ≡ Some s → HasBuffers (parts_at types o.ty) s.words
