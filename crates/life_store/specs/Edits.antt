-- What a change makes of an owner.
use Rattle.std.specs.Prelude.{ℕ, zero, suc, ◌+◌, ◌-◌, ◌*◌, cond, nat_eq, nat_lt, List, [], ◌∷◌, ◌++◌, Option, Some, None, drop, length, map, slice_index, take}
use Rattle.life_types.specs.declared.ty.TyId.{TyId}
use Rattle.life_store.specs.Cells.{at}
use Rattle.life_store.specs.Content.{Slot, Object, Content, without}
use Rattle.life_store.specs.Effects.{Setting, Attempt, Got, GotTrap, GotFault, GotLost, got_or, then_get}
use Rattle.life_store.specs.Held.{filled, owned_in, owner_word, resized_at, slots_at, slot_words, wrote}
use Rattle.life_store.specs.Owners.{Words, birth, sized_birth, ended, ended_slots, taken_slots}
use Rattle.life_store.specs.Parts.{Parts, Text, Vector, width}
use Rattle.life_store.specs.Places.{Spot, spot_words, wrote_spot}
use Rattle.life_store.specs.Views.{first_word}
use Rattle.life_store.specs.declared.run.FaultKind.TheVariants as fault
use Rattle.life_store.specs.declared.run.Growth.{Growth}
use Rattle.life_store.specs.declared.run.Growth.TheVariants as growth
use Rattle.life_store.specs.declared.run.TrapKind.TheVariants as trap

-- ---- what an owner has

abbrev pub owned_at : Content → Spot → Option ℕ
owned_at c spot = owned_in (slice_index (spot_words c spot 1) 0)

-- a vector or a string that was moved from has no buffer
abbrev pub buffer_of : Content → Spot → Attempt ℕ
buffer_of c spot = got_or (owned_at c spot) (GotFault fault.Moved)

abbrev pub size_of : Content → (buffer : ℕ) → ℕ
size_of c b = length (slots_at c b)

abbrev pub capacity_if : Option Object → ℕ
capacity_if None = 0
capacity_if (Some o) = o.capacity

abbrev pub capacity_of : Content → (buffer : ℕ) → ℕ
capacity_of c b = capacity_if (at c.objects b)

-- the owner takes another object
abbrev pub owns : Spot → ℕ → Content → Content
owns spot n c = wrote_spot spot (owner_word (Some n) ∷ []) c

-- ---- vectors

abbrev pub grown : Growth → (size capacity : ℕ) → ℕ
grown growth.Always size capacity = size + 1
grown growth.Double size capacity = cond (nat_eq capacity 0) 1 (2 * capacity)

abbrev pub filled_by : ℕ → List (List ℕ) × Content → Content
filled_by n vs = filled n vs.0 vs.1

-- a fresh buffer of a capacity takes the elements, with so many slots, and then the old one ends
abbrev pub regrown : Setting → TyId → Parts → (buffer capacity size : ℕ) → Content → Attempt (ℕ × Content)
regrown s ty element b capacity size c =
    then_get (birth s ty (width element) capacity c) (λ f. Got (f.0, without b (filled_by f.0 (taken_slots element (slots_at c b) (resized_at f.0 size 0 f.1)))))

-- the buffer with one more slot: another one where it was full
abbrev pub with_room : Setting → TyId → Parts → (buffer : ℕ) → Content → Attempt (ℕ × Content)
with_room s ty element b c =
    cond (nat_lt (size_of c b) (capacity_of c b))
    (Got (b, resized_at b (size_of c b + 1) (size_of c b) c))
    (regrown s ty element b (grown s.given.growth (size_of c b) (capacity_of c b)) (size_of c b + 1) c)

-- the owner has the buffer, and the slot this value
abbrev pub put_last : Spot → (buffer slot : ℕ) → Words → Content
put_last spot f i v = wrote f i 0 v.0 (owns spot f v.1)

abbrev pub pushed : Setting → TyId → Parts → Spot → (buffer : ℕ) → (Content → Words) → Content → Attempt Content
pushed s ty element spot b value c = then_get (with_room s ty element b c) (λ f. Got (put_last spot f.0 (size_of c b) (value f.1)))

abbrev pub popped : Parts → (buffer size : ℕ) → Content → Attempt Content
popped element b zero c = GotTrap trap.Bounds
popped element b (suc n) c = Got (resized_at b n n (ended element (slot_words c b n) c))

abbrev pub cleared : Parts → (buffer : ℕ) → Content → Content
cleared element b c = resized_at b 0 0 (ended_slots (ended element) (slots_at c b) c)

abbrev pub reserved : Setting → TyId → Parts → Spot → (buffer capacity : ℕ) → Content → Attempt Content
reserved s ty element spot b n c =
    cond (nat_lt (capacity_of c b) n) (then_get (regrown s ty element b n (size_of c b) c) (λ f. Got (owns spot f.0 f.1))) (Got c)

abbrev pub words_in : Slot → List ℕ
words_in s = s.words

-- the slots before it, then those behind it, and one less
abbrev pub closed_up : (buffer index size : ℕ) → List (List ℕ) → List (List ℕ) × Content → Content
closed_up b i size before later = resized_at b (size - 1) i (filled b (before ++ later.0) later.1)

-- the element ends, the later ones move down, and the positions from there on are stamped
abbrev pub erased : Parts → (buffer index : ℕ) → Content → Content
erased element b i c =
    closed_up b i (size_of c b) (map words_in (take i (slots_at c b))) (taken_slots element (drop (i + 1) (slots_at c b)) (ended element (slot_words c b i) c))

-- ---- strings

abbrev pub one_word : ℕ → List ℕ
one_word word = word ∷ []

abbrev pub characters_of : Content → (buffer : ℕ) → List ℕ
characters_of c b = map first_word (slots_at c b)

-- a fresh buffer of just these characters, born before the old one ends
abbrev pub rewritten : Setting → TyId → Spot → (buffer : ℕ) → List ℕ → Content → Attempt Content
rewritten s ty spot b words c = then_get (sized_birth s ty 1 (length words) c) (λ f. Got (owns spot f.0 (without b (filled f.0 (map one_word words) f.1))))

-- ---- one change of either

-- what is to be done, with what it takes
pub data Edit : Type 0 where
  Push : (Content → Words) → Edit
  Pop : Edit
  Clear : Edit
  Reserve : (capacity : ℕ) → Edit
  Put : List ℕ → Edit
  Add : List ℕ → Edit

abbrev pub edited : Setting → Parts → Spot → (buffer : ℕ) → Edit → Content → Attempt Content
edited s (Vector ty element) spot b (Push value) c = pushed s ty element spot b value c
edited s (Vector ty element) spot b Pop c = popped element b (size_of c b) c
edited s (Vector ty element) spot b Clear c = Got (cleared element b c)
edited s (Vector ty element) spot b (Reserve n) c = reserved s ty element spot b n c
edited s (Text ty) spot b (Push value) c = rewritten s ty spot b (characters_of c b ++ (value c).0) c
edited s (Text ty) spot b Clear c = rewritten s ty spot b [] c
edited s (Text ty) spot b (Put words) c = rewritten s ty spot b words c
edited s (Text ty) spot b (Add words) c = rewritten s ty spot b (characters_of c b ++ words) c
edited s _ spot b edit c = GotLost
