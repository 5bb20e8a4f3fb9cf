-- What the words of a slot hold beside numbers: what an owner owns, and a pointer.
use Rattle.std.specs.Prelude.{ℕ, zero, suc, ◌+◌, List, [], ◌∷◌, Option, Some, None, drop, slice_get, slice_index, take}
use Rattle.life_store.specs.Cells.{at}
use Rattle.life_store.specs.Content.{Slot, Object, Content, with_object, with_resize, with_word}
use Rattle.life_store.specs.State.{Pointer, Null, Wild, To, Static}

-- ---- an owner: the number of the object that it owns, and 1, or 0 where it owns none

abbrev pub owner_word : Option ℕ → ℕ
owner_word None = 0
owner_word (Some n) = suc n

abbrev pub owned_in : ℕ → Option ℕ
owned_in zero = None
owned_in (suc n) = Some n

-- ---- a pointer: five words, of which the first tells null from wild, and the last a text from an object

abbrev pub pointer_words : Pointer → List ℕ
pointer_words Wild = 0 ∷ 0 ∷ 0 ∷ 0 ∷ 0 ∷ []
pointer_words Null = 1 ∷ 0 ∷ 0 ∷ 0 ∷ 0 ∷ []
pointer_words (Static c) = suc (suc (owner_word c.text)) ∷ c.index ∷ c.count ∷ 0 ∷ 0 ∷ []
pointer_words (To t) = suc (suc t.object) ∷ t.index ∷ t.count ∷ t.word ∷ suc t.moment ∷ []

abbrev pub pointer_of : (first index count word last : ℕ) → Pointer
pointer_of zero index count word last = Wild
pointer_of (suc zero) index count word last = Null
pointer_of (suc (suc n)) index count word zero = Static (record { text = owned_in n; index = index; count = count })
pointer_of (suc (suc n)) index count word (suc moment) = To (record { object = n; index = index; word = word; count = count; moment = moment })

abbrev pub pointer_in : List ℕ → Pointer
pointer_in ws = pointer_of (slice_index ws 0) (slice_index ws 1) (slice_index ws 2) (slice_index ws 3) (slice_index ws 4)

-- ---- the words of a slot

abbrev pub words_if : Option Slot → List ℕ
words_if None = []
words_if (Some s) = s.words

abbrev pub slots_if : Option Object → List Slot
slots_if None = []
slots_if (Some o) = o.slots

-- the slots of an object, and the words of one of them
abbrev pub slots_at : Content → ℕ → List Slot
slots_at c n = slots_if (at c.objects n)

abbrev pub slot_words : Content → (object index : ℕ) → List ℕ
slot_words c n i = words_if (slice_get (slots_at c n) i)

-- so many of them, from one on
abbrev pub words_at : Content → (object index word count : ℕ) → List ℕ
words_at c n i w count = take count (drop w (slot_words c n i))

-- .. and they are written
abbrev pub with_words : (slot word : ℕ) → List ℕ → Object → Object
with_words i w [] o = o
with_words i w (v ∷ vs) o = with_words i (w + 1) vs (with_word i w v o)

abbrev pub wrote_if : Option Object → (object slot word : ℕ) → List ℕ → Content → Content
wrote_if None n i w vs c = c
wrote_if (Some o) n i w vs c = with_object n (with_words i w vs o) c

abbrev pub wrote : (object slot word : ℕ) → List ℕ → Content → Content
wrote n i w vs c = wrote_if (at c.objects n) n i w vs c

-- ---- so many slots, with the positions from one on stamped

abbrev pub resized_if : Option Object → (object size since : ℕ) → Content → Content
resized_if None n size since c = c
resized_if (Some o) n size since c = with_resize n size since o c

abbrev pub resized_at : (object size since : ℕ) → Content → Content
resized_at n size since c = resized_if (at c.objects n) n size since c

-- ---- the words of all slots, from the first on

abbrev pub filled_slots : List Slot → List (List ℕ) → List Slot
filled_slots [] values = []
filled_slots (s ∷ ss) [] = s ∷ ss
filled_slots (s ∷ ss) (v ∷ vs) = record s { words = v } ∷ filled_slots ss vs

abbrev pub filled_if : Option Object → ℕ → List (List ℕ) → Content → Content
filled_if None n values c = c
filled_if (Some o) n values c = with_object n (record o { slots = filled_slots o.slots values }) c

abbrev pub filled : ℕ → List (List ℕ) → Content → Content
filled n values c = filled_if (at c.objects n) n values c
