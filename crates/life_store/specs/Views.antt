-- Spans and views: whether one may be used, what it sees, and a part of it.
use Rattle.std.specs.Prelude.{ℕ, ◌+◌, ◌-◌, ◌%◌, ◌^◌, min, ℤ, pos, Bool, true, false, cond, ◌&&◌, ◌||◌, nat_eq, nat_le, List, [], ◌∷◌, Option, Some, None, drop, length, map, option_and_then, slice_get, slice_index, take}
use Rattle.std.specs.Int.{cast_unsigned, w64}
use Rattle.life_types.specs.declared.ty.Ty.{Ty}
use Rattle.life_types.specs.declared.ty.Ty.TheVariants as variant
use Rattle.life_store.specs.Cells.{at}
use Rattle.life_store.specs.Content.{Slot, Content, is_valid_in}
use Rattle.life_store.specs.Effects.{Attempt, Got, GotTrap, GotFault, GotLost, as_char, word_of_number}
use Rattle.life_store.specs.Held.{slots_at}
use Rattle.life_store.specs.State.{Characters, Target, Pointer, Null, Wild, To, Static, Cell, Empty, Named, Number, Points}
use Rattle.life_store.specs.declared.run.FaultKind.TheVariants as fault
use Rattle.life_store.specs.declared.run.TrapKind.TheVariants as trap

-- ---- texts

-- a text that isn't there has no characters
abbrev pub text_length : Option (List ℕ) → ℕ
text_length None = 0
text_length (Some text) = length text

-- the whole of a text of the program
abbrev pub viewed : List (List ℕ) → ℕ → Pointer
viewed texts n = Static (record { text = Some n; index = 0; count = text_length (slice_get texts n) })

abbrev pub text_in : List (List ℕ) → Characters → Option (List ℕ)
text_in texts c = option_and_then (λ n. slice_get texts n) c.text

-- how many characters the whole text has
abbrev pub text_size : List (List ℕ) → Characters → ℕ
text_size texts c = text_length (text_in texts c)

-- characters of a text
abbrev pub characters_in : List (List ℕ) → Characters → List ℕ
characters_in texts c = characters_from (option_and_then (λ n. slice_get texts n) c.text)
  where
    characters_from : Option (List ℕ) → List ℕ
    characters_from None = []
    characters_from (Some text) = take c.count (drop c.index text)

-- a byte as the value of a char, and a char's byte
abbrev pub char_of : ℕ → ℤ
char_of byte = as_char (pos byte)

abbrev pub byte_of : ℤ → ℕ
byte_of z = cast_unsigned w64 z % 2 ^ 8

-- ---- whether one may be used

-- an object that lives has the positions, and they have stood there since the view was made. What sees nothing names no position, so it
-- may begin anywhere, also behind the object's end
abbrev pub is_valid_range : Content → Target → Bool
is_valid_range c t =
    is_valid_in t.index t.count t.moment (at c.objects t.object) && (nat_eq t.count 0 || nat_le (t.index + t.count) (length (slots_at c t.object)))

abbrev pub usable : Content → Pointer → Attempt Pointer
usable c Null = GotLost
usable c Wild = GotFault fault.Dangling
usable c (To t) = cond (is_valid_range c t) (Got (To t)) (GotFault fault.Dangling)
usable c (Static s) = Got (Static s)

abbrev pub used : Content → Option Cell → Attempt Pointer
used c None = GotLost
used c (Some Empty) = GotLost
used c (Some (Named n)) = GotLost
used c (Some (Number z)) = GotLost
used c (Some (Points p)) = usable c p

-- ---- what one sees

abbrev pub seen_count : Pointer → ℕ
seen_count Null = 0
seen_count Wild = 0
seen_count (To t) = t.count
seen_count (Static c) = c.count

-- the word of a slot that has a character
abbrev pub first_word : Slot → ℕ
first_word s = slice_index s.words 0

abbrev pub word_of_byte : ℕ → ℕ
word_of_byte byte = word_of_number (char_of byte)

-- its characters, each as it lies in the slot of a string
abbrev pub seen_words : List (List ℕ) → Content → Pointer → List ℕ
seen_words texts c Null = []
seen_words texts c Wild = []
seen_words texts c (To t) = map first_word (take t.count (drop t.index (slots_at c t.object)))
seen_words texts c (Static s) = map word_of_byte (characters_in texts s)

-- .. and as bytes
abbrev pub seen_bytes : List (List ℕ) → Content → Pointer → List ℕ
seen_bytes texts c Null = []
seen_bytes texts c Wild = []
seen_bytes texts c (To t) = map (λ word. word % 2 ^ 8) (seen_words texts c (To t))
seen_bytes texts c (Static s) = characters_in texts s

abbrev pub are_same : List ℕ → List ℕ → Bool
are_same [] [] = true
are_same [] (b ∷ bs) = false
are_same (a ∷ more) [] = false
are_same (a ∷ more) (b ∷ bs) = nat_eq a b && are_same more bs

-- ---- a part of one

abbrev pub is_span : Option Ty → Bool
is_span (Some (variant.Span target constant)) = true
is_span _ = false

-- how many are left from an index on
abbrev pub left_from : (index count : ℕ) → Attempt ℕ
left_from i count = cond (nat_le i count) (Got (count - i)) (GotTrap trap.Bounds)

-- a span has as many as are asked for, and a view has at most those that are left
abbrev pub part_count : (span : Bool) → (index : ℕ) → Option ℕ → (count : ℕ) → Attempt ℕ
part_count span i None count = left_from i count
part_count true i (Some n) count = cond (nat_le (i + n) count) (Got n) (GotTrap trap.Bounds)
part_count false i (Some n) count = cond (nat_le i count) (Got (min n (count - i))) (GotTrap trap.Bounds)

-- so many from an index on; what is made now has this moment
abbrev pub part_of : (moment index count : ℕ) → Pointer → Pointer
part_of now i n Null = Null
part_of now i n Wild = Wild
part_of now i n (To t) = To (record { object = t.object; index = t.index + i; word = t.word; count = n; moment = now })
part_of now i n (Static c) = Static (record { text = c.text; index = c.index + i; count = n })
