-- What one instruction does.
use Rattle.std.specs.Prelude.{ℕ, ℤ, pos, Bool, cond, not, nat_lt, List, [], ◌∷◌, ◌++◌, Option, Some, None, Ok, Err, decimal, slice_get, slice_index}
use Rattle.std.specs.Int.{cast_signed, cast_unsigned, w64}
use Rattle.std.specs.Fmt.{signed_decimal}
use Rattle.life_types.specs.Types.{Types}
use Rattle.life_types.specs.declared.ty.Ty.{Ty}
use Rattle.life_types.specs.declared.ty.Ty.TheVariants as variant
use Rattle.life_types.specs.declared.ty.TyId.{TyId}
use Rattle.life_core.specs.declared.instr.Direction.{Direction}
use Rattle.life_core.specs.declared.instr.Form.TheVariants as form
use Rattle.life_core.specs.declared.instr.Made.{Made}
use Rattle.life_core.specs.declared.instr.Made.TheVariants as made
use Rattle.life_core.specs.declared.operand.RangeEnd.{RangeEnd}
use Rattle.life_core.specs.declared.operand.Which.{Which}
use Rattle.life_core.specs.declared.operand.Which.TheVariants as which
use Rattle.life_core.specs.declared.operation.Operation.{Operation}
use Rattle.life_core.specs.declared.operation.Operation.TheVariants as operation
use Rattle.life_core.specs.Function.{Function}
use Rattle.life_core.specs.Operands.{Base, Location, Operand, Name, Through, Source}
use Rattle.life_core.specs.Operands as source
use Rattle.life_core.specs.Step.{Change, PushBack, PopBack, Clear, Reserve, Erase, Set, Append, Step, Live, End, Eval, Load, Save, Copy, Move, Aim, Repoint, Element, Cursor, Advance, Cut, Size, Same, Changes, Make, Call, Ports, Port, Writes, WritesView, Takes}
use Rattle.life_store.specs.Content.{Object, Content, with_object, with_word, word_at}
use Rattle.life_store.specs.Edits.{Edit, Push, Pop, Clear as ClearAll, Reserve as Room, Put, Add, buffer_of, edited, erased, owned_at, size_of}
use Rattle.life_store.specs.Held.{owned_in, owner_word, slot_words, words_at, wrote}
use Rattle.life_store.specs.Iterators.{at_index, chosen, count_of, directed, element_of, end_index, erasable, index_in, iterator, same_position, stepped}
use Rattle.life_store.specs.Numbers.{Computed, negated, truth, is_zero, combined}
use Rattle.life_store.specs.Owners.{Words, consumed, copied, ended, fresh, object_with, taken}
use Rattle.life_store.specs.Parts.{Parts, Views, Vector, Unique, local_parts, location_parts, location_type, operand_parts, width}
use Rattle.life_store.specs.State.{Characters, Pointer, Null, To, Static, Cell, Empty, Named, Number, State}
use Rattle.life_store.specs.Views.{are_same, byte_of, char_of, is_span, part_count, part_of, seen_bytes, seen_count, seen_words, text_in, text_size, used}
use Rattle.life_store.specs.declared.run.FaultKind.TheVariants as fault
use Rattle.life_store.specs.declared.run.TrapKind.TheVariants as trap
pub use Rattle.life_store.specs.Births.{with_value_object, born_object, live_as, live_over, live_local, end_object, end_cell, end_locals}
pub use Rattle.life_store.specs.Effects.{Given, Setting, Effect, Next, Traps, Faults, Strays, Attempt, Got, GotTrap, GotFault, GotLost, cell, put_cell, put_content, word_of_number, number_in_word, as_int, as_char, as_bool, converted, type_of_local, type_of, on_number, on_pointer, on_next, on_got, then_get}
pub use Rattle.life_store.specs.Owners.{born_pointer, empty_view}
pub use Rattle.life_store.specs.Places.{Found, Here, Fixed, Outside, Wrong, Astray, Spot, here_if, found_in, found_at, is_valid, reached_if, reached_in, found_if, behind_pointer, behind_cell, named_by, location_cell, member_cell, pointed, member_pointed, locate, operand_word, pointer_word, on_place, on_found, on_spot, on_location, spot_words, wrote_spot}
pub use Rattle.life_store.specs.Views.{text_length, viewed, characters_in}

-- ---- numbers

-- a register is given what was computed
abbrev pub computed_into : ℕ → Computed → State → Effect
computed_into r (Ok z) st = Next (put_cell r (Number z) st)
computed_into r (Err kind) st = Traps kind

abbrev pub evaluated : Types → Function → ℕ → Operation → State → Effect
evaluated types f r (operation.Number z) st = Next (put_cell r (Number z) st)
evaluated types f r (operation.Convert q) st = on_number (cell st q) (λ z. Next (put_cell r (Number (converted (type_of types f r) z)) st))
evaluated types f r (operation.Negate q) st = on_number (cell st q) (λ z. computed_into r (negated (type_of types f r) z) st)
evaluated types f r (operation.IsZero q) st = on_number (cell st q) (λ z. computed_into r (truth (is_zero z)) st)
evaluated types f r (operation.Binary operator a b) st = on_number (cell st a) (λ x. on_number (cell st b) (λ y. computed_into r (combined (type_of types f a) operator x y) st))

-- a character of a text, unless it is its end
abbrev pub on_character : List (List ℕ) → Characters → (ℤ → Effect) → Effect
on_character texts c go = cond (nat_lt c.index (text_size texts c)) (go (char_of (slice_index (text_or_none (text_in texts c)) c.index))) (Traps trap.Bounds)
  where
    text_or_none : Option (List ℕ) → List ℕ
    text_or_none None = []
    text_or_none (Some text) = text

abbrev pub loaded_from : Setting → Types → Function → ℕ → Operand → State → Found → Effect
loaded_from s types f r o st found =
    on_place found
    (λ n i object. Next (put_cell r (Number (number_in_word (word_at object i (operand_word types f o st)))) st))
    (λ c. on_character s.texts c (λ z. Next (put_cell r (Number z) st)))

abbrev pub loaded : Setting → Types → Function → ℕ → Operand → State → Effect
loaded s types f r o st = loaded_from s types f r o st (locate types f o st)

abbrev pub saved : ℤ → ℕ → ℕ → ℕ → Object → State → State
saved z n i w o st = put_content (with_object n (with_word i w (word_of_number z) o) st.world.content) st

-- ---- pointers

-- the present clock is the moment of a new pointer
abbrev pub pointer_to : Content → ℕ → ℕ → ℕ → Pointer
pointer_to c n i w = To (record { object = n; index = i; word = w; count = 1; moment = c.clock })

-- all that a buffer holds
abbrev pub whole_of : Content → ℕ → Pointer
whole_of c b = To (record { object = b; index = 0; word = 0; count = size_of c b; moment = c.clock })

-- what a unique_ptr owns, or null
abbrev pub owned_pointer : Content → Option ℕ → Pointer
owned_pointer c None = Null
owned_pointer c (Some n) = pointer_to c n 0 0

abbrev pub aimed_at : Setting → Types → Function → Location → Operand → State → Found → Effect
aimed_at s types f p o st found =
    on_place found
    (λ n i object. pointed types f p (pointer_to st.world.content n i (operand_word types f o st)) st)
    (λ c. on_character s.texts c (λ z. pointed types f p (at_index 0 c.index (Static c)) st))

abbrev pub aimed : Setting → Types → Function → Location → Source → State → Effect
aimed s types f p source.Null st = pointed types f p Null st
aimed s types f p (source.Text n) st = pointed types f p (viewed s.texts n) st
aimed s types f p source.Empty st = pointed types f p empty_view st
aimed s types f p (source.Place o) st = aimed_at s types f p o st (locate types f o st)
aimed s types f p (source.Whole o) st = on_spot types f o st (λ spot. on_got (buffer_of st.world.content spot) (λ b. pointed types f p (whole_of st.world.content b) st))
aimed s types f p (source.Get l) st = on_location types f l st (λ spot. pointed types f p (owned_pointer st.world.content (owned_at st.world.content spot)) st)

abbrev pub element_at : Types → Function → Location → Which → (size : ℕ) → Pointer → State → Effect
element_at types f p which size base st = on_got (chosen st which size) (λ i. pointed types f p (element_of st.world.content.clock i base) st)

abbrev pub target_at : Types → Function → Location → Option ℕ → State → Effect
target_at types f p None st = Faults fault.Null
target_at types f p (Some n) st = pointed types f p (pointer_to st.world.content n 0 0) st

abbrev pub owner_element : Types → Function → Location → Spot → Which → State → Effect
owner_element types f p spot which.Target st = target_at types f p (owned_at st.world.content spot) st
owner_element types f p spot w st =
    on_got (buffer_of st.world.content spot) (λ b. element_at types f p w (size_of st.world.content b) (pointer_to st.world.content b 0 0) st)

abbrev pub element : Types → Function → Location → Base → Which → State → Effect
element types f p (source.Owner o) w st = on_spot types f o st (λ spot. owner_element types f p spot w st)
element types f p (source.Pointer l) w st = on_got (used st.world.content (location_cell types f l st)) (λ v. element_at types f p w (seen_count v) v st)

abbrev pub cursor : Types → Function → Location → Base → RangeEnd → State → Effect
cursor types f p (source.Owner o) end st =
    on_spot types f o st (λ spot. on_got (buffer_of st.world.content spot) (λ b. pointed types f p (pointer_to st.world.content b (end_index end (size_of st.world.content b)) 0) st))
cursor types f p (source.Pointer l) end st =
    on_got (used st.world.content (location_cell types f l st)) (λ v. pointed types f p (element_of st.world.content.clock (end_index end (seen_count v)) v) st)

abbrev pub advanced : Setting → Types → Function → Location → Location → ℕ → Direction → State → Effect
advanced s types f p q r way st =
    on_got (iterator st.world.content (location_cell types f q st)) (λ v. on_number (cell st r) (λ z.
    on_got (stepped s.texts st.world.content v (directed way (count_of (type_of types f r) z))) (λ i. pointed types f p (at_index st.world.content.clock i v) st)))

-- ---- views

-- the type of the location tells a span from a view
abbrev pub type_if : Types → Option TyId → Option Ty
type_if types None = None
type_if types (Some id) = slice_get types.types id.0

abbrev pub count_in : State → Option ℕ → Attempt (Option ℕ)
count_in st None = Got None
count_in st (Some r) = then_get (index_in (cell st r)) (λ n. Got (Some n))

abbrev pub cut : Types → Function → Location → Location → ℕ → Option ℕ → State → Effect
cut types f p q r count st =
    on_got (used st.world.content (location_cell types f q st)) (λ v. on_got (index_in (cell st r)) (λ i. on_got (count_in st count) (λ n.
    on_got (part_count (is_span (type_if types (location_type types f q))) i n (seen_count v)) (λ k. pointed types f p (part_of st.world.content.clock i k v) st))))

abbrev pub sized : Types → Function → ℕ → Base → State → Effect
sized types f r (source.Owner o) st =
    on_spot types f o st (λ spot. on_got (buffer_of st.world.content spot) (λ b. Next (put_cell r (Number (pos (size_of st.world.content b))) st)))
sized types f r (source.Pointer l) st = on_got (used st.world.content (location_cell types f l st)) (λ v. Next (put_cell r (Number (pos (seen_count v))) st))

-- views are the same where their characters are, and iterators where their positions are
abbrev pub compared : Setting → Types → Function → Parts → Location → Location → State → Attempt Bool
compared s types f Views a b st =
    then_get (used st.world.content (location_cell types f a st)) (λ v. then_get (used st.world.content (location_cell types f b st)) (λ w.
    Got (are_same (seen_bytes s.texts st.world.content v) (seen_bytes s.texts st.world.content w))))
compared s types f _ a b st =
    then_get (iterator st.world.content (location_cell types f a st)) (λ v. then_get (iterator st.world.content (location_cell types f b st)) (λ w. same_position v w))

abbrev pub told : (same equal : Bool) → ℤ
told same equal = cond (cond equal same (not same)) (pos 1) (pos 0)

abbrev pub same_into : Setting → Types → Function → ℕ → Location → Location → Bool → State → Effect
same_into s types f r a b equal st = on_got (compared s types f (location_parts types f a) a b st) (λ same. Next (put_cell r (Number (told same equal)) st))

-- ---- values that own

-- a fresh value is written where another one ends
abbrev pub replaced : Parts → Spot → Words → Content
replaced parts spot v = wrote_spot spot v.0 (ended parts (spot_words v.1 spot (width parts)) v.1)

abbrev pub copied_to : Setting → Parts → Spot → List ℕ → State → Effect
copied_to s parts spot ws st = on_got (copied s parts ws st.world.content) (λ v. Next (put_content (replaced parts spot v) st))

abbrev pub copies : Setting → Types → Function → Operand → Operand → State → Effect
copies s types f to from st =
    on_spot types f to st (λ spot.
    on_place (locate types f from st)
    (λ n i object. copied_to s (operand_parts types f to) spot (words_at st.world.content n i (operand_word types f from st) (width (operand_parts types f to))) st)
    (λ c. on_character s.texts c (λ z. copied_to s (operand_parts types f to) spot (word_of_number z ∷ []) st)))

-- a unique_ptr may be null where it is taken
abbrev pub giving : Parts → Option ℕ → Attempt (Option ℕ)
giving (Unique ty target) owned = Got owned
giving _ None = GotFault fault.Moved
giving _ (Some n) = Got (Some n)

abbrev pub moved_to : Parts → Spot → (from : ℕ) → Words → Content
moved_to parts spot m v = replaced parts spot (v.0, wrote m 0 0 (owner_word None ∷ []) v.1)

abbrev pub moves_from : Parts → Spot → Option Cell → State → Effect
moves_from parts spot (Some (Named m)) st =
    on_got (giving parts (owned_in (slice_index (slot_words st.world.content m 0) 0)))
    (λ owned. Next (put_content (moved_to parts spot m (taken parts (owner_word owned ∷ []) st.world.content)) st))
moves_from parts spot _ st = Strays

abbrev pub moves : Types → Function → Operand → ℕ → State → Effect
moves types f to y st = on_spot types f to st (λ spot. moves_from (local_parts types f y) spot (cell st y) st)

-- what a unique_ptr had ends, and it has another object
abbrev pub remade : Parts → Spot → ℕ × Content → State → State
remade parts spot b st = put_content (replaced parts spot (owner_word (Some b.0) ∷ [], b.1)) st

abbrev pub made_of : Setting → Types → Function → Parts → Spot → ℕ → Option Cell → State → Effect
made_of s types f (Unique ty target) spot x (Some (Number z)) st =
    on_got (object_with s ty target (λ c. Got (word_of_number z ∷ [], c)) st.world.content) (λ b. Next (remade (Unique ty target) spot b st))
made_of s types f (Unique ty target) spot x (Some (Named m)) st =
    on_got (object_with s ty target (λ c. Got (consumed (local_parts types f x) m c)) st.world.content) (λ b. Next (put_cell x Empty (remade (Unique ty target) spot b st)))
made_of s types f _ spot x _ st = Strays

abbrev pub made_fresh : Setting → Parts → Spot → State → Effect
made_fresh s (Unique ty target) spot st = on_got (object_with s ty target (fresh s form.Zero target) st.world.content) (λ b. Next (remade (Unique ty target) spot b st))
made_fresh s _ spot st = Strays

abbrev pub makes : Setting → Types → Function → Location → Made → State → Effect
makes s types f u made.Null st = on_location types f u st (λ spot. Next (put_content (replaced (location_parts types f u) spot (owner_word None ∷ [], st.world.content)) st))
makes s types f u made.Zero st = on_location types f u st (λ spot. made_fresh s (location_parts types f u) spot st)
makes s types f u (made.Of x) st = on_location types f u st (λ spot. made_of s types f (location_parts types f u) spot x (cell st x) st)

-- ---- changes

abbrev pub edits : Setting → Parts → Spot → Edit → State → Effect
edits s parts spot edit st = on_got (buffer_of st.world.content spot) (λ b. on_got (edited s parts spot b edit st.world.content) (λ c. Next (put_content c st)))

-- a value is added, or a temporary that gives its value over
abbrev pub pushes : Setting → Types → Function → Parts → Spot → ℕ → Option Cell → State → Effect
pushes s types f parts spot x (Some (Number z)) st = edits s parts spot (Push (λ c. (word_of_number z ∷ [], c))) st
pushes s types f parts spot x (Some (Named m)) st = on_next (edits s parts spot (Push (consumed (local_parts types f x) m)) st) (λ after. Next (put_cell x Empty after))
pushes s types f parts spot x _ st = Strays

abbrev pub erases : Types → Function → Parts → Spot → Pointer → Location → State → Effect
erases types f (Vector ty parts) spot v into st =
    on_got (buffer_of st.world.content spot) (λ b. on_got (erasable st.world.content b v) (λ i.
    pointed types f into (pointer_to (erased parts b i st.world.content) b i 0) (put_content (erased parts b i st.world.content) st)))
erases types f _ spot v into st = Strays

-- the characters that a string is given
abbrev pub on_given : Setting → Types → Function → source.Characters → State → (List ℕ → Effect) → Effect
on_given s types f (source.View l) st go = on_got (used st.world.content (location_cell types f l st)) (λ v. go (seen_words s.texts st.world.content v))
on_given s types f (source.Single r) st go = on_number (cell st r) (λ z. go (word_of_number z ∷ []))

abbrev pub changed : Setting → Types → Function → Parts → Spot → Change → State → Effect
changed s types f parts spot (PushBack x) st = pushes s types f parts spot x (cell st x) st
changed s types f parts spot PopBack st = edits s parts spot Pop st
changed s types f parts spot Clear st = edits s parts spot ClearAll st
changed s types f parts spot (Reserve r) st = on_number (cell st r) (λ z. edits s parts spot (Room (cast_unsigned w64 z)) st)
changed s types f parts spot (Erase from into) st = on_got (iterator st.world.content (location_cell types f from st)) (λ v. erases types f parts spot v into st)
changed s types f parts spot (Set given) st = on_given s types f given st (λ ws. edits s parts spot (Put ws) st)
changed s types f parts spot (Append given) st = on_given s types f given st (λ ws. edits s parts spot (Add ws) st)

abbrev pub changes : Setting → Types → Function → Operand → Change → State → Effect
changes s types f o change st = on_spot types f o st (λ spot. changed s types f (operand_parts types f o) spot change st)

-- ---- what goes out and comes in

abbrev pub with_output : List ℕ → State → State
with_output text st = record st { world = record (st.world) { output = st.world.output ++ text } }

-- a bool is written as 0 or 1, a char as its byte, a size_t without a sign, and any other number in decimal
abbrev pub number_text : Option Ty → ℤ → List ℕ
number_text (Some variant.Char) z = byte_of z ∷ []
number_text (Some variant.Size) z = decimal (cast_unsigned w64 z)
number_text _ z = signed_decimal z

abbrev pub on_view : Setting → Content → Option Cell → (List ℕ → Effect) → Effect
on_view s c v go = on_got (used c v) (λ p. go (seen_bytes s.texts c p))

-- the next number of the input, as a long modulo 2^64
abbrev pub as_long : ℤ → ℤ
as_long z = cast_signed w64 (cast_unsigned w64 z)

abbrev pub input_taken : ℕ → List ℤ → State → Effect
input_taken r [] st = Traps trap.InputEnd
input_taken r (z ∷ zs) st = Next (put_cell r (Number (as_long z)) (record st { world = record (st.world) { input = zs } }))

abbrev pub port : Setting → Types → Function → Port → State → Effect
port s types f (Writes r) st = on_number (cell st r) (λ z. Next (with_output (number_text (type_of types f r) z) st))
port s types f (WritesView l) st = on_view s st.world.content (location_cell types f l st) (λ text. Next (with_output text st))
port s types f (Takes r) st = input_taken r st.world.input st

-- ---- the instructions

-- a call is no instruction of one frame
abbrev pub does : Setting → Types → Function → Step → State → Effect
does s types f (Live x form) st = live_local s types f (slice_get f.locals x) form x st
does s types f (End xs) st = end_locals types f xs st
does s types f (Eval r operation) st = evaluated types f r operation st
does s types f (Load r o) st = loaded s types f r o st
does s types f (Save o r) st = on_number (cell st r) (λ z. on_found (locate types f o st) (λ n i object. Next (saved z n i (operand_word types f o st) object st)))
does s types f (Copy to from) st = copies s types f to from st
does s types f (Move to y) st = moves types f to y st
does s types f (Aim p s') st = aimed s types f p s' st
does s types f (Repoint p q) st = on_pointer (location_cell types f q st) (λ v. pointed types f p v st)
does s types f (Element p base w) st = element types f p base w st
does s types f (Cursor p base end) st = cursor types f p base end st
does s types f (Advance p q r way) st = advanced s types f p q r way st
does s types f (Cut p q r count) st = cut types f p q r count st
does s types f (Size r base) st = sized types f r base st
does s types f (Same r a b equal) st = same_into s types f r a b equal st
does s types f (Changes o change) st = changes s types f o change st
does s types f (Make u m) st = makes s types f u m st
does s types f (Call target g xs) st = Strays
does s types f (Ports p) st = port s types f p st
