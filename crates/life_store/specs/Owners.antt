-- Values that own: how they come to life, end, are copied and are taken.
use Rattle.std.specs.Prelude.{ℕ, ◌+◌, ◌*◌, cond, nat_lt, List, [], ◌∷◌, ◌++◌, Option, Some, None, drop, length, slice_index, take}
use Rattle.life_types.specs.declared.ty.TyId.{TyId}
use Rattle.life_core.specs.declared.instr.Form.{Form}
use Rattle.life_core.specs.declared.instr.Form.TheVariants as form
use Rattle.life_store.specs.Cells.{at}
use Rattle.life_store.specs.Content.{Slot, Object, Content, live_words_of, with_birth, with_rename, without}
use Rattle.life_store.specs.Effects.{Setting, Attempt, Got, GotTrap, GotFault, GotLost, then_get}
use Rattle.life_store.specs.Held.{filled, owned_in, owner_word, pointer_words, resized_at, slots_at, slot_words, wrote}
use Rattle.life_store.specs.Parts.{Parts, Single, Raw, Iterates, Views, Text, Vector, Unique, Member, NoMember, width}
use Rattle.life_store.specs.State.{Pointer, Null, Wild, Static}
use Rattle.life_store.specs.declared.run.FaultKind.TheVariants as fault
use Rattle.life_store.specs.declared.run.TrapKind.TheVariants as trap

-- the words of a value, and the content then
abbrev pub Words : Type 0
Words = List ℕ × Content

-- ---- births

-- an object of the type, of so many slots, has the next number
abbrev pub birth : Setting → TyId → (width capacity : ℕ) → Content → Attempt (ℕ × Content)
birth s ty w capacity c = cond (nat_lt s.given.cells (live_words_of c + (2 + w * capacity))) (GotTrap trap.Cells) (Got (c.births, with_birth ty w capacity c))

-- .. and all its slots, which are stamped
abbrev pub sized_birth : Setting → TyId → (width size : ℕ) → Content → Attempt (ℕ × Content)
sized_birth s ty w size c = then_get (birth s ty w size c) (λ b. Got (b.0, resized_at b.0 size 0 b.1))

-- the words of what was born and is owned
abbrev pub owning : ℕ × Content → Words
owning b = (owner_word (Some b.0) ∷ [], b.1)

-- one value behind another
abbrev pub joined : Attempt Words → (Content → Attempt Words) → Attempt Words
joined first others = then_get first (λ a. then_get (others a.1) (λ b. Got (a.0 ++ b.0, b.1)))

abbrev pub born_pointer : Form → Pointer
born_pointer form.Plain = Wild
born_pointer form.Zero = Null

abbrev pub empty_view : Pointer
empty_view = Static (record { text = None; index = 0; count = 0 })

-- a value as it comes to life: a vector and a string have a buffer without room, of the type of what it will hold
abbrev pub fresh : Setting → Form → Parts → Content → Attempt Words
fresh s form Single c = Got (0 ∷ [], c)
fresh s form Raw c = Got (pointer_words (born_pointer form), c)
fresh s form Iterates c = Got (pointer_words Wild, c)
fresh s form Views c = Got (pointer_words empty_view, c)
fresh s form (Text ty) c = then_get (birth s ty 1 0 c) (λ b. Got (owning b))
fresh s form (Vector ty element) c = then_get (birth s ty (width element) 0 c) (λ b. Got (owning b))
fresh s form (Unique ty target) c = Got (owner_word None ∷ [], c)
fresh s form (Member first others) c = joined (fresh s form first c) (fresh s form others)
fresh s form NoMember c = Got ([], c)

-- an object of one slot, with what gives its value
abbrev pub object_with : Setting → TyId → Parts → (Content → Attempt Words) → Content → Attempt (ℕ × Content)
object_with s ty parts value c = then_get (sized_birth s ty (width parts) 1 c) (λ b. then_get (value b.1) (λ v. Got (b.0, wrote b.0 0 0 v.0 v.1)))

-- ---- ends

-- what stands in the slots ends, and then what is owned
abbrev pub ended_slots : (List ℕ → Content → Content) → List Slot → Content → Content
ended_slots end [] c = c
ended_slots end (s ∷ ss) c = ended_slots end ss (end s.words c)

abbrev pub ended_owned : (List ℕ → Content → Content) → Option ℕ → Content → Content
ended_owned end None c = c
ended_owned end (Some n) c = without n (ended_slots end (slots_at c n) c)

-- what a value owns ends, and all beneath it
abbrev pub ended : Parts → List ℕ → Content → Content
ended Single ws c = c
ended Raw ws c = c
ended Iterates ws c = c
ended Views ws c = c
ended (Text ty) ws c = ended_owned (λ vs d. d) (owned_in (slice_index ws 0)) c
ended (Vector ty element) ws c = ended_owned (ended element) (owned_in (slice_index ws 0)) c
ended (Unique ty target) ws c = ended_owned (ended target) (owned_in (slice_index ws 0)) c
ended (Member first others) ws c = ended others (drop (width first) ws) (ended first (take (width first) ws) c)
ended NoMember ws c = c

-- an object of one slot ends with what it owns
abbrev pub ended_object : Parts → ℕ → Content → Content
ended_object parts n c = without n (ended parts (slot_words c n 0) c)

-- ---- copies

abbrev pub copied_slots : (List ℕ → Content → Attempt Words) → List Slot → Content → Attempt (List (List ℕ) × Content)
copied_slots copy [] c = Got ([], c)
copied_slots copy (s ∷ ss) c = then_get (copy s.words c) (λ v. then_get (copied_slots copy ss v.1) (λ vs. Got (v.0 ∷ vs.0, vs.1)))

-- a fresh buffer has room for what there is
abbrev pub copied_buffer : Setting → TyId → (width : ℕ) → (List ℕ → Content → Attempt Words) → Option ℕ → Content → Attempt Words
copied_buffer s ty w copy None c = GotFault fault.Moved
copied_buffer s ty w copy (Some n) c =
    then_get (sized_birth s ty w (length (slots_at c n)) c) (λ b. then_get (copied_slots copy (slots_at c n) b.1) (λ vs. Got (owning (b.0, filled b.0 vs.0 vs.1))))

-- no copy is of a unique_ptr, or of what holds one
abbrev pub copied : Setting → Parts → List ℕ → Content → Attempt Words
copied s Single ws c = Got (ws, c)
copied s Raw ws c = Got (ws, c)
copied s Iterates ws c = Got (ws, c)
copied s Views ws c = Got (ws, c)
copied s (Text ty) ws c = copied_buffer s ty 1 (λ vs d. Got (vs, d)) (owned_in (slice_index ws 0)) c
copied s (Vector ty element) ws c = copied_buffer s ty (width element) (copied s element) (owned_in (slice_index ws 0)) c
copied s (Unique ty target) ws c = GotLost
copied s (Member first others) ws c = joined (copied s first (take (width first) ws) c) (copied s others (drop (width first) ws))
copied s NoMember ws c = Got ([], c)

-- ---- values that are taken

-- what points to characters of a string doesn't go with them (ISO/IEC 14882:2017 [string.require] 4): they get another buffer's number
abbrev pub renamed_if : Option Object → ℕ → Content → Words
renamed_if None n c = (owner_word (Some n) ∷ [], c)
renamed_if (Some o) n c = (owner_word (Some c.births) ∷ [], with_rename n o c)

abbrev pub renamed : Option ℕ → Content → Words
renamed None c = (owner_word None ∷ [], c)
renamed (Some n) c = renamed_if (at c.objects n) n c

abbrev pub behind_first : Words → (Content → Words) → Words
behind_first a others = (a.0 ++ (others a.1).0, (others a.1).1)

-- what a value is where it is taken from one place to another: a vector's buffer and a unique_ptr's target stay
abbrev pub taken : Parts → List ℕ → Content → Words
taken (Text ty) ws c = renamed (owned_in (slice_index ws 0)) c
taken (Member first others) ws c = behind_first (taken first (take (width first) ws) c) (taken others (drop (width first) ws))
taken _ ws c = (ws, c)

abbrev pub one_before : List ℕ → (List (List ℕ) × Content) → List (List ℕ) × Content
one_before v vs = (v ∷ vs.0, vs.1)

-- .. of the slots, from the first on
abbrev pub taken_slots : Parts → List Slot → Content → List (List ℕ) × Content
taken_slots parts [] c = ([], c)
taken_slots parts (s ∷ ss) c = one_before (taken parts s.words c).0 (taken_slots parts ss (taken parts s.words c).1)

-- an object of one slot gives its value over, and is no more
abbrev pub consumed : Parts → ℕ → Content → Words
consumed parts n c = ((taken parts (slot_words c n 0) c).0, without n (taken parts (slot_words c n 0) c).1)
