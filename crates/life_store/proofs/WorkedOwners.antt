-- What instructions on owners do, worked out by hand: Live, End, Move and Make; of Copy and Change their parts.
use Rattle.std.proofs.Common.{◌≡◌, ◌∙◌, ℕ, true, false, arith, List, [], ◌∷◌, Option, Some, None, refl}
use Rattle.std.specs.Prelude.{ℤ, pos}
use Rattle.life_types.specs.Types.{Types}
use Rattle.life_core.specs.Function.{Function}
use Rattle.life_core.specs.Operands.{Location, object_named, whole}
use Rattle.life_core.specs.Step.{Live, End, Move, Make}
use Rattle.life_core.specs.declared.instr.Form.TheVariants as form
use Rattle.life_core.specs.declared.instr.Made.TheVariants as made
use Rattle.life_store.specs.Cells.{at, at-set_other, at-unset_other, at-unset_same}
use Rattle.life_store.specs.Content.{Object, Content, live_words_of, resized, is_settled, are_settled, with_birth, with_object, with_rename, without}
use Rattle.life_store.specs.Doing.{Effect, Next, Traps, Faults, Got, GotFault, Wrong, Spot, behind_pointer, does, giving, on_character, remade, target_at, wrote_spot}
use Rattle.life_store.specs.Edits.{grown}
use Rattle.life_store.specs.Effects.{got_or}
use Rattle.life_store.specs.Held.{filled_slots, owned_in, owner_word, pointer_in, pointer_words, resized_at, wrote}
use Rattle.life_store.specs.Owners.{taken}
use Rattle.life_store.specs.Parts.{Single, Raw, Text, Vector, Unique, Member, NoMember, parts_at, target_type, type_within, width, word_within}
use Rattle.life_store.specs.State.{Pointer, Null, Wild, To, Static, Cell, Empty, Named, Number, Points, State}
use Rattle.life_store.specs.declared.run.FaultKind.TheVariants as fault
use Rattle.life_store.specs.declared.run.Growth.TheVariants as growth
use Rattle.life_store.specs.declared.run.TrapKind.TheVariants as trap
use Rattle.life_store.proofs.Worked.{id, object, register, single, state, table, three, with_locals, within}

-- ---- types: struct S of the table, and its unique_ptr's struct S'

-- an owner has the type of what it owns, and a string that of characters, which the table doesn't have
struct_parts : parts_at table (id 6) ≡ Member Single (Member (Vector (id 0) Single) (Member Raw (Member (Unique (id 4) (Member (Text (id 12)) NoMember)) NoMember)))
struct_parts = refl

struct_width : width (parts_at table (id 6)) ≡ 8
struct_width = refl

-- s.p begins at the third word and is an int*, s.u is behind it
member_words : word_within table (Some (id 6)) (2 ∷ []) ≡ 2
member_words = refl

last_member : word_within table (Some (id 6)) (3 ∷ []) ≡ 7
last_member = refl

member_type : target_type table (type_within table (Some (id 6)) (2 ∷ [])) ≡ Some (id 0)
member_type = refl

-- ---- what is written is read back

pointer_back : (p : Pointer) → pointer_in (pointer_words p) ≡ p
pointer_back Null = refl
pointer_back Wild = refl
pointer_back (To t) = refl
pointer_back (Static c) = text_back c.text c.index c.count
  where
    text_back : (text : Option ℕ) (index count : ℕ) → pointer_in (pointer_words (Static (record { text = text; index = index; count = count }))) ≡ Static (record { text = text; index = index; count = count })
    text_back None index count = refl
    text_back (Some n) index count = refl

owner_back : (o : Option ℕ) → owned_in (owner_word o) ≡ o
owner_back None = refl
owner_back (Some n) = refl

-- ---- a buffer with room for four, of three elements that stand since the moment 5

-- a push_back at the clock 6 stamps the new slot and the end: what pointed to an element stays, and what was the end is no more
abbrev four : Object
four = resized 7 4 3 three

pushed_keeps : is_settled four 0 6 ≡ true
pushed_keeps = refl

pushed_ends : is_settled four 3 6 ≡ false
pushed_ends = refl

pushed_new : is_settled four 4 7 ≡ true
pushed_new = refl

-- an erase of the second stamps from there on, and not only there
abbrev two : Object
two = resized 7 2 1 (record three { slots = filled_slots three.slots ((1 ∷ []) ∷ (3 ∷ []) ∷ []) })

erased_first : is_settled two 0 6 ≡ true
erased_first = refl

erased_later : (is_settled two 1 6 ≡ false) × (is_settled two 2 6 ≡ false)
erased_later = (refl, refl)

erased_left : two.slots ≡ record { words = 1 ∷ []; stamp = 5 } ∷ record { words = 3 ∷ []; stamp = 7 } ∷ []
erased_left = refl

-- a span of the first two is valid behind the push_back, and not behind the erase
span_kept : (are_settled four 0 2 6 ≡ true) × (are_settled two 0 2 6 ≡ false)
span_kept = (refl, refl)

-- ---- growth: a full buffer goes on as another one

policies : (grown growth.Always 3 3 ≡ 4) × (grown growth.Double 0 0 ≡ 1) × (grown growth.Double 3 3 ≡ 6)
policies = (refl, refl, refl)

-- .. so what points into it dangles, whatever its moment
gone : (c : Content) (b index word count moment : ℕ)
    → behind_pointer (without b c) (To (record { object = b; index = index; word = word; count = count; moment = moment })) ≡ Wrong fault.Dangling
gone c b index word count moment = dangles (without b c) b index word count moment (at-unset_same c.objects b b refl)
  where
    dangles : (d : Content) (b index word count moment : ℕ) → at d.objects b ≡ None → behind_pointer d (To (record { object = b; index = index; word = word; count = count; moment = moment })) ≡ Wrong fault.Dangling
    dangles d b index word count moment none = rw none refl

-- ---- a moved-from owner has no buffer

moved_from : got_or (owned_in 0) (GotFault fault.Moved) ≡ GotFault fault.Moved
moved_from = refl

-- it may not be moved again; a unique_ptr may, being null then, and what it owns is null
moved_again : (giving (Text (id 12)) None ≡ GotFault fault.Moved) × (giving (Unique (id 4) Single) None ≡ Got None)
moved_again = (refl, refl)

no_target : (types : Types) (f : Function) (p : Location) (st : State) → target_at types f p None st ≡ Faults fault.Null
no_target types f p st = refl

-- a text's last character is there, and the one behind it isn't
characters : (texts : List (List ℕ)) (go : ℤ → Effect) → (on_character ((97 ∷ 98 ∷ []) ∷ texts) (record { text = Some 0; index = 1; count = 1 }) go ≡ go (pos 98))
    × (on_character ((97 ∷ 98 ∷ []) ∷ texts) (record { text = Some 0; index = 2; count = 1 }) go ≡ Traps trap.Bounds)
characters texts go = (refl, refl)

-- ---- what the instructions do

-- two vectors, a unique_ptr of int, a string, an int as a register, and two iterators
abbrev f : Function
f = with_locals (object 1 ∷ object 1 ∷ object 11 ∷ object 3 ∷ register 0 ∷ register 7 ∷ register 7 ∷ [])

abbrev cells : (first second pointer string : Cell) → (number : ℤ) → (at into : Pointer) → List Cell
cells v w u s z i j = v ∷ w ∷ u ∷ s ∷ Number z ∷ Points i ∷ Points j ∷ []

-- .. where only the vectors matter, or only another owner
abbrev with_vectors : (first second : Cell) → (number : ℤ) → List Cell
with_vectors v w z = cells v w Empty Empty z Wild Wild

abbrev with_pointer : Cell → List Cell
with_pointer u = cells Empty Empty u Empty (pos 9) Wild Wild

abbrev with_string : Cell → List Cell
with_string s = cells Empty Empty Empty s (pos 9) Wild Wild

-- the first word of an object
abbrev first_of : ℕ → Spot
first_of n = record { object = n; index = 0; word = 0 }

-- ---- Live, End: a vector is born with a buffer of no room, which has the type of the elements, and ends with what it has

abbrev newly : Content → Content
newly c = resized_at c.births 1 0 (with_birth (id 1) 1 1 c)

born : (c : Content) → live_words_of c ≡ 7 → live_words_of (newly c) ≡ 10 → does (within 12) table f (Live 0 form.Plain) (state c (with_vectors Empty Empty (pos 0)))
    ≡ Next (state (wrote c.births 0 0 (owner_word (Some (newly c).births) ∷ []) (with_birth (id 0) 1 0 (newly c))) (with_vectors (Named c.births) Empty (pos 0)))
born c first second = rw (first, second) refl

no_room : (c : Content) → live_words_of c ≡ 7 → live_words_of (newly c) ≡ 10 → does (within 11) table f (Live 0 form.Plain) (state c (with_vectors Empty Empty (pos 0))) ≡ Traps trap.Cells
no_room c first second = rw (first, second) refl

ended : (c : Content) → at c.objects 1 ≡ Some (single 1 4) → at c.objects 3 ≡ Some three → does (within 9) table f (End (0 ∷ [])) (state c (with_vectors (Named 1) Empty (pos 0)))
    ≡ Next (state (without 1 (without 3 c)) (with_vectors Empty Empty (pos 0)))
ended c owner held = rw (owner, held) refl

-- ---- Move: the buffer of the one goes to the other, and what that had ends

moved : (c : Content) → at c.objects 1 ≡ Some (single 1 4) → at c.objects 2 ≡ Some (single 1 5) → at c.objects 3 ≡ Some three → does (within 9) table f (Move (object_named 0) 1) (state c (with_vectors (Named 1) (Named 2) (pos 0)))
    ≡ Next (state (with_object 1 (single 1 5) (without 3 (with_object 2 (single 1 0) c))) (with_vectors (Named 1) (Named 2) (pos 0)))
moved c to from held =
    let other : at (with_object 2 (single 1 0) c).objects 1 ≡ Some (single 1 4) = at-set_other c.objects 2 1 (single 1 0) (λ e. omega (arith, e)) ∙ to in
    let old : at (with_object 2 (single 1 0) c).objects 3 ≡ Some three = at-set_other c.objects 2 3 (single 1 0) (λ e. omega (arith, e)) ∙ held in
    let left : at (without 3 (with_object 2 (single 1 0) c)).objects 1 ≡ Some (single 1 4) = at-unset_other (with_object 2 (single 1 0) c).objects 3 1 (λ e. omega (arith, e)) ∙ other in
    rw (to, from, other, old, left) refl

-- a string's buffer has another number then, so what pointed to its characters dangles
string_taken : (c : Content) → at c.objects 3 ≡ Some three → taken (Text (id 12)) (owner_word (Some 3) ∷ []) c ≡ (owner_word (Some c.births) ∷ [], with_rename 3 three c)
string_taken c held = rw held refl

-- ---- Make

made_null : (c : Content) → at c.objects 1 ≡ Some (single 11 4) → at c.objects 3 ≡ Some (single 0 7) → does (within 9) table f (Make (whole 2) made.Null) (state c (with_pointer (Named 1)))
    ≡ Next (state (wrote_spot (first_of 1) (owner_word None ∷ []) (without 3 c)) (with_pointer (Named 1)))
made_null c owner held = rw (owner, held) refl

-- the new target, an int, is there before the old one ends
made_of : (c : Content) → live_words_of c ≡ 7 → does (within 10) table f (Make (whole 2) (made.Of 4)) (state c (with_pointer (Named 1)))
    ≡ Next (remade (Unique (id 0) Single) (first_of 1) (c.births, wrote c.births 0 0 (9 ∷ []) (resized_at c.births 1 0 (with_birth (id 0) 1 1 c))) (state c (with_pointer (Named 1))))
made_of c full = rw full refl
