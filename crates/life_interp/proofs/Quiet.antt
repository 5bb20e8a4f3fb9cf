-- No instruction takes back what was written, of whatever kind it is; nor does what is given or comes back.
use Rattle.std.proofs.Common.{◌≡◌, ℕ, ◌+◌, ◌*◌, List, [], ◌∷◌, ◌++◌, Option, Some, None, Ok, Err, Bool, true, false, cond, refl, sym, ap, ◌∙◌, append-nil, append_assoc}
use Rattle.std.specs.Prelude.{ℤ, pos, nat_lt, slice_get, slice_index, take}
use Rattle.life_types.specs.Types.{Types, is_slot_at}
use Rattle.life_types.specs.declared.ty.TyId.{TyId}
use Rattle.life_core.specs.declared.instr.Form.{Form}
use Rattle.life_core.specs.declared.instr.Form.TheVariants as form
use Rattle.life_core.specs.declared.instr.Made.{Made}
use Rattle.life_core.specs.declared.instr.Made.TheVariants as made
use Rattle.life_core.specs.declared.operand.Which.{Which}
use Rattle.life_core.specs.declared.operand.Which.TheVariants as which
use Rattle.life_core.specs.declared.operation.Operation.{Operation}
use Rattle.life_core.specs.declared.operation.Operation.TheVariants as operation
use Rattle.life_core.specs.Operands.{Argument, Base, Location, Source, Value, GivenOver, PointerOf, Slot}
use Rattle.life_core.specs.Operands as source
use Rattle.life_core.specs.declared.program.Local.{Local}
use Rattle.life_core.specs.Function.{Function}
use Rattle.life_core.specs.Holdings.{Holding, Blank, AnObject, ANumber, APointer, AView, sort_of}
use Rattle.life_core.specs.Step.{Change, PushBack, PopBack, Clear, Reserve, Erase, Set, Append, Step, Live, End, Eval, Load, Save, Copy, Move, Aim, Repoint, Element, Cursor, Advance, Cut, Size, Same, Changes, Make, Call, Port, Ports, Writes, WritesView, Takes}
use Rattle.life_store.specs.Births.{born_owner, live_of}
use Rattle.life_store.specs.Calls.{born_with, given, given_if, given_to, lent, number_given, parameters_given, result_given, slot_born, slot_lent, slot_returned, slots_returned, spot_lent, taken_back, target_given}
use Rattle.life_store.specs.Cells.{at}
use Rattle.life_store.specs.Content.{Object, live_words_of, without}
use Rattle.life_store.specs.Doing.{Setting, Effect, Next, Traps, Faults, Strays, Attempt, Got, GotTrap, GotFault, GotLost, Found, Here, Fixed, Outside, Wrong, Astray, Spot, aimed, born_object, cell, changed, compared, computed_into, copied_to, does, edits, element, element_at, end_cell, end_locals, end_object, erases, evaluated, found_at, giving, input_taken, live_as, live_local, live_over, locate, made_fresh, made_of, makes, member_pointed, moved_to, moves_from, number_text, on_character, on_found, on_given, on_got, on_next, on_number, on_place, on_pointer, operand_word, owner_element, pointed, pointer_to, port, pushes, remade, replaced, told, put_cell, put_content, target_at, type_of, with_output, with_value_object, word_of_number, count_in, type_if}
use Rattle.life_store.specs.Edits.{Edit, buffer_of, edited, erased, size_of}
use Rattle.life_store.specs.Numbers.{Computed, negated, truth, is_zero, combined}
use Rattle.life_store.specs.Parts.{Parts, Single, Raw, Iterates, Views, Text, Vector, Unique, Member, NoMember, local_parts, location_parts, operand_parts, parts_at, variable_type, width, location_type}
use Rattle.life_store.specs.Places.{owner_spot_if, location_cell, wrote_spot}
use Rattle.life_store.specs.Held.{owned_in, owner_word, slot_words, words_at}
use Rattle.life_store.specs.Iterators.{at_index, erasable, index_in}
use Rattle.life_store.specs.Owners.{consumed, copied, fresh, object_with, taken}
use Rattle.life_store.specs.State.{Characters, Pointer, Static, Cell, Empty, Named, Number, Points, State}
use Rattle.life_store.specs.Views.{seen_bytes, seen_count, text_size, used, is_span, part_count, part_of}
use Rattle.life_store.specs.declared.run.TrapKind.TheVariants as trap

-- the text begins so
abbrev pub Begins : List ℕ → List ℕ → Type 0
Begins front text = (more : List ℕ) × (text ≡ front ++ more)

pub begins_itself : (text : List ℕ) → Begins text text
begins_itself text = ([], sym (append-nil text))

pub begins_on : (a b c : List ℕ) → Begins a b → Begins b c → Begins a c
begins_on a b c h k = (h.0 ++ k.0, k.1 ∙ ap (λ x. x ++ k.0) h.1 ∙ append_assoc a h.0 k.0)

-- an effect that doesn't take back what was written
abbrev pub EffectBegins : List ℕ → Effect → Type 0
EffectBegins front (Next st) = Begins front st.world.output
EffectBegins front (Traps kind) = Unit {0}
EffectBegins front (Faults kind) = Unit {0}
EffectBegins front Strays = Unit {0}

-- ---- ways of going on

got_begins : {A : Type 0} (front : List ℕ) (a : Attempt A) (go : A → Effect) → ((v : A) → EffectBegins front (go v)) → EffectBegins front (on_got a go)
got_begins front (Got v) go h = h v
got_begins front (GotTrap kind) go h = tt
got_begins front (GotFault kind) go h = tt
got_begins front GotLost go h = tt

if_begins : (front : List ℕ) (b : Bool) (x y : Effect) → EffectBegins front x → EffectBegins front y → EffectBegins front (cond b x y)
if_begins front true x y p q = p
if_begins front false x y p q = q

next_begins : (front : List ℕ) (e : Effect) (go : State → Effect) → EffectBegins front e → ((st : State) → EffectBegins st.world.output (go st)) → EffectBegins front (on_next e go)
next_begins front (Next st) go h k = further (go st) (k st)
  where
    further : (e : Effect) → EffectBegins st.world.output e → EffectBegins front e
    further (Next st') q = begins_on front st.world.output st'.world.output h q
    further (Traps kind) q = tt
    further (Faults kind) q = tt
    further Strays q = tt
next_begins front (Traps kind) go h k = tt
next_begins front (Faults kind) go h k = tt
next_begins front Strays go h k = tt

character_begins : (front : List ℕ) (texts : List (List ℕ)) (c : Characters) (go : ℤ → Effect) → ((z : ℤ) → EffectBegins front (go z)) → EffectBegins front (on_character texts c go)
character_begins front texts c go h = inside (nat_lt c.index (text_size texts c)) _
  where
    inside : (b : Bool) (z : ℤ) → EffectBegins front (cond b (go z) (Traps trap.Bounds))
    inside true z = h z
    inside false z = tt

place_begins : (front : List ℕ) (x : Found) (go : ℕ → ℕ → Object → Effect) (fixed : Characters → Effect) → ((n i : ℕ) (o : Object) → EffectBegins front (go n i o)) → ((c : Characters) → EffectBegins front (fixed c)) → EffectBegins front (on_place x go fixed)
place_begins front (Here n i o) go fixed h k = h n i o
place_begins front (Fixed c) go fixed h k = k c
place_begins front Outside go fixed h k = tt
place_begins front (Wrong kind) go fixed h k = tt
place_begins front Astray go fixed h k = tt

found_begins : (front : List ℕ) (x : Found) (go : ℕ → ℕ → Object → Effect) → ((n i : ℕ) (o : Object) → EffectBegins front (go n i o)) → EffectBegins front (on_found x go)
found_begins front x go h = place_begins front x go (λ c. Strays) h (λ c. tt)

number_begins : (front : List ℕ) (x : Option Cell) (go : ℤ → Effect) → ((z : ℤ) → EffectBegins front (go z)) → EffectBegins front (on_number x go)
number_begins front None go h = tt
number_begins front (Some Empty) go h = tt
number_begins front (Some (Named n)) go h = tt
number_begins front (Some (Number z)) go h = h z
number_begins front (Some (Points p)) go h = tt

pointer_begins : (front : List ℕ) (x : Option Cell) (go : Pointer → Effect) → ((p : Pointer) → EffectBegins front (go p)) → EffectBegins front (on_pointer x go)
pointer_begins front None go h = tt
pointer_begins front (Some Empty) go h = tt
pointer_begins front (Some (Named n)) go h = tt
pointer_begins front (Some (Number z)) go h = tt
pointer_begins front (Some (Points p)) go h = h p

member_begins : (types : Types) (f : Function) (x : ℕ) (ms : List ℕ) (v : Option Cell) (p : Pointer) (st : State) → EffectBegins st.world.output (member_pointed types f x ms v p st)
member_begins types f x [] v p st = begins_itself st.world.output
member_begins types f x (m ∷ ms) None p st = tt
member_begins types f x (m ∷ ms) (Some Empty) p st = tt
member_begins types f x (m ∷ ms) (Some (Named n)) p st = begins_itself st.world.output
member_begins types f x (m ∷ ms) (Some (Number z)) p st = tt
member_begins types f x (m ∷ ms) (Some (Points q)) p st = tt

-- a location is given a pointer
pointed_begins : (types : Types) (f : Function) (l : Location) (p : Pointer) (st : State) → EffectBegins st.world.output (pointed types f l p st)
pointed_begins types f l p st = member_begins types f l.local l.members (cell st l.local) p st

-- ---- births and ends

object_born_begins : (s : Setting) (ty : TyId) (x : ℕ) (st : State) → EffectBegins st.world.output (born_object s ty x st)
object_born_begins s ty x st =
    if_begins st.world.output (nat_lt s.given.cells (live_words_of st.world.content + (2 + 1 * 1))) (Traps trap.Cells)
    (Next (put_cell x (Named st.world.content.births) (put_content (with_value_object ty st.world.content) st))) tt (begins_itself st.world.output)

owner_born_begins : (s : Setting) (ty : TyId) (parts : Parts) (form : Form) (x : ℕ) (st : State) → EffectBegins st.world.output (born_owner s ty parts form x st)
owner_born_begins s ty parts form x st = got_begins st.world.output (object_with s ty parts (fresh s form parts) st.world.content) (λ b. Next (put_cell x (Named b.0) (put_content b.1 st))) (λ b. begins_itself st.world.output)

live_of_begins : (s : Setting) (ty : TyId) (parts : Parts) (form : Form) (x : ℕ) (st : State) → EffectBegins st.world.output (live_of s ty parts form x st)
live_of_begins s ty Single form x st = tt
live_of_begins s ty Raw form x st = tt
live_of_begins s ty Iterates form x st = begins_itself st.world.output
live_of_begins s ty Views form x st = begins_itself st.world.output
live_of_begins s ty (Text id) form x st = owner_born_begins s ty (Text id) form x st
live_of_begins s ty (Vector id element) form x st = owner_born_begins s ty (Vector id element) form x st
live_of_begins s ty (Unique id target) form x st = owner_born_begins s ty (Unique id target) form x st
live_of_begins s ty (Member first others) form x st = owner_born_begins s ty (Member first others) form x st
live_of_begins s ty NoMember form x st = tt

live_as_begins : (s : Setting) (types : Types) (h : Holding) (ty : TyId) (form : Form) (x : ℕ) (st : State) → EffectBegins st.world.output (live_as s types h ty form x st)
live_as_begins s types Blank ty form x st = live_of_begins s ty (parts_at types ty) form x st
live_as_begins s types AnObject ty form x st = object_born_begins s ty x st
live_as_begins s types ANumber ty form x st = tt
live_as_begins s types APointer ty form x st = begins_itself st.world.output
live_as_begins s types AView ty form x st = begins_itself st.world.output

live_over_begins : (s : Setting) (types : Types) (o : Option Cell) (h : Holding) (ty : TyId) (form : Form) (x : ℕ) (st : State) → EffectBegins st.world.output (live_over s types o h ty form x st)
live_over_begins s types None h ty form x st = tt
live_over_begins s types (Some Empty) h ty form x st = live_as_begins s types h ty form x st
live_over_begins s types (Some (Named n)) h ty form x st = tt
live_over_begins s types (Some (Number z)) h ty form x st = tt
live_over_begins s types (Some (Points p)) h ty form x st = tt

live_begins : (s : Setting) (types : Types) (f : Function) (l : Option Local) (form : Form) (x : ℕ) (st : State) → EffectBegins st.world.output (live_local s types f l form x st)
live_begins s types f None form x st = tt
live_begins s types f (Some l) form x st = live_over_begins s types (cell st x) (sort_of types f x) l.ty form x st

object_begins : (parts : Parts) (o : Option Object) (n x : ℕ) (st : State) → EffectBegins st.world.output (end_object parts o n x st)
object_begins parts None n x st = tt
object_begins parts (Some o) n x st = begins_itself st.world.output

cell_begins : (parts : Parts) (o : Option Cell) (x : ℕ) (st : State) → EffectBegins st.world.output (end_cell parts o x st)
cell_begins parts None x st = tt
cell_begins parts (Some Empty) x st = tt
cell_begins parts (Some (Named n)) x st = object_begins parts (at st.world.content.objects n) n x st
cell_begins parts (Some (Number z)) x st = tt
cell_begins parts (Some (Points p)) x st = begins_itself st.world.output

ends_begin : (types : Types) (f : Function) (xs : List ℕ) (st : State) → EffectBegins st.world.output (end_locals types f xs st)
ends_begin types f [] st = begins_itself st.world.output
ends_begin types f (x ∷ xs) st = next_begins st.world.output (end_cell (local_parts types f x) (cell st x) x st) (end_locals types f xs) (cell_begins (local_parts types f x) (cell st x) x st) (ends_begin types f xs)

-- ---- values and pointers

computed_begins : (r : ℕ) (computed : Computed) (st : State) → EffectBegins st.world.output (computed_into r computed st)
computed_begins r (Ok z) st = begins_itself st.world.output
computed_begins r (Err kind) st = tt

evaluated_begins : (types : Types) (f : Function) (r : ℕ) (o : Operation) (st : State) → EffectBegins st.world.output (evaluated types f r o st)
evaluated_begins types f r (operation.Number n) st = begins_itself st.world.output
evaluated_begins types f r (operation.Convert q) st = number_begins st.world.output (cell st q) _ (λ z. begins_itself st.world.output)
evaluated_begins types f r (operation.Negate q) st = number_begins st.world.output (cell st q) _ (λ z. computed_begins r (negated (type_of types f r) z) st)
evaluated_begins types f r (operation.IsZero q) st = number_begins st.world.output (cell st q) _ (λ z. computed_begins r (truth (is_zero z)) st)
evaluated_begins types f r (operation.Binary operator a b) st = number_begins st.world.output (cell st a) _ (λ x. number_begins st.world.output (cell st b) _ (λ y. computed_begins r (combined (type_of types f a) operator x y) st))

aimed_begins : (s : Setting) (types : Types) (f : Function) (p : Location) (x : Source) (st : State) → EffectBegins st.world.output (aimed s types f p x st)
aimed_begins s types f p source.Null st = pointed_begins types f p _ st
aimed_begins s types f p (source.Text n) st = pointed_begins types f p _ st
aimed_begins s types f p source.Empty st = pointed_begins types f p _ st
aimed_begins s types f p (source.Place o) st =
    place_begins st.world.output (locate types f o st) _ _ (λ n i object. pointed_begins types f p _ st) (λ c. character_begins st.world.output s.texts c (λ z. pointed types f p (at_index 0 c.index (Static c)) st) (λ z. pointed_begins types f p (at_index 0 c.index (Static c)) st))
aimed_begins s types f p (source.Whole o) st = found_begins st.world.output (locate types f o st) _ (λ n i object. got_begins st.world.output _ _ (λ b. pointed_begins types f p _ st))
aimed_begins s types f p (source.Get l) st = got_begins st.world.output _ _ (λ spot. pointed_begins types f p _ st)

element_at_begins : (types : Types) (f : Function) (p : Location) (w : Which) (size : ℕ) (base : Pointer) (st : State) → EffectBegins st.world.output (element_at types f p w size base st)
element_at_begins types f p w size base st = got_begins st.world.output _ _ (λ i. pointed_begins types f p _ st)

target_at_begins : (types : Types) (f : Function) (p : Location) (o : Option ℕ) (st : State) → EffectBegins st.world.output (target_at types f p o st)
target_at_begins types f p None st = tt
target_at_begins types f p (Some n) st = pointed_begins types f p _ st

owner_element_begins : (types : Types) (f : Function) (p : Location) (spot : Spot) (w : Which) (st : State) → EffectBegins st.world.output (owner_element types f p spot w st)
owner_element_begins types f p spot which.Target st = target_at_begins types f p _ st
owner_element_begins types f p spot w st =
    got_begins st.world.output (buffer_of st.world.content spot) (λ b. element_at types f p w (size_of st.world.content b) (pointer_to st.world.content b 0 0) st) (λ b. element_at_begins types f p w (size_of st.world.content b) (pointer_to st.world.content b 0 0) st)

element_begins : (types : Types) (f : Function) (p : Location) (base : Base) (w : Which) (st : State) → EffectBegins st.world.output (element types f p base w st)
element_begins types f p (source.Owner o) w st = found_begins st.world.output (locate types f o st) _ (λ n i object. owner_element_begins types f p _ w st)
element_begins types f p (source.Pointer l) w st = got_begins st.world.output _ _ (λ v. element_at_begins types f p w _ v st)

-- ---- values that own

moved_begins : (parts : Parts) (spot : Spot) (v : Option Cell) (st : State) → EffectBegins st.world.output (moves_from parts spot v st)
moved_begins parts spot None st = tt
moved_begins parts spot (Some Empty) st = tt
moved_begins parts spot (Some (Named m)) st =
    got_begins st.world.output (giving parts (owned_in (slice_index (slot_words st.world.content m 0) 0))) (λ owned. Next (put_content (moved_to parts spot m (taken parts (owner_word owned ∷ []) st.world.content)) st)) (λ owned. begins_itself st.world.output)
moved_begins parts spot (Some (Number z)) st = tt
moved_begins parts spot (Some (Points p)) st = tt

made_of_begins : (s : Setting) (types : Types) (f : Function) (parts : Parts) (spot : Spot) (x : ℕ) (v : Option Cell) (st : State) → EffectBegins st.world.output (made_of s types f parts spot x v st)
made_of_begins s types f (Unique ty target) spot x (Some (Number z)) st =
    got_begins st.world.output (object_with s ty target (λ c. Got (word_of_number z ∷ [], c)) st.world.content) (λ b. Next (remade (Unique ty target) spot b st)) (λ b. begins_itself st.world.output)
made_of_begins s types f (Unique ty target) spot x (Some (Named m)) st =
    got_begins st.world.output (object_with s ty target (λ c. Got (consumed (local_parts types f x) m c)) st.world.content) (λ b. Next (put_cell x Empty (remade (Unique ty target) spot b st))) (λ b. begins_itself st.world.output)
made_of_begins s types f _ spot x _ st = tt

made_fresh_begins : (s : Setting) (parts : Parts) (spot : Spot) (st : State) → EffectBegins st.world.output (made_fresh s parts spot st)
made_fresh_begins s (Unique ty target) spot st =
    got_begins st.world.output (object_with s ty target (fresh s form.Zero target) st.world.content) (λ b. Next (remade (Unique ty target) spot b st)) (λ b. begins_itself st.world.output)
made_fresh_begins s _ spot st = tt

makes_begins : (s : Setting) (types : Types) (f : Function) (u : Location) (m : Made) (st : State) → EffectBegins st.world.output (makes s types f u m st)
makes_begins s types f u made.Null st =
    got_begins st.world.output (owner_spot_if types f u (cell st u.local)) (λ spot. Next (put_content (replaced (location_parts types f u) spot (owner_word None ∷ [], st.world.content)) st)) (λ spot. begins_itself st.world.output)
makes_begins s types f u made.Zero st = got_begins st.world.output (owner_spot_if types f u (cell st u.local)) (λ spot. made_fresh s (location_parts types f u) spot st) (λ spot. made_fresh_begins s (location_parts types f u) spot st)
makes_begins s types f u (made.Of x) st =
    got_begins st.world.output (owner_spot_if types f u (cell st u.local)) (λ spot. made_of s types f (location_parts types f u) spot x (cell st x) st) (λ spot. made_of_begins s types f (location_parts types f u) spot x (cell st x) st)

copied_begins : (s : Setting) (parts : Parts) (spot : Spot) (ws : List ℕ) (st : State) → EffectBegins st.world.output (copied_to s parts spot ws st)
copied_begins s parts spot ws st = got_begins st.world.output (copied s parts ws st.world.content) (λ v. Next (put_content (replaced parts spot v) st)) (λ v. begins_itself st.world.output)

-- ---- changes

edits_begin : (s : Setting) (parts : Parts) (spot : Spot) (edit : Edit) (st : State) → EffectBegins st.world.output (edits s parts spot edit st)
edits_begin s parts spot edit st =
    got_begins st.world.output (buffer_of st.world.content spot) (λ b. on_got (edited s parts spot b edit st.world.content) (λ c. Next (put_content c st)))
    (λ b. got_begins st.world.output (edited s parts spot b edit st.world.content) (λ c. Next (put_content c st)) (λ c. begins_itself st.world.output))

pushes_begin : (s : Setting) (types : Types) (f : Function) (parts : Parts) (spot : Spot) (x : ℕ) (v : Option Cell) (st : State) → EffectBegins st.world.output (pushes s types f parts spot x v st)
pushes_begin s types f parts spot x None st = tt
pushes_begin s types f parts spot x (Some Empty) st = tt
pushes_begin s types f parts spot x (Some (Number z)) st = edits_begin s parts spot _ st
pushes_begin s types f parts spot x (Some (Named m)) st = next_begins st.world.output _ _ (edits_begin s parts spot _ st) (λ after. begins_itself after.world.output)
pushes_begin s types f parts spot x (Some (Points p)) st = tt

erases_begin : (types : Types) (f : Function) (parts : Parts) (spot : Spot) (v : Pointer) (into : Location) (st : State) → EffectBegins st.world.output (erases types f parts spot v into st)
erases_begin types f (Vector ty parts) spot v into st =
    got_begins st.world.output (buffer_of st.world.content spot)
    (λ b. on_got (erasable st.world.content b v) (λ i. pointed types f into (pointer_to (erased parts b i st.world.content) b i 0) (put_content (erased parts b i st.world.content) st)))
    (λ b. got_begins st.world.output (erasable st.world.content b v) (λ i. pointed types f into (pointer_to (erased parts b i st.world.content) b i 0) (put_content (erased parts b i st.world.content) st))
    (λ i. pointed_begins types f into (pointer_to (erased parts b i st.world.content) b i 0) (put_content (erased parts b i st.world.content) st)))
erases_begin types f _ spot v into st = tt

given_begins_with : (s : Setting) (types : Types) (f : Function) (g : source.Characters) (st : State) (go : List ℕ → Effect) → ((ws : List ℕ) → EffectBegins st.world.output (go ws)) → EffectBegins st.world.output (on_given s types f g st go)
given_begins_with s types f (source.View l) st go h = got_begins st.world.output _ _ (λ v. h _)
given_begins_with s types f (source.Single r) st go h = number_begins st.world.output (cell st r) _ (λ z. h _)

changed_begins : (s : Setting) (types : Types) (f : Function) (parts : Parts) (spot : Spot) (change : Change) (st : State) → EffectBegins st.world.output (changed s types f parts spot change st)
changed_begins s types f parts spot (PushBack x) st = pushes_begin s types f parts spot x (cell st x) st
changed_begins s types f parts spot PopBack st = edits_begin s parts spot _ st
changed_begins s types f parts spot Clear st = edits_begin s parts spot _ st
changed_begins s types f parts spot (Reserve r) st = number_begins st.world.output (cell st r) _ (λ z. edits_begin s parts spot _ st)
changed_begins s types f parts spot (Erase from into) st = got_begins st.world.output _ _ (λ v. erases_begin types f parts spot v into st)
changed_begins s types f parts spot (Set g) st = given_begins_with s types f g st _ (λ ws. edits_begin s parts spot _ st)
changed_begins s types f parts spot (Append g) st = given_begins_with s types f g st _ (λ ws. edits_begin s parts spot _ st)

-- ---- all kinds

taken_begins : (r : ℕ) (input : List ℤ) (st : State) → EffectBegins st.world.output (input_taken r input st)
taken_begins r [] st = tt
taken_begins r (z ∷ zs) st = begins_itself st.world.output

port_begins : (s : Setting) (types : Types) (f : Function) (p : Port) (st : State) → EffectBegins st.world.output (port s types f p st)
port_begins s types f (Writes r) st = number_begins st.world.output (cell st r) _ (λ z. (number_text (type_of types f r) z, refl))
port_begins s types f (WritesView l) st = got_begins st.world.output (used st.world.content (location_cell types f l st)) (λ p. Next (with_output (seen_bytes s.texts st.world.content p) st)) (λ p. (seen_bytes s.texts st.world.content p, refl))
port_begins s types f (Takes r) st = taken_begins r st.world.input st

pub does_begins : (s : Setting) (types : Types) (f : Function) (i : Step) (st : State) → EffectBegins st.world.output (does s types f i st)
does_begins s types f (Live x form) st = live_begins s types f _ form x st
does_begins s types f (End xs) st = ends_begin types f xs st
does_begins s types f (Eval r o) st = evaluated_begins types f r o st
does_begins s types f (Load r o) st =
    place_begins st.world.output (locate types f o st) _ _ (λ n i object. begins_itself st.world.output)
    (λ c. character_begins st.world.output s.texts c (λ z. Next (put_cell r (Number z) st)) (λ z. begins_itself st.world.output))
does_begins s types f (Save o r) st = number_begins st.world.output (cell st r) _ (λ z. found_begins st.world.output (locate types f o st) _ (λ n i object. begins_itself st.world.output))
does_begins s types f (Copy to from) st =
    found_begins st.world.output (locate types f to st) _ (λ n i object.
    place_begins st.world.output (locate types f from st) _ _
    (λ m j other. copied_begins s (operand_parts types f to) (record { object = n; index = i; word = operand_word types f to st }) (words_at st.world.content m j (operand_word types f from st) (width (operand_parts types f to))) st)
    (λ c. character_begins st.world.output s.texts c (λ z. copied_to s (operand_parts types f to) (record { object = n; index = i; word = operand_word types f to st }) (word_of_number z ∷ []) st)
    (λ z. copied_begins s (operand_parts types f to) (record { object = n; index = i; word = operand_word types f to st }) (word_of_number z ∷ []) st)))
does_begins s types f (Move to y) st = found_begins st.world.output (locate types f to st) _ (λ n i object. moved_begins (local_parts types f y) _ (cell st y) st)
does_begins s types f (Aim p x) st = aimed_begins s types f p x st
does_begins s types f (Repoint p q) st = pointer_begins st.world.output _ _ (λ v. pointed_begins types f p v st)
does_begins s types f (Element p b w) st = element_begins types f p b w st
does_begins s types f (Cursor p (source.Owner o) end) st = found_begins st.world.output (locate types f o st) _ (λ n i object. got_begins st.world.output _ _ (λ b. pointed_begins types f p _ st))
does_begins s types f (Cursor p (source.Pointer l) end) st = got_begins st.world.output _ _ (λ v. pointed_begins types f p _ st)
does_begins s types f (Advance p q r direction) st = got_begins st.world.output _ _ (λ v. number_begins st.world.output (cell st r) _ (λ z. got_begins st.world.output _ _ (λ i. pointed_begins types f p _ st)))
does_begins s types f (Cut p q r count) st =
    got_begins st.world.output (used st.world.content (location_cell types f q st)) (λ v. on_got (index_in (cell st r)) (λ i. on_got (count_in st count) (λ n. on_got (part_count (is_span (type_if types (location_type types f q))) i n (seen_count v)) (λ k. pointed types f p (part_of st.world.content.clock i k v) st))))
    (λ v. got_begins st.world.output (index_in (cell st r)) (λ i. on_got (count_in st count) (λ n. on_got (part_count (is_span (type_if types (location_type types f q))) i n (seen_count v)) (λ k. pointed types f p (part_of st.world.content.clock i k v) st)))
    (λ i. got_begins st.world.output (count_in st count) (λ n. on_got (part_count (is_span (type_if types (location_type types f q))) i n (seen_count v)) (λ k. pointed types f p (part_of st.world.content.clock i k v) st))
    (λ n. got_begins st.world.output (part_count (is_span (type_if types (location_type types f q))) i n (seen_count v)) (λ k. pointed types f p (part_of st.world.content.clock i k v) st) (λ k. pointed_begins types f p (part_of st.world.content.clock i k v) st))))
does_begins s types f (Size r (source.Owner o)) st =
    found_begins st.world.output (locate types f o st) _
    (λ n i object. got_begins st.world.output (buffer_of st.world.content (record { object = n; index = i; word = operand_word types f o st })) (λ b. Next (put_cell r (Number (pos (size_of st.world.content b))) st)) (λ b. begins_itself st.world.output))
does_begins s types f (Size r (source.Pointer l)) st = got_begins st.world.output (used st.world.content (location_cell types f l st)) (λ v. Next (put_cell r (Number (pos (seen_count v))) st)) (λ v. begins_itself st.world.output)
does_begins s types f (Same r a b equal) st = got_begins st.world.output (compared s types f (location_parts types f a) a b st) (λ same. Next (put_cell r (Number (told same equal)) st)) (λ same. begins_itself st.world.output)
does_begins s types f (Changes o c) st = found_begins st.world.output (locate types f o st) _ (λ n i object. changed_begins s types f (operand_parts types f o) _ c st)
does_begins s types f (Make u m) st = makes_begins s types f u m st
does_begins s types f (Call target g xs) st = tt
does_begins s types f (Ports p) st = port_begins s types f p st

-- ---- what is given

born_with_begins : (s : Setting) (ty : TyId) (z : ℤ) (x : ℕ) (st : State) → EffectBegins st.world.output (born_with s ty z x st)
born_with_begins s ty z x st =
    next_begins st.world.output (born_object s ty x st) _ (object_born_begins s ty x st)
    (λ born. found_begins born.world.output (found_at born.world.content st.world.content.births 0) _ (λ n i o. begins_itself born.world.output))

number_given_begins : (s : Setting) (h : Holding) (ty : TyId) (z : ℤ) (x : ℕ) (st : State) → EffectBegins st.world.output (number_given s h ty z x st)
number_given_begins s Blank ty z x st = tt
number_given_begins s AnObject ty z x st = born_with_begins s ty z x st
number_given_begins s ANumber ty z x st = begins_itself st.world.output
number_given_begins s APointer ty z x st = tt
number_given_begins s AView ty z x st = tt

slot_born_begins : (s : Setting) (types : Types) (ty : TyId) (owned : Option ℕ) (x : ℕ) (st : State) → EffectBegins st.world.output (slot_born s types ty owned x st)
slot_born_begins s types ty owned x st =
    got_begins st.world.output (object_with s (variable_type types ty (slice_get types.types ty.0)) Single (λ c. Got (owner_word owned ∷ [], c)) st.world.content) (λ b. Next (put_cell x (Named b.0) (put_content b.1 st))) (λ b. begins_itself st.world.output)

given_to_begins : (s : Setting) (types : Types) (h : Holding) (ty : TyId) (v : Cell) (x : ℕ) (st : State) → EffectBegins st.world.output (given_to s types h ty v x st)
given_to_begins s types h ty Empty x st = if_begins st.world.output (is_slot_at types ty) _ _ (slot_born_begins s types ty None x st) tt
given_to_begins s types h ty (Named n) x st = if_begins st.world.output (is_slot_at types ty) _ _ (slot_born_begins s types ty (Some n) x st) (begins_itself st.world.output)
given_to_begins s types h ty (Number z) x st = number_given_begins s h ty z x st
given_to_begins s types h ty (Points p) x st = begins_itself st.world.output

given_if_begins : (s : Setting) (types : Types) (f : Function) (l : Option Local) (v : Cell) (x : ℕ) (st : State) → EffectBegins st.world.output (given_if s types f l v x st)
given_if_begins s types f None v x st = tt
given_if_begins s types f (Some l) v x st = given_to_begins s types (sort_of types f x) l.ty v x st

given_begins : (s : Setting) (types : Types) (f : Function) (v : Cell) (x : ℕ) (st : State) → EffectBegins st.world.output (given s types f v x st)
given_begins s types f v x st = given_if_begins s types f (slice_get f.locals x) v x st

pub parameters_begin : (s : Setting) (types : Types) (f : Function) (x : ℕ) (vs : List Cell) (st : State) → EffectBegins st.world.output (parameters_given s types f x vs st)
parameters_begin s types f x [] st = begins_itself st.world.output
parameters_begin s types f x (v ∷ vs) st =
    next_begins st.world.output (given s types f v x st) (parameters_given s types f (x + 1) vs) (given_begins s types f v x st) (parameters_begin s types f (x + 1) vs)

-- ---- what comes back

result_begins : (s : Setting) (types : Types) (f : Function) (l : Location) (ms : List ℕ) (v : Cell) (st : State) → EffectBegins st.world.output (result_given s types f l ms v st)
result_begins s types f l [] v st = given_begins s types f v l.local st
result_begins s types f l (m ∷ ms) Empty st = tt
result_begins s types f l (m ∷ ms) (Named n) st = tt
result_begins s types f l (m ∷ ms) (Number z) st = tt
result_begins s types f l (m ∷ ms) (Points p) st = pointed_begins types f l p st

target_begins : (s : Setting) (types : Types) (f : Function) (l : Option Location) (values : List Cell) (st : State) → EffectBegins st.world.output (target_given s types f l values st)
target_begins s types f None values st = begins_itself st.world.output
target_begins s types f (Some l) [] st = tt
target_begins s types f (Some l) (v ∷ vs) st = result_begins s types f l l.members v st

slot_begins : (types : Types) (f : Function) (l : Location) (v : Cell) (st : State) → EffectBegins st.world.output (slot_returned types f l v st)
slot_begins types f l Empty st = tt
slot_begins types f l (Named m) st =
    got_begins st.world.output (owner_spot_if types f l (cell st l.local)) (λ spot. Next (put_content (without m (wrote_spot spot (take 1 (slot_words st.world.content m 0)) st.world.content)) st)) (λ spot. begins_itself st.world.output)
slot_begins types f l (Number z) st = tt
slot_begins types f l (Points p) st = pointed_begins types f l p st

slots_begin : (types : Types) (f : Function) (xs : List Argument) (vs : List Cell) (st : State) → EffectBegins st.world.output (slots_returned types f xs vs st)
slots_begin types f [] vs st = begins_itself st.world.output
slots_begin types f (Value r ∷ xs) vs st = slots_begin types f xs vs st
slots_begin types f (GivenOver x ∷ xs) vs st = slots_begin types f xs vs st
slots_begin types f (PointerOf l ∷ xs) vs st = slots_begin types f xs vs st
slots_begin types f (Slot l ∷ xs) [] st = tt
slots_begin types f (Slot l ∷ xs) (v ∷ vs) st = next_begins st.world.output (slot_returned types f l v st) (slots_returned types f xs vs) (slot_begins types f l v st) (slots_begin types f xs vs)

pub taken_back_begins : (s : Setting) (types : Types) (f : Function) (target : Option Location) (xs : List Argument) (values : List Cell) (st : State) → EffectBegins st.world.output (taken_back s types f target xs values st)
taken_back_begins s types f target xs values st = next_begins st.world.output (slots_returned types f xs _ st) (target_given s types f target values) (slots_begin types f xs _ st) (target_begins s types f target values)

-- what is lent writes nothing
spot_lent_output : (a : Attempt Spot) (st : State) → (spot_lent a st).world.output ≡ st.world.output
spot_lent_output (Got spot) st = refl
spot_lent_output (GotTrap kind) st = refl
spot_lent_output (GotFault kind) st = refl
spot_lent_output GotLost st = refl

slot_lent_output : (types : Types) (f : Function) (parts : Parts) (l : Location) (st : State) → (slot_lent types f parts l st).world.output ≡ st.world.output
slot_lent_output types f (Unique ty target) l st = spot_lent_output (owner_spot_if types f l (cell st l.local)) st
slot_lent_output types f _ l st = refl

pub lent_output : (types : Types) (f : Function) (xs : List Argument) (st : State) → (lent types f xs st).world.output ≡ st.world.output
lent_output types f [] st = refl
lent_output types f (Value r ∷ xs) st = lent_output types f xs st
lent_output types f (GivenOver x ∷ xs) st = lent_output types f xs (put_cell x Empty st)
lent_output types f (PointerOf l ∷ xs) st = lent_output types f xs st
lent_output types f (Slot l ∷ xs) st = lent_output types f xs (slot_lent types f (location_parts types f l) l st) ∙ slot_lent_output types f (location_parts types f l) l st
