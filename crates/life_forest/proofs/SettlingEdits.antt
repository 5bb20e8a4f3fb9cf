-- Births and changes of owners are never lost, and instructions that change owners settle.
use Rattle.std.proofs.Common.{◌≡◌, ◌⊎◌, inl, inr, ⊎_elim, ℕ, zero, suc, ◌+◌, ◌*◌, Bool, true, false, not, if◌then◌else◌, List, [], ◌∷◌, ◌++◌, length, Option, Some, None, refl, sym, ap, subst, ◌∙◌}
use Rattle.std.proofs.lemmas.Bool.{and_parts, false≢true}
use Rattle.std.specs.Prelude.{ℤ, nat_eq, nat_lt, slice_get, slice_set}
use Rattle.std.specs.Int.{cast_unsigned, w64}
use Rattle.life_types.specs.Pointees.{ty_of}
use Rattle.life_types.specs.Trees.{IsOrdered}
use Rattle.life_types.specs.TypeTests.{is_pointer, is_raw, is_unique, is_value, is_view}
use Rattle.life_types.specs.Types.{HasEachOnce, Types}
use Rattle.life_types.specs.declared.ty.Ty.{Ty}
use Rattle.life_types.specs.declared.ty.Ty.TheVariants as ty
use Rattle.life_types.specs.declared.ty.TyId.{TyId}
use Rattle.life_core.specs.declared.instr.Form.{Form}
use Rattle.life_core.specs.declared.instr.Form.TheVariants as form
use Rattle.life_core.specs.declared.instr.Made.{Made}
use Rattle.life_core.specs.declared.instr.Made.TheVariants as made
use Rattle.life_core.specs.Function.{Function}
use Rattle.life_core.specs.Kinds.{is_object_at}
use Rattle.life_core.specs.Operands.{Location, Operand}
use Rattle.life_core.specs.Operands as source
use Rattle.life_core.specs.Ready.{AreBits, CanLeave, IsThere, Ready, set_bits}
use Rattle.life_core.specs.Step.{Change, PushBack, PopBack, Clear, Reserve, Erase, Set, Append}
use Rattle.life_core.specs.Touched.{characters_uses, change_leaves, change_uses, change_writes, if_object, made_leaves, made_uses, part_uses, place_uses, unless_object, written}
use Rattle.life_core.proofs.ReadyLemmas.{bits_left, bits_right}
use Rattle.life_proper.specs.OperandTypes.{is_composed, is_owner, owned_target, walks}
use Rattle.life_proper.specs.Placed.{is_consumed, is_given, is_number_of, object_at, register_at, result_at, slot_at, type_in, type_of}
use Rattle.life_proper.specs.WellFormed.{are_characters, is_change_of, is_made_for}
use Rattle.life_store.specs.Content.{Content, live_words_of, with_birth}
use Rattle.life_store.specs.Doing.{changed, changes, edits, erases, made_fresh, made_of, makes, on_given, pointer_to, pushes, remade, replaced}
use Rattle.life_store.specs.Edits.{Edit, Push, Pop, Clear as ClearAll, Reserve as Room, Put, Add, buffer_of, capacity_of, characters_of, edited, erased, grown, owned_at, popped, regrown, rewritten, size_of, with_room}
use Rattle.life_store.specs.Effects.{Setting, Effect, Next, Attempt, Got, GotTrap, GotFault, GotLost, cell, got_or, on_got, on_next, put_cell, put_content, word_of_number}
use Rattle.life_store.specs.Held.{owner_word}
use Rattle.life_store.specs.Iterators.{below, erasable, iterator}
use Rattle.life_store.specs.Owners.{Words, birth, consumed, fresh, joined, object_with, sized_birth}
use Rattle.life_store.specs.Parts.{Parts, Single, Raw, Iterates, Views, Text, Vector, Unique, Member, NoMember, characters_type, local_parts, location_parts, operand_parts, parts_at, parts_if, width}
use Rattle.life_store.specs.Places.{Spot, location_cell, on_location, operand_word, pointed}
use Rattle.life_store.specs.State.{Pointer, Null, Wild, To, Static, Cell, Empty, Named, Number, State, ready_of}
use Rattle.life_store.specs.Views.{seen_words, used}
use Rattle.life_store.specs.declared.run.FaultKind.TheVariants as fault
use Rattle.life_store.specs.declared.run.TrapKind.TheVariants as trap
use Rattle.life_store.proofs.CellLemmas.{ready_set}
use Rattle.life_forest.specs.Settled.{IsPoised, Settles}
use Rattle.life_forest.proofs.ReadyCells.{number_any, number_cell, object_cell}
use Rattle.life_forest.proofs.SeenTypes.{parts_typed}
use Rattle.life_forest.proofs.Settling.{IsUsed, Well, ready_pointed, settle_got, settle_number, sorted_put, well_if, well_or, well_then}
use Rattle.life_forest.proofs.SettlingOwners.{location_settles, owner_settles}
use Rattle.life_forest.proofs.SettlingPointers.{iterator_at, used_at}
use Rattle.life_forest.proofs.Shaped.{IsShaped}
use Rattle.life_forest.proofs.Slots.{register_only}
use Rattle.life_forest.proofs.TypedSteps.{PointersAim, location_of, operand_with}

abbrev pub Comes : {A : Type 0} → Attempt A → Type 0
Comes x = Well x (λ a. Unit {0})

-- ---- births

birth_comes : (s : Setting) (id : TyId) (w capacity : ℕ) (c : Content) → Comes (birth s id w capacity c)
birth_comes s id w capacity c = well_if (nat_lt s.given.cells (live_words_of c + (2 + w * capacity))) (GotTrap trap.Cells) (Got (c.births, with_birth id w capacity c)) (λ b. Unit {0}) tt tt

pub sized_comes : (s : Setting) (id : TyId) (w size : ℕ) (c : Content) → Comes (sized_birth s id w size c)
sized_comes s id w size c = well_then (birth s id w size c) _ (λ b. Unit {0}) (λ b. Unit {0}) (birth_comes s id w size c) (λ b h. tt)

pub joined_comes : (first : Attempt Words) (others : Content → Attempt Words) → Comes first → ((c : Content) → Comes (others c)) → Comes (joined first others)
joined_comes first others one more = well_then first _ (λ a. Unit {0}) (λ b. Unit {0}) one (λ a h. well_then (others a.1) _ (λ b. Unit {0}) (λ b. Unit {0}) (more a.1) (λ b k. tt))

pub fresh_comes : (s : Setting) (form : Form) (p : Parts) (c : Content) → Comes (fresh s form p c)
fresh_comes s form Single c = tt
fresh_comes s form Raw c = tt
fresh_comes s form Iterates c = tt
fresh_comes s form Views c = tt
fresh_comes s form (Text id) c = well_then (birth s id 1 0 c) _ (λ b. Unit {0}) (λ v. Unit {0}) (birth_comes s id 1 0 c) (λ b h. tt)
fresh_comes s form (Vector id element) c = well_then (birth s id (width element) 0 c) _ (λ b. Unit {0}) (λ v. Unit {0}) (birth_comes s id (width element) 0 c) (λ b h. tt)
fresh_comes s form (Unique id target) c = tt
fresh_comes s form (Member first others) c = joined_comes (fresh s form first c) (fresh s form others) (fresh_comes s form first c) (λ d. fresh_comes s form others d)
fresh_comes s form NoMember c = tt

pub object_comes : (s : Setting) (id : TyId) (p : Parts) (value : Content → Attempt Words) (c : Content) → ((d : Content) → Comes (value d)) → Comes (object_with s id p value c)
object_comes s id p value c each =
    well_then (sized_birth s id (width p) 1 c) _ (λ b. Unit {0}) (λ b. Unit {0}) (sized_comes s id (width p) 1 c) (λ b h. well_then (value b.1) _ (λ v. Unit {0}) (λ b. Unit {0}) (each b.1) (λ v k. tt))

-- ---- a unique_ptr

unique_target : (t : Ty) → is_unique t ≡ true → (of : TyId) × (t ≡ ty.Unique of)
unique_target (ty.Unique of) e = (of, refl)
unique_target _ e = absurd (false≢true e)

-- ---- changes

regrown_comes : (s : Setting) (id : TyId) (element : Parts) (b capacity size : ℕ) (c : Content) → Comes (regrown s id element b capacity size c)
regrown_comes s id element b capacity size c = well_then (birth s id (width element) capacity c) _ (λ x. Unit {0}) (λ x. Unit {0}) (birth_comes s id (width element) capacity c) (λ x h. tt)

room_comes : (s : Setting) (id : TyId) (element : Parts) (b : ℕ) (c : Content) → Comes (with_room s id element b c)
room_comes s id element b c =
    well_if (nat_lt (size_of c b) (capacity_of c b)) _ (regrown s id element b (grown s.given.growth (size_of c b) (capacity_of c b)) (size_of c b + 1) c) (λ x. Unit {0}) tt
    (regrown_comes s id element b (grown s.given.growth (size_of c b) (capacity_of c b)) (size_of c b + 1) c)

popped_comes : (element : Parts) (b size : ℕ) (c : Content) → Comes (popped element b size c)
popped_comes element b zero c = tt
popped_comes element b (suc n) c = tt

rewritten_comes : (s : Setting) (id : TyId) (spot : Spot) (b : ℕ) (words : List ℕ) (c : Content) → Comes (rewritten s id spot b words c)
rewritten_comes s id spot b words c = well_then (sized_birth s id 1 (length words) c) _ (λ x. Unit {0}) (λ x. Unit {0}) (sized_comes s id 1 (length words) c) (λ x h. tt)

-- what a vector, and a string, may be given
abbrev IsEditOf : Parts → Edit → Type 0
IsEditOf (Vector id element) (Push value) = Unit {0}
IsEditOf (Vector id element) Pop = Unit {0}
IsEditOf (Vector id element) ClearAll = Unit {0}
IsEditOf (Vector id element) (Room n) = Unit {0}
IsEditOf (Text id) (Push value) = Unit {0}
IsEditOf (Text id) ClearAll = Unit {0}
IsEditOf (Text id) (Put words) = Unit {0}
IsEditOf (Text id) (Add words) = Unit {0}
IsEditOf _ _ = ⊥

edited_comes : (s : Setting) (p : Parts) (spot : Spot) (b : ℕ) (edit : Edit) (c : Content) → IsEditOf p edit → Comes (edited s p spot b edit c)
edited_comes s (Vector id element) spot b (Push value) c is = well_then (with_room s id element b c) _ (λ x. Unit {0}) (λ x. Unit {0}) (room_comes s id element b c) (λ x h. tt)
edited_comes s (Vector id element) spot b Pop c is = popped_comes element b (size_of c b) c
edited_comes s (Vector id element) spot b ClearAll c is = tt
edited_comes s (Vector id element) spot b (Room n) c is =
    well_if (nat_lt (capacity_of c b) n) _ (Got c) (λ x. Unit {0}) (well_then (regrown s id element b n (size_of c b) c) _ (λ x. Unit {0}) (λ x. Unit {0}) (regrown_comes s id element b n (size_of c b) c) (λ x h. tt)) tt
edited_comes s (Text id) spot b (Push value) c is = rewritten_comes s id spot b (characters_of c b ++ (value c).0) c
edited_comes s (Text id) spot b ClearAll c is = rewritten_comes s id spot b [] c
edited_comes s (Text id) spot b (Put words) c is = rewritten_comes s id spot b words c
edited_comes s (Text id) spot b (Add words) c is = rewritten_comes s id spot b (characters_of c b ++ words) c
edited_comes s _ spot b edit c is = absurd is

erasable_comes : (c : Content) (b : ℕ) (v : Pointer) → Comes (erasable c b v)
erasable_comes c b Null = tt
erasable_comes c b Wild = tt
erasable_comes c b (Static s) = tt
erasable_comes c b (To t) = well_if (nat_eq t.object b) (below t.index _) (GotTrap trap.ForeignIterator) (λ i. Unit {0}) (well_if (nat_lt t.index _) (Got t.index) (GotTrap trap.Bounds) (λ i. Unit {0}) tt tt) tt

module _ (types : Types) (ordered : IsOrdered types) (once : HasEachOnce types) (texts : ℕ) (fs : List Function) (f : Function) (shaped : IsShaped types f) (st : State) (at_point : IsPoised types f st) (aims : PointersAim types f st) where
  abbrev c : Content
  c = st.world.content

  -- what isn't a unique_ptr takes nothing
  no_target : (x : ℕ) → is_consumed types f ty.Void x ≡ true → ⊥
  no_target x e = false≢true (and_parts (not (slot_at types f x)) false (and_parts (not (result_at types f x)) _ (and_parts (object_at types f x) _ e).1).1).1

  -- ---- what is consumed: a number, or a temporary that is gone then

  consumed_cell : (t : Ty) (x : ℕ) → is_consumed types f t x ≡ true → AreBits true (ready_of st) (unless_object f x) → CanLeave (ready_of st) (if_object f x)
      → ((z : ℤ) × (cell st x ≡ Some (Number z)) × (set_bits false (if_object f x) (ready_of st) ≡ ready_of st)) ⊎ ((m : ℕ) × (cell st x ≡ Some (Named m)) × (set_bits false (if_object f x) (ready_of st) ≡ slice_set (ready_of st) x false))
  consumed_cell t x e uses leaves = go (is_value t) e
    where
      go : (b : Bool) → (if b then is_number_of types f t x else is_given types f t x) ≡ true
          → ((z : ℤ) × (cell st x ≡ Some (Number z)) × (set_bits false (if_object f x) (ready_of st) ≡ ready_of st)) ⊎ ((m : ℕ) × (cell st x ≡ Some (Named m)) × (set_bits false (if_object f x) (ready_of st) ≡ slice_set (ready_of st) x false))
      go true h =
          let none : is_object_at f x ≡ false = register_only (slice_get f.locals x) (and_parts (register_at types f x) _ h).0 in
          let z = number_cell types f st at_point x (number_any types f t x h) (subst (λ (b : Bool). AreBits true (ready_of st) (if b then [] else x ∷ [])) none uses).0 in
          inl (z.0, z.1, ap (λ (b : Bool). set_bits false (if b then x ∷ [] else []) (ready_of st)) none)
      go false h =
          let is : is_object_at f x ≡ true = (and_parts (object_at types f x) _ h).0 in
          let m = object_cell types f st at_point x is (subst (λ (b : Bool). CanLeave (ready_of st) (if b then x ∷ [] else [])) is leaves).0 in
          inr (m.0, m.1, ap (λ (b : Bool). set_bits false (if b then x ∷ [] else []) (ready_of st)) is)

  -- the temporary's cell is empty
  emptied : (d : Content) (x : ℕ) → Settles types f (slice_set (ready_of st) x false) (Next (put_cell x Empty (put_content d st)))
  emptied d x = (ready_set st.cells x Empty, sorted_put types f st.cells x Empty tt at_point.sorted)

  -- ---- edits

  edits_settle : (s : Setting) (p : Parts) (spot : Spot) (edit : Edit) → IsEditOf p edit → Settles types f (ready_of st) (edits s p spot edit st)
  edits_settle s p spot edit is =
      settle_got types f (ready_of st) (buffer_of c spot) (λ b. on_got (edited s p spot b edit c) (λ d. Next (put_content d st))) (λ b. Unit {0}) (well_or (owned_at c spot) fault.Moved)
      (λ b h. settle_got types f (ready_of st) (edited s p spot b edit c) (λ d. Next (put_content d st)) (λ d. Unit {0}) (edited_comes s p spot b edit c is) (λ d k. (refl, at_point.sorted)))

  edits_empty : (s : Setting) (p : Parts) (spot : Spot) (edit : Edit) (x : ℕ) → IsEditOf p edit → Settles types f (slice_set (ready_of st) x false) (on_next (edits s p spot edit st) (λ after. Next (put_cell x Empty after)))
  edits_empty s p spot edit x is = over (owned_at c spot)
    where
      each : (a : Attempt Content) → Comes a → Settles types f (slice_set (ready_of st) x false) (on_next (on_got a (λ d. Next (put_content d st))) (λ after. Next (put_cell x Empty after)))
      each (Got d) h = emptied d x
      each (GotTrap kind) h = tt
      each (GotFault kind) h = tt
      each GotLost h = h

      over : (o : Option ℕ) → Settles types f (slice_set (ready_of st) x false) (on_next (on_got (got_or o (GotFault fault.Moved)) (λ b. on_got (edited s p spot b edit st.world.content) (λ d. Next (put_content d st)))) (λ after. Next (put_cell x Empty after)))
      over None = tt
      over (Some b) = each (edited s p spot b edit c) (edited_comes s p spot b edit c is)

  vector_pushed : (s : Setting) (id element : TyId) (spot : Spot) (x : ℕ) → is_consumed types f (ty_of types element) x ≡ true → AreBits true (ready_of st) (unless_object f x) → CanLeave (ready_of st) (if_object f x)
      → Settles types f (set_bits false (if_object f x) (ready_of st)) (pushes s types f (Vector id (parts_at types element)) spot x (cell st x) st)
  vector_pushed s id element spot x e uses leaves =
      ⊎_elim
      (λ n. subst (λ (bits : Ready). Settles types f bits (pushes s types f (Vector id (parts_at types element)) spot x (cell st x) st)) (sym n.2)
      (subst (λ (v : Option Cell). Settles types f (ready_of st) (pushes s types f (Vector id (parts_at types element)) spot x v st)) (sym n.1) (edits_settle s (Vector id (parts_at types element)) spot (Push (λ d. (word_of_number n.0 ∷ [], d))) tt)))
      (λ m. subst (λ (bits : Ready). Settles types f bits (pushes s types f (Vector id (parts_at types element)) spot x (cell st x) st)) (sym m.2)
      (subst (λ (v : Option Cell). Settles types f (slice_set (ready_of st) x false) (pushes s types f (Vector id (parts_at types element)) spot x v st)) (sym m.1)
      (edits_empty s (Vector id (parts_at types element)) spot (Push (consumed (local_parts types f x) m.0)) x tt)))
      (consumed_cell (ty_of types element) x e uses leaves)

  -- the characters that a string is given
  given_characters : (s : Setting) (g : source.Characters) (go : List ℕ → Effect) → are_characters types texts fs f g ≡ true → AreBits true (ready_of st) (characters_uses g) → ((ws : List ℕ) → Settles types f (ready_of st) (go ws))
      → Settles types f (ready_of st) (on_given s types f g st go)
  given_characters s (source.View l) go e uses each =
      settle_got types f (ready_of st) (used c (location_cell types f l st)) (λ v. go (seen_words s.texts c v)) (IsUsed (type_in types f l)) (used_at types f st at_point l (type_in types f l) refl (view_pointer (type_in types f l) e) (view_other (type_in types f l) e) uses.0) (λ v h. each (seen_words s.texts c v))
    where
      view_pointer : (t : Ty) → is_view t ≡ true → is_pointer t ≡ true
      view_pointer ty.View h = refl
      view_pointer _ h = absurd (false≢true h)

      view_other : (t : Ty) → is_view t ≡ true → is_raw t ≡ false
      view_other ty.View h = refl
      view_other _ h = absurd (false≢true h)
  given_characters s (source.Single r) go e uses each =
      let z = number_cell types f st at_point r (number_any types f ty.Char r e) uses.0 in
      settle_number types f (ready_of st) (cell st r) (λ z. go (word_of_number z ∷ [])) z.0 z.1 (each (word_of_number z.0 ∷ []))

  -- ---- changes

  abbrev behind : Change → Ready
  behind change = set_bits true (change_writes change) (set_bits false (change_leaves f change) (ready_of st))

  text_changed : (s : Setting) (id : TyId) (spot : Spot) (change : Change) → is_change_of types texts fs f ty.Text change ≡ true → AreBits true (ready_of st) (change_uses f change) → Settles types f (behind change) (changed s types f (Text id) spot change st)
  text_changed s id spot (PushBack r) e uses =
      let none : is_object_at f r ≡ false = register_only (slice_get f.locals r) (and_parts (register_at types f r) _ e).0 in
      let z = number_cell types f st at_point r (number_any types f ty.Char r e) (subst (λ (b : Bool). AreBits true (ready_of st) (if b then [] else r ∷ [])) none uses).0 in
      subst (λ (b : Bool). Settles types f (set_bits false (if b then r ∷ [] else []) (ready_of st)) (pushes s types f (Text id) spot r (cell st r) st)) (sym none)
      (subst (λ (v : Option Cell). Settles types f (ready_of st) (pushes s types f (Text id) spot r v st)) (sym z.1) (edits_settle s (Text id) spot (Push (λ d. (word_of_number z.0 ∷ [], d))) tt))
  text_changed s id spot PopBack e uses = absurd (false≢true e)
  text_changed s id spot Clear e uses = edits_settle s (Text id) spot ClearAll tt
  text_changed s id spot (Reserve r) e uses = absurd (false≢true e)
  text_changed s id spot (Erase from into) e uses = absurd (false≢true e)
  text_changed s id spot (Set g) e uses = given_characters s g (λ ws. edits s (Text id) spot (Put ws) st) e uses (λ ws. edits_settle s (Text id) spot (Put ws) tt)
  text_changed s id spot (Append g) e uses = given_characters s g (λ ws. edits s (Text id) spot (Add ws) st) e uses (λ ws. edits_settle s (Text id) spot (Add ws) tt)

  erased_settles : (s : Setting) (id element : TyId) (spot : Spot) (from into : Location) → walks types (type_in types f from) (ty_of types element) ≡ true → walks types (type_in types f into) (ty_of types element) ≡ true
      → AreBits true (ready_of st) (from.local ∷ part_uses into) → Settles types f (set_bits true (written into) (ready_of st)) (on_got (iterator c (location_cell types f from st)) (λ v. erases types f (Vector id (parts_at types element)) spot v into st))
  erased_settles s id element spot from into walks_from walks_into uses =
      let bits = set_bits true (written into) (ready_of st) in
      let out = walker (type_in types f from) walks_from in
      settle_got types f bits (iterator c (location_cell types f from st)) (λ v. erases types f (Vector id (parts_at types element)) spot v into st) (IsUsed (type_in types f from)) (iterator_at types f st at_point from out.0 out.1 uses.0)
      (λ v h. settle_got types f bits (buffer_of c spot) (λ b. on_got (erasable c b v) (λ i. pointed types f into (pointer_to (erased (parts_at types element) b i c) b i 0) (put_content (erased (parts_at types element) b i c) st))) (λ b. Unit {0})
      (well_or (owned_at c spot) fault.Moved)
      (λ b k. settle_got types f bits (erasable c b v) (λ i. pointed types f into (pointer_to (erased (parts_at types element) b i c) b i 0) (put_content (erased (parts_at types element) b i c) st)) (λ i. Unit {0}) (erasable_comes c b v)
      (λ i m. ready_pointed types f st at_point (erased (parts_at types element) b i c) into (pointer_to (erased (parts_at types element) b i c) b i 0) (walker (type_in types f into) walks_into).0 (λ view. refl) uses.1)))
    where
      walker : (t : Ty) → walks types t (ty_of types element) ≡ true → (is_pointer t ≡ true) × (is_raw t ≡ false)
      walker (ty.Iterator target constant) h = (refl, refl)
      walker _ h = absurd (false≢true h)

  vector_changed : (s : Setting) (id element : TyId) (spot : Spot) (change : Change) → is_change_of types texts fs f (ty.Vector element) change ≡ true → AreBits true (ready_of st) (change_uses f change) → CanLeave (ready_of st) (change_leaves f change)
      → Settles types f (behind change) (changed s types f (Vector id (parts_at types element)) spot change st)
  vector_changed s id element spot (PushBack x) e uses leaves = vector_pushed s id element spot x e uses leaves
  vector_changed s id element spot PopBack e uses leaves = edits_settle s (Vector id (parts_at types element)) spot Pop tt
  vector_changed s id element spot Clear e uses leaves = edits_settle s (Vector id (parts_at types element)) spot ClearAll tt
  vector_changed s id element spot (Reserve r) e uses leaves =
      let z = number_cell types f st at_point r (number_any types f ty.Size r e) uses.0 in
      settle_number types f (ready_of st) (cell st r) (λ z. edits s (Vector id (parts_at types element)) spot (Room (cast_unsigned w64 z)) st) z.0 z.1 (edits_settle s (Vector id (parts_at types element)) spot (Room (cast_unsigned w64 z.0)) tt)
  vector_changed s id element spot (Erase from into) e uses leaves =
      let both = and_parts (walks types (type_in types f from) (ty_of types element)) (walks types (type_in types f into) (ty_of types element)) e in
      erased_settles s id element spot from into both.0 both.1 uses
  vector_changed s id element spot (Set g) e uses leaves = absurd (false≢true e)
  vector_changed s id element spot (Append g) e uses leaves = absurd (false≢true e)

  pub changes_settle : (s : Setting) (o : Operand) (change : Change) → is_change_of types texts fs f (type_of types f o) change ≡ true → AreBits true (ready_of st) (place_uses o ++ change_uses f change) → CanLeave (ready_of st) (change_leaves f change)
      → Settles types f (behind change) (changes s types f o change st)
  changes_settle s o change e uses leaves = go (type_of types f o) refl e
    where
      own : AreBits true (ready_of st) (place_uses o)
      own = bits_left true (ready_of st) (place_uses o) (change_uses f change) uses

      others : AreBits true (ready_of st) (change_uses f change)
      others = bits_right true (ready_of st) (place_uses o) (change_uses f change) uses

      go : (t : Ty) → type_of types f o ≡ t → is_change_of types texts fs f t change ≡ true → Settles types f (behind change) (changes s types f o change st)
      go ty.Text is h =
          let at = operand_with types ordered once texts fs f shaped st aims at_point.sorted o ty.Text is refl in
          let parts : operand_parts types f o ≡ Text (characters_type types) = ap (parts_if types) at.operand.0 ∙ parts_typed types ordered at.whole ty.Text at.there in
          owner_settles types ordered once texts fs f shaped st at_point aims (behind change) o (λ spot. changed s types f (operand_parts types f o) spot change st) (ap is_owner is) own
          (λ n i. subst (λ (p : Parts). Settles types f (behind change) (changed s types f p (record { object = n; index = i; word = operand_word types f o st }) change st)) (sym parts)
          (text_changed s (characters_type types) (record { object = n; index = i; word = operand_word types f o st }) change h others))
      go (ty.Vector element) is h =
          let at = operand_with types ordered once texts fs f shaped st aims at_point.sorted o (ty.Vector element) is refl in
          let parts : operand_parts types f o ≡ Vector element (parts_at types element) = ap (parts_if types) at.operand.0 ∙ parts_typed types ordered at.whole (ty.Vector element) at.there in
          owner_settles types ordered once texts fs f shaped st at_point aims (behind change) o (λ spot. changed s types f (operand_parts types f o) spot change st) (ap is_owner is) own
          (λ n i. subst (λ (p : Parts). Settles types f (behind change) (changed s types f p (record { object = n; index = i; word = operand_word types f o st }) change st)) (sym parts)
          (vector_changed s element element (record { object = n; index = i; word = operand_word types f o st }) change h others leaves))
      go _ is h = absurd (false≢true h)

  -- ---- what a unique_ptr is made to own

  made_unique : (s : Setting) (of : TyId) (spot : Spot) (x : ℕ) → is_consumed types f (ty_of types of) x ≡ true → AreBits true (ready_of st) (unless_object f x) → CanLeave (ready_of st) (if_object f x)
      → Settles types f (set_bits false (if_object f x) (ready_of st)) (made_of s types f (Unique of (parts_at types of)) spot x (cell st x) st)
  made_unique s of spot x e uses leaves =
      let p = Unique of (parts_at types of) in
      ⊎_elim
      (λ n. subst (λ (bits : Ready). Settles types f bits (made_of s types f p spot x (cell st x) st)) (sym n.2)
      (subst (λ (v : Option Cell). Settles types f (ready_of st) (made_of s types f p spot x v st)) (sym n.1)
      (settle_got types f (ready_of st) (object_with s of (parts_at types of) (λ d. Got (word_of_number n.0 ∷ [], d)) c) (λ b. Next (remade p spot b st)) (λ b. Unit {0}) (object_comes s of (parts_at types of) (λ d. Got (word_of_number n.0 ∷ [], d)) c (λ d. tt)) (λ b h. (refl, at_point.sorted)))))
      (λ m. subst (λ (bits : Ready). Settles types f bits (made_of s types f p spot x (cell st x) st)) (sym m.2)
      (subst (λ (v : Option Cell). Settles types f (slice_set (ready_of st) x false) (made_of s types f p spot x v st)) (sym m.1)
      (settle_got types f (slice_set (ready_of st) x false) (object_with s of (parts_at types of) (λ d. Got (consumed (local_parts types f x) m.0 d)) c) (λ b. Next (put_cell x Empty (remade p spot b st))) (λ b. Unit {0})
      (object_comes s of (parts_at types of) (λ d. Got (consumed (local_parts types f x) m.0 d)) c (λ d. tt)) (λ b h. emptied (replaced p spot (owner_word (Some b.0) ∷ [], b.1)) x))))
      (consumed_cell (ty_of types of) x e uses leaves)

  -- at the place of a unique_ptr that is a local or a member of one
  at_unique : (u : Location) (of : TyId) → type_in types f u ≡ ty.Unique of → IsThere (ready_of st) u.local → (bits : Ready) (go : Parts → Spot → Effect) → ((spot : Spot) → Settles types f bits (go (Unique of (parts_at types of)) spot))
      → Settles types f bits (on_location types f u st (go (location_parts types f u)))
  at_unique u of is there bits go each =
      let at = location_of types ordered once texts fs f shaped u (ty.Unique of) is refl in
      subst (λ (p : Parts). Settles types f bits (on_location types f u st (go p))) (sym (ap (parts_if types) at.is ∙ parts_typed types ordered at.number (ty.Unique of) at.there))
      (location_settles types ordered once texts fs f shaped st at_point aims bits u (go (Unique of (parts_at types of))) (ap is_composed is) there each)

  pub makes_settle : (s : Setting) (u : Location) (m : Made) → is_made_for types texts fs f (type_in types f u) m ≡ true → AreBits true (ready_of st) (u.local ∷ made_uses f m) → CanLeave (ready_of st) (made_leaves f m)
      → Settles types f (set_bits false (made_leaves f m) (ready_of st)) (makes s types f u m st)
  makes_settle s u made.Null e uses leaves =
      let of = unique_target (type_in types f u) e in
      at_unique u of.0 of.1 uses.0 (ready_of st) (λ p spot. Next (put_content (replaced p spot (owner_word None ∷ [], c)) st)) (λ spot. (refl, at_point.sorted))
  makes_settle s u made.Zero e uses leaves =
      let of = unique_target (type_in types f u) e in
      at_unique u of.0 of.1 uses.0 (ready_of st) (λ p spot. made_fresh s p spot st)
      (λ spot. settle_got types f (ready_of st) (object_with s of.0 (parts_at types of.0) (fresh s form.Zero (parts_at types of.0)) c) (λ b. Next (remade (Unique of.0 (parts_at types of.0)) spot b st)) (λ b. Unit {0})
      (object_comes s of.0 (parts_at types of.0) (fresh s form.Zero (parts_at types of.0)) c (λ d. fresh_comes s form.Zero (parts_at types of.0) d)) (λ b h. (refl, at_point.sorted)))
  makes_settle s u (made.Of x) e uses leaves = go (type_in types f u) refl e
    where
      go : (t : Ty) → type_in types f u ≡ t → is_consumed types f (owned_target types t) x ≡ true → Settles types f (set_bits false (if_object f x) (ready_of st)) (makes s types f u (made.Of x) st)
      go (ty.Unique of) is h = at_unique u of is uses.0 (set_bits false (if_object f x) (ready_of st)) (λ p spot. made_of s types f p spot x (cell st x) st) (λ spot. made_unique s of spot x h uses.1 leaves)
      go t is h = absurd (no_target x h)
