-- A frame has a store behind copies, changes of vectors and strings, and make_unique of nothing or of a number.
use Rattle.std.proofs.Common.{◌≡◌, ◌≢◌, ℕ, zero, suc, ◌+◌, ◌<◌, Bool, true, false, List, [], ◌∷◌, ◌++◌, length, Option, Some, None, refl, sym, ap, subst, arith}
use Rattle.std.proofs.lemmas.Bool.Decides.{nat_tests}
use Rattle.std.specs.Prelude.{ℤ, cond, nat_eq, nat_lt, slice_set}
use Rattle.life_types.specs.Trees.{IsOrdered}
use Rattle.life_types.specs.Types.{Types}
use Rattle.life_types.specs.declared.ty.TyId.{TyId}
use Rattle.life_core.specs.Function.{Function}
use Rattle.life_core.specs.declared.instr.Form.TheVariants as form
use Rattle.life_store.specs.Cells.{at}
use Rattle.life_store.specs.Content.{Slot, Object, Content}
use Rattle.life_store.specs.Doing.{copied_to, edits, erases, pointer_to, made_fresh, made_of, word_of_number, remade, replaced}
use Rattle.life_store.specs.Edits.{Edit, erased, Push, Pop, Clear, Reserve, Put, Add, characters_of, edited, owned_at, popped, pushed, rewritten, size_of}
use Rattle.life_store.specs.Effects.{Setting, Attempt, Got, GotTrap, GotFault, GotLost, Effect, Next, cell, got_or, on_got, on_next, put_cell, put_content}
use Rattle.life_store.specs.Held.{owner_word}
use Rattle.life_store.specs.Owners.{consumed, copied, fresh, object_with}
use Rattle.life_store.specs.Parts.{Parts, Single, Text, Vector, Unique, parts_at, width, width_at}
use Rattle.life_store.specs.Places.{Spot, member_pointed, pointed}
use Rattle.life_store.specs.State.{Cell, Empty, Named, Number, Points, Pointer, Null, Wild, To, Static, State}
use Rattle.life_store.specs.Iterators.{below, erasable}
use Rattle.life_store.specs.declared.run.FaultKind.TheVariants as fault
use Rattle.life_store.specs.declared.run.TrapKind.TheVariants as trap
use Rattle.life_core.specs.Operands.{Location}
use Rattle.life_forest.proofs.FrameWords.{cell_keeps}
use Rattle.life_forest.specs.Frames.{HasStore, OnNext, named_in}
use Rattle.life_forest.specs.Kinds.{kinds_of}
use Rattle.life_forest.specs.Owned.{every, times, alive, owns}
use Rattle.life_forest.specs.Typed.{IsStore}
use Rattle.life_forest.specs.Values.{Known, owned_of}
use Rattle.life_forest.specs.Within.{LiesWithin}
use Rattle.life_forest.proofs.Coming.{IfGot}
use Rattle.life_forest.proofs.Frames.{less_in_hand, named_put, on_got_next}
use Rattle.life_forest.proofs.Lives.{rewrite_store}
use Rattle.life_forest.proofs.Owners.{made_number_store, made_store, null_store}
use Rattle.life_forest.proofs.Stores.{copied_store}
use Rattle.life_forest.proofs.Vectors.{clear_store, erase_store, pop_store, push_object_store, push_store, reserve_store}
use Rattle.life_store.specs.Parts.{local_parts}
use Rattle.life_forest.proofs.Fitting.{Flat}
use Rattle.life_forest.proofs.FittingBirths.{flat_owner, got_both}
use Rattle.life_forest.proofs.Given.{Stands, given_over_store, given_over_stands}
use Rattle.life_forest.proofs.Stores.{replaced_store}

-- what is done with the buffer of an owner that has one
pub on_buffer : (o : Option ℕ) (go : ℕ → Effect) (Q : State → Type 0) → ((b : ℕ) → o ≡ Some b → OnNext (go b) Q) → OnNext (on_got (got_or o (GotFault fault.Moved)) go) Q
on_buffer None go Q each = tt
on_buffer (Some b) go Q each = each b refl

pub lt_of : (a b : ℕ) → nat_lt a b ≡ true → a < b
lt_of a b h = grind (arith, nat_tests)

-- what may be erased is an element
pub erasable_below : (c : Content) (b : ℕ) (v : Pointer) → IfGot (erasable c b v) (λ k. k < size_of c b)
erasable_below c b Null = tt
erasable_below c b Wild = tt
erasable_below c b (Static s) = tt
erasable_below c b (To t) = same (nat_eq t.object b) (less (nat_lt t.index (size_of c b)) refl)
  where
    less : (x : Bool) → nat_lt t.index (size_of c b) ≡ x → IfGot (below t.index (size_of c b)) (λ k. k < size_of c b)
    less true e = subst (λ (y : Bool). IfGot (cond y (Got t.index) (GotTrap trap.Bounds)) (λ k. k < size_of c b)) (sym e) (lt_of t.index (size_of c b) e)
    less false e = subst (λ (y : Bool). IfGot (cond y (Got t.index) (GotTrap trap.Bounds)) (λ k. k < size_of c b)) (sym e) tt

    same : (x : Bool) → IfGot (below t.index (size_of c b)) (λ k. k < size_of c b) → IfGot (cond x (below t.index (size_of c b)) (GotTrap trap.ForeignIterator)) (λ k. k < size_of c b)
    same true h = h
    same false h = tt

module _ (types : Types) (ordered : IsOrdered types) (rest : ℕ → ℕ) (st : State) (store : HasStore types rest st) (n i w : ℕ) (part : TyId) (o : Object) (there : at st.world.content.objects n ≡ Some o) (within : LiesWithin types o.ty w part) (lt : i < length o.slots) where
  abbrev spot : Spot
  spot = record { object = n; index = i; word = w }

  abbrev has : ℕ → ℕ
  has k = times (named_in st.cells) k + rest k

  abbrev c : Content
  c = st.world.content

  edits_keep : (s : Setting) (parts : Parts) (edit : Edit) → ((b : ℕ) → owned_at c spot ≡ Some b → IfGot (edited s parts spot b edit c) (IsStore types has)) → OnNext (edits s parts spot edit st) (HasStore types rest)
  edits_keep s parts edit each =
      on_buffer (owned_at c spot) (λ b. on_got (edited s parts spot b edit c) (λ d. Next (put_content d st))) (HasStore types rest)
      (λ b owned. on_got_next (edited s parts spot b edit c) (λ d. Next (put_content d st)) (IsStore types has) (HasStore types rest) (each b owned) (λ d h. h))

  -- ---- a value is copied to the place

  pub copy_keeps : (s : Setting) (ws : List ℕ) → length ws ≡ width_at types part → Known (kinds_of types) c (parts_at types part) ws → ((k : ℕ) → 0 < times (owned_of (parts_at types part) ws) k → 0 < alive c k)
      → OnNext (copied_to s (parts_at types part) (record { object = n; index = i; word = w }) ws st) (HasStore types rest)
  copy_keeps s ws wide known living =
      on_got_next (copied s (parts_at types part) ws c) (λ v. Next (put_content (replaced (parts_at types part) spot v) st)) (λ v. IsStore types has (replaced (parts_at types part) spot v)) (HasStore types rest)
      (copied_store types ordered has c store n i w part o there within lt s ws wide known living)
      (λ v h. h)

  -- ---- a unique_ptr is given a new object

  pub make_keeps : (s : Setting) (ty : TyId) → parts_at types part ≡ Unique ty (parts_at types ty) → OnNext (made_fresh s (Unique ty (parts_at types ty)) (record { object = n; index = i; word = w }) st) (HasStore types rest)
  make_keeps s ty is_unique =
      let p = parts_at types ty in
      on_got_next (object_with s ty p (fresh s form.Zero p) c) (λ b. Next (remade (Unique ty p) spot b st)) (λ b. IsStore types has (replaced (parts_at types part) spot (owner_word (Some b.0) ∷ [], b.1))) (HasStore types rest)
      (made_store types ordered has c store s n i w part o there within lt ty is_unique form.Zero)
      (λ b h. subst (λ r. IsStore types has (replaced r spot (owner_word (Some b.0) ∷ [], b.1))) is_unique h)

  pub make_number_keeps : (s : Setting) (types' : Types) (f : Function) (x : ℕ) (ty : TyId) (z : ℤ) → parts_at types part ≡ Unique ty (parts_at types ty) → parts_at types ty ≡ Single
      → OnNext (made_of s types' f (Unique ty (parts_at types ty)) (record { object = n; index = i; word = w }) x (Some (Number z)) st) (HasStore types rest)
  make_number_keeps s types' f x ty z is_unique single =
      let p = parts_at types ty in
      on_got_next (object_with s ty p (λ d. Got (word_of_number z ∷ [], d)) c) (λ b. Next (remade (Unique ty p) spot b st)) (λ b. IsStore types has (replaced (parts_at types part) spot (owner_word (Some b.0) ∷ [], b.1))) (HasStore types rest)
      (made_number_store types ordered has c store s n i w part o there within lt ty is_unique (word_of_number z) single)
      (λ b h. subst (λ r. IsStore types has (replaced r spot (owner_word (Some b.0) ∷ [], b.1))) is_unique h)

  -- .. of a temporary, which gives its value over
  pub make_object_keeps : (s : Setting) (types' : Types) (f : Function) (x m : ℕ) (ty : TyId) (om : Object) (sl : Slot) → parts_at types part ≡ Unique ty (parts_at types ty) → local_parts types' f x ≡ parts_at types ty → cell st x ≡ Some (Named m)
      → at st.world.content.objects m ≡ Some om → om.slots ≡ sl ∷ [] → om.ty ≡ ty → m ≢ n → owns (kinds_of types) every om n ≡ 0
      → OnNext (made_of s types' f (Unique ty (parts_at types ty)) (record { object = n; index = i; word = w }) x (Some (Named m)) st) (HasStore types rest)
  make_object_keeps s types' f x m ty om sl is_unique is_local named m_there one_slot m_type apart not_owned =
      let p = parts_at types ty in
      let left : ℕ → ℕ = λ k. times (named_in (slice_set st.cells x Empty)) k + rest k in
      let before : IsStore types (λ k. times (m ∷ []) k + (times (named_in (slice_set st.cells x Empty)) k + rest k)) c =
      less_in_hand types has (λ k. times (m ∷ []) k + (times (named_in (slice_set st.cells x Empty)) k + rest k)) c (λ k. let e = named_put st.cells x (Named m) Empty k named in omega arith) store in
      subst (λ r. OnNext (on_got (object_with s ty p (λ d. Got (consumed r m d)) c) (λ b. Next (put_cell x Empty (remade (Unique ty p) spot b st)))) (HasStore types rest)) (sym is_local)
      (on_got_next (object_with s ty p (λ d. Got (consumed p m d)) c) (λ b. Next (put_cell x Empty (remade (Unique ty p) spot b st)))
      (λ b. IsStore types (λ k. times (b.0 ∷ []) k + (times (named_in (slice_set st.cells x Empty)) k + rest k)) b.1 × Stands ty n o b) (HasStore types rest)
      (got_both (object_with s ty p (λ d. Got (consumed p m d)) c) (λ b. IsStore types (λ k. times (b.0 ∷ []) k + (times (named_in (slice_set st.cells x Empty)) k + rest k)) b.1) (Stands ty n o)
      (given_over_store types ordered (λ k. times (named_in (slice_set st.cells x Empty)) k + rest k) c s ty m om sl before m_there one_slot m_type)
      (given_over_stands types ordered (λ k. times (named_in (slice_set st.cells x Empty)) k + rest k) c s ty m om sl n o before m_there one_slot m_type there apart not_owned))
      (λ b h. subst (λ r. IsStore types (λ k. times (named_in (slice_set st.cells x Empty)) k + rest k) (replaced r spot (owner_word (Some b.0) ∷ [], b.1))) is_unique
      (replaced_store types ordered (λ k. times (named_in (slice_set st.cells x Empty)) k + rest k) (λ k. times (b.0 ∷ []) k + (times (named_in (slice_set st.cells x Empty)) k + rest k)) b.1 h.0 n i w part o h.1.other within lt
      (owner_word (Some b.0) ∷ []) (sym (ap width is_unique))
      (subst (λ r. Flat b.1 r (owner_word (Some b.0) ∷ [])) (sym is_unique) (flat_owner b.1 (Unique ty p) ty b.0 h.1.object (λ u. refl) h.1.there h.1.type))
      (λ k. let e = ap (λ r. times (owned_of r (owner_word (Some b.0) ∷ [])) k) is_unique in omega arith))))

  -- .. or null
  pub null_keeps : (s : Setting) (ty : TyId) → parts_at types part ≡ Unique ty (parts_at types ty) → HasStore types rest (put_content (replaced (parts_at types part) (record { object = n; index = i; word = w }) (owner_word None ∷ [], st.world.content)) st)
  null_keeps s ty is_unique = null_store types ordered has c store s n i w part o there within lt ty is_unique

  -- ---- a string is changed, in whatever way

  pub text_keeps : (s : Setting) (ty : TyId) (edit : Edit) → parts_at types part ≡ Text ty → OnNext (edits s (Text ty) (record { object = n; index = i; word = w }) edit st) (HasStore types rest)
  text_keeps s ty edit is_text = edits_keep s (Text ty) edit (λ b owned. each edit b (λ words. rewrite_store types ordered has c store n i w part o there within lt ty is_text b owned s words))
    where
      each : (e : Edit) (b : ℕ) → ((words : List ℕ) → IfGot (rewritten s ty spot b words c) (IsStore types has)) → IfGot (edited s (Text ty) spot b e c) (IsStore types has)
      each (Push value) b all = all (characters_of c b ++ (value c).0)
      each Pop b all = tt
      each Clear b all = all []
      each (Reserve capacity) b all = tt
      each (Put words) b all = all words
      each (Add words) b all = all (characters_of c b ++ words)

  -- ---- a vector is changed

  module _ (s : Setting) (ty : TyId) (element : Parts) (is_vector : parts_at types part ≡ Vector ty element) where
    pub pop_keeps : OnNext (edits s (Vector ty element) (record { object = n; index = i; word = w }) Pop st) (HasStore types rest)
    pop_keeps = edits_keep s (Vector ty element) Pop (λ b owned. each b (size_of c b) (λ size. pop_store types ordered has c store n i w part o there within lt ty element is_vector b owned size))
      where
        each : (b size : ℕ) → ((k : ℕ) → IfGot (popped element b (suc k) c) (IsStore types has)) → IfGot (popped element b size c) (IsStore types has)
        each b zero all = tt
        each b (suc k) all = all k

    pub clear_keeps : OnNext (edits s (Vector ty element) (record { object = n; index = i; word = w }) Clear st) (HasStore types rest)
    clear_keeps = edits_keep s (Vector ty element) Clear (λ b owned. clear_store types ordered has c store n i w part o there within lt ty element is_vector b owned)

    pub reserve_keeps : (capacity : ℕ) → OnNext (edits s (Vector ty element) (record { object = n; index = i; word = w }) (Reserve capacity) st) (HasStore types rest)
    reserve_keeps capacity = edits_keep s (Vector ty element) (Reserve capacity) (λ b owned. reserve_store types ordered has c store n i w part o there within lt ty element is_vector b owned s capacity)

    -- a value that owns nothing is added
    pub push_keeps : (ws : List ℕ) → length ws ≡ width element → ((k : ℕ) → times (owned_of element ws) k ≡ 0) → OnNext (edits s (Vector ty element) (record { object = n; index = i; word = w }) (Push (λ d. (ws, d))) st) (HasStore types rest)
    push_keeps ws wide none = edits_keep s (Vector ty element) (Push (λ d. (ws, d))) (λ b owned. push_store types ordered has c store n i w part o there within lt ty element is_vector b owned s ws wide none)

    -- an element is erased, and a whole local is the iterator behind it
    pub erase_keeps : (f : Function) (v : Pointer) (into : Location) (old : Cell) → into.members ≡ [] → cell st into.local ≡ Some old
        → OnNext (erases types f (Vector ty element) (record { object = n; index = i; word = w }) v into st) (HasStore types rest)
    erase_keeps f v into old whole there_old =
        on_buffer (owned_at c spot) (λ b. on_got (erasable c b v) (λ k. pointed types f into (pointer_to (erased element b k c) b k 0) (put_content (erased element b k c) st))) (HasStore types rest)
        (λ b owned. on_got_next (erasable c b v) (λ k. pointed types f into (pointer_to (erased element b k c) b k 0) (put_content (erased element b k c) st)) (λ k. k < size_of c b) (HasStore types rest)
        (erasable_below c b v)
        (λ k small. subst (λ (ms : List ℕ). OnNext (member_pointed types f into.local ms (cell st into.local) (pointer_to (erased element b k c) b k 0) (put_content (erased element b k c) st)) (HasStore types rest)) (sym whole)
        (cell_keeps types ordered rest (put_content (erased element b k c) st) (erase_store types ordered has c store n i w part o there within lt ty element is_vector b owned k small) into.local old (Points (pointer_to (erased element b k c) b k 0)) there_old (λ j. refl))))

    -- a temporary gives its value over, and its cell is empty
    pub push_object_keeps : (x m : ℕ) (om : Object) (sl : Slot) → cell st x ≡ Some (Named m) → at st.world.content.objects m ≡ Some om → om.slots ≡ sl ∷ [] → om.ty ≡ ty → n ≢ m → owns (kinds_of types) every om n ≡ 0
        → OnNext (on_next (edits s (Vector ty element) (record { object = n; index = i; word = w }) (Push (consumed element m)) st) (λ after. Next (put_cell x Empty after))) (HasStore types rest)
    push_object_keeps x m om sl named m_there one_slot m_type apart not_owned =
        let left : ℕ → ℕ = λ k. times (named_in (slice_set st.cells x Empty)) k + rest k in
        let before : IsStore types (λ k. times (m ∷ []) k + (times (named_in (slice_set st.cells x Empty)) k + rest k)) c =
        less_in_hand types has (λ k. times (m ∷ []) k + (times (named_in (slice_set st.cells x Empty)) k + rest k)) c (λ k. let e = named_put st.cells x (Named m) Empty k named in omega arith) store in
        on_edit (owned_at c spot)
        (λ b owned. push_object_store types ordered (λ k. times (named_in (slice_set st.cells x Empty)) k + rest k) c m before n i w part o there within lt ty element is_vector b owned om sl m_there one_slot m_type apart not_owned s)
      where
        on_edit : (y : Option ℕ) → ((b : ℕ) → y ≡ Some b → IfGot (pushed s ty element spot b (consumed element m) c) (IsStore types (λ k. times (named_in (slice_set st.cells x Empty)) k + rest k)))
            → OnNext (on_next (on_got (got_or y (GotFault fault.Moved)) (λ b. on_got (edited s (Vector ty element) spot b (Push (consumed element m)) c) (λ d. Next (put_content d st)))) (λ after. Next (put_cell x Empty after))) (HasStore types rest)
        on_edit None all = tt
        on_edit (Some b) all = go (pushed s ty element spot b (consumed element m) c) (all b refl)
          where
            go : (a : Attempt Content) → IfGot a (IsStore types (λ k. times (named_in (slice_set st.cells x Empty)) k + rest k)) → OnNext (on_next (on_got a (λ d. Next (put_content d st))) (λ after. Next (put_cell x Empty after))) (HasStore types rest)
            go (Got d) h = h
            go (GotTrap kind) h = tt
            go (GotFault kind) h = tt
            go GotLost h = tt
