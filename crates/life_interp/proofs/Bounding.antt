-- Whatever is done, what lives stays within the limit, and each object has the room for its slots.
use Rattle.std.proofs.Common.{◌≡◌, ℕ, ◌+◌, ◌*◌, ◌≤◌, Bool, true, false, cond, List, [], ◌∷◌, ◌++◌, length, Option, Some, None, refl, sym, ap, ◌∙◌, arith}
use Rattle.std.proofs.lemmas.Bool.{ltb-false}
use Rattle.std.proofs.lemmas.Option.{same_Some}
use Rattle.std.specs.Prelude.{ℤ, nat_lt, slice_get}
use Rattle.life_types.specs.Types.{Types, is_slot_at}
use Rattle.life_types.specs.declared.ty.TyId.{TyId}
use Rattle.life_core.specs.declared.instr.Form.{Form}
use Rattle.life_core.specs.declared.program.Local.{Local}
use Rattle.life_core.specs.Function.{Function}
use Rattle.life_core.specs.Holdings.{Holding, Blank, AnObject, ANumber, APointer, AView, sort_of}
use Rattle.life_core.specs.Operands.{Location, Operand, Name, Through}
use Rattle.life_store.specs.Births.{born_owner, live_of}
use Rattle.life_store.specs.Calls.{born_with, first_given, given, given_if, given_to, number_given, parameters_given, result_given, slot_born, target_given}
use Rattle.life_store.specs.Cells.{at, at-set_same}
use Rattle.life_store.specs.Content.{Object, Content, live_words_of, newborn, with_birth}
use Rattle.life_store.specs.Doing.{Setting, Effect, Next, Traps, Faults, Strays, Attempt, Got, GotTrap, GotFault, GotLost, Found, Here, Fixed, Outside, Wrong, Astray, born_object, cell, end_cell, end_locals, end_object, found_at, live_as, live_local, live_over, locate, member_pointed, on_found, on_got, on_next, on_place, pointed, put_cell, put_content, saved, with_value_object, word_of_number}
use Rattle.life_store.specs.Effects.{then_get}
use Rattle.life_store.specs.Held.{owner_word, pointer_words, resized_at, words_if, with_words, wrote}
use Rattle.life_store.specs.Owners.{Words, birth, ended, fresh, object_with, owning, sized_birth}
use Rattle.life_store.specs.Parts.{Parts, Single, Raw, Iterates, Views, Text, Vector, Unique, Member, NoMember, local_parts, local_type, parts_at, variable_type, width, word_within}
use Rattle.life_store.specs.Places.{behind_cell, behind_pointer, found_if, found_in, found_text, here_if, is_valid, location_cell, named_by, reached_if, reached_in}
use Rattle.life_store.specs.State.{Characters, Target, Pointer, Null, Wild, To, Static, Cell, Empty, Named, Number, Points, State}
use Rattle.life_store.specs.declared.run.TrapKind.TheVariants as trap
use Rattle.life_forest.proofs.Above.{with_words_size}
use Rattle.life_forest.proofs.Coming.{IfGot, got_then}
use Rattle.life_changes.specs.Bounded.{IsBounded}
use Rattle.life_changes.proofs.Bounds.{bounded_born, bounded_ended, bounded_object, bounded_resize, bounded_resized, bounded_without, bounded_wrote, with_words_capacity, with_words_width}

-- ---- what is found is there

abbrev pub IsIn : Content → Found → Type 0
IsIn c (Here n i o) = at c.objects n ≡ Some o
IsIn c (Fixed s) = Unit {0}
IsIn c Outside = Unit {0}
IsIn c (Wrong kind) = Unit {0}
IsIn c Astray = Unit {0}

found_is : (c : Content) (n i : ℕ) (x : Option Object) → at c.objects n ≡ x → IsIn c (found_in x n i)
found_is c n i None e = tt
found_is c n i (Some o) e = go (nat_lt i (length o.slots))
  where
    go : (b : Bool) → IsIn c (here_if b n i o)
    go true = e
    go false = tt

reached_is : (c : Content) (n i : ℕ) (x : Option Object) → at c.objects n ≡ x → IsIn c (reached_in x n i)
reached_is c n i None e = tt
reached_is c n i (Some o) e = go (nat_lt i (length o.slots))
  where
    go : (b : Bool) → IsIn c (reached_if b n i o)
    go true = e
    go false = tt

valid_is : (c : Content) (t : Target) (b : Bool) → IsIn c (found_if b c t)
valid_is c t true = reached_is c t.object t.index (at c.objects t.object) refl
valid_is c t false = tt

text_is : (c : Content) (n : Option ℕ) (s : Characters) → IsIn c (found_text n s)
text_is c None s = tt
text_is c (Some n) s = tt

behind_is : (c : Content) (p : Pointer) → IsIn c (behind_pointer c p)
behind_is c Null = tt
behind_is c Wild = tt
behind_is c (To t) = valid_is c t (is_valid c t)
behind_is c (Static s) = text_is c s.text s

cell_is : (c : Content) (v : Option Cell) → IsIn c (behind_cell c v)
cell_is c None = tt
cell_is c (Some Empty) = tt
cell_is c (Some (Named n)) = tt
cell_is c (Some (Number z)) = tt
cell_is c (Some (Points p)) = behind_is c p

named_is : (c : Content) (v : Option Cell) → IsIn c (named_by c v)
named_is c None = tt
named_is c (Some Empty) = tt
named_is c (Some (Named n)) = found_is c n 0 (at c.objects n) refl
named_is c (Some (Number z)) = tt
named_is c (Some (Points p)) = tt

pub located : (types : Types) (f : Function) (o : Operand) (st : State) → IsIn st.world.content (locate types f o st)
located types f (Name l) st = named_is st.world.content (cell st l.local)
located types f (Through p members) st = cell_is st.world.content (location_cell types f p st)

-- ---- behind an effect

module _ (limit : ℕ) where
  abbrev pub Bounds : Effect → Type 0
  Bounds (Next st) = IsBounded limit st.world.content
  Bounds (Traps kind) = Unit {0}
  Bounds (Faults kind) = Unit {0}
  Bounds Strays = Unit {0}

  pub got_bounds : {A : Type 0} (a : Attempt A) (go : A → Effect) → ((v : A) → Bounds (go v)) → Bounds (on_got a go)
  got_bounds (Got v) go h = h v
  got_bounds (GotTrap kind) go h = tt
  got_bounds (GotFault kind) go h = tt
  got_bounds GotLost go h = tt

  pub gets_bounds : {A : Type 0} (a : Attempt A) (P : A → Type 0) (go : A → Effect) → IfGot a P → ((v : A) → P v → Bounds (go v)) → Bounds (on_got a go)
  gets_bounds (Got v) P go h k = k v h
  gets_bounds (GotTrap kind) P go h k = tt
  gets_bounds (GotFault kind) P go h k = tt
  gets_bounds GotLost P go h k = tt

  pub next_bounds : (e : Effect) (go : State → Effect) → Bounds e → ((st : State) → IsBounded limit st.world.content → Bounds (go st)) → Bounds (on_next e go)
  next_bounds (Next st) go h k = k st h
  next_bounds (Traps kind) go h k = tt
  next_bounds (Faults kind) go h k = tt
  next_bounds Strays go h k = tt

  pub place_bounds : (c : Content) (x : Found) (go : ℕ → ℕ → Object → Effect) (fixed : Characters → Effect) → IsIn c x → ((n i : ℕ) (o : Object) → at c.objects n ≡ Some o → Bounds (go n i o)) → ((s : Characters) → Bounds (fixed s)) → Bounds (on_place x go fixed)
  place_bounds c (Here n i o) go fixed there h k = h n i o there
  place_bounds c (Fixed s) go fixed there h k = k s
  place_bounds c Outside go fixed there h k = tt
  place_bounds c (Wrong kind) go fixed there h k = tt
  place_bounds c Astray go fixed there h k = tt

  pub found_bounds : (c : Content) (x : Found) (go : ℕ → ℕ → Object → Effect) → IsIn c x → ((n i : ℕ) (o : Object) → at c.objects n ≡ Some o → Bounds (go n i o)) → Bounds (on_found x go)
  found_bounds c x go there h = place_bounds c x go (λ s. Strays) there h (λ s. tt)

  -- ---- words are written

  pub saved_bounded : (z : ℤ) (n i w : ℕ) (o : Object) (st : State) → at st.world.content.objects n ≡ Some o → IsBounded limit st.world.content → IsBounded limit (saved z n i w o st).world.content
  saved_bounded z n i w o st there h =
      let one : List ℕ = word_of_number z ∷ [] in
      bounded_object limit n o (with_words i w (word_of_number z ∷ []) o) st.world.content there (with_words_width i w one o) (with_words_capacity i w one o)
      (let s = with_words_size i w one o in let r = with_words_capacity i w one o in let l = h.roomy n o there in omega (arith, s, r, l)) h

  member_bounds : (types : Types) (f : Function) (x : ℕ) (ms : List ℕ) (v : Option Cell) (p : Pointer) (st : State) → IsBounded limit st.world.content → Bounds (member_pointed types f x ms v p st)
  member_bounds types f x [] v p st h = h
  member_bounds types f x (m ∷ ms) None p st h = tt
  member_bounds types f x (m ∷ ms) (Some Empty) p st h = tt
  member_bounds types f x (m ∷ ms) (Some (Named n)) p st h = bounded_wrote limit n 0 (word_within types (local_type types f x) (m ∷ ms)) (pointer_words p) st.world.content h
  member_bounds types f x (m ∷ ms) (Some (Number z)) p st h = tt
  member_bounds types f x (m ∷ ms) (Some (Points q)) p st h = tt

  -- a location is given a pointer
  pub pointed_bounds : (types : Types) (f : Function) (l : Location) (p : Pointer) (st : State) → IsBounded limit st.world.content → Bounds (pointed types f l p st)
  pointed_bounds types f l p st h = member_bounds types f l.local l.members (cell st l.local) p st h

  -- ---- ends

  object_bounds : (parts : Parts) (o : Option Object) (n x : ℕ) (st : State) → IsBounded limit st.world.content → Bounds (end_object parts o n x st)
  object_bounds parts None n x st h = tt
  object_bounds parts (Some o) n x st h =
      let ws = words_if (slice_get o.slots 0) in
      bounded_without limit n (ended parts ws st.world.content) (bounded_ended limit parts ws st.world.content h)

  cell_bounds : (parts : Parts) (o : Option Cell) (x : ℕ) (st : State) → IsBounded limit st.world.content → Bounds (end_cell parts o x st)
  cell_bounds parts None x st h = tt
  cell_bounds parts (Some Empty) x st h = tt
  cell_bounds parts (Some (Named n)) x st h = object_bounds parts (at st.world.content.objects n) n x st h
  cell_bounds parts (Some (Number z)) x st h = tt
  cell_bounds parts (Some (Points p)) x st h = h

  pub ends_bound : (types : Types) (f : Function) (xs : List ℕ) (st : State) → IsBounded limit st.world.content → Bounds (end_locals types f xs st)
  ends_bound types f [] st h = h
  ends_bound types f (x ∷ xs) st h = next_bounds (end_cell (local_parts types f x) (cell st x) x st) (end_locals types f xs) (cell_bounds (local_parts types f x) (cell st x) x st h) (λ st' k. ends_bound types f xs st' k)

  -- ---- births

  module _ (s : Setting) (cells : s.given.cells ≡ limit) where
    -- the limit lets it in
    fits_in : (n : ℕ) → nat_lt s.given.cells n ≡ false → n ≤ limit
    fits_in n e = let l = ltb-false s.given.cells n e in omega (arith, l, cells)

    object_born_bounds : (ty : TyId) (x : ℕ) (st : State) → IsBounded limit st.world.content → Bounds (born_object s ty x st)
    object_born_bounds ty x st h = go (nat_lt s.given.cells (live_words_of st.world.content + (2 + 1 * 1))) refl
      where
        go : (b : Bool) → nat_lt s.given.cells (live_words_of st.world.content + (2 + 1 * 1)) ≡ b
            → Bounds (cond b (Traps trap.Cells) (Next (put_cell x (Named st.world.content.births) (put_content (with_value_object ty st.world.content) st))))
        go true e = tt
        go false e =
            let c = st.world.content in
            let new = newborn ty 1 1 c.clock in
            let one : 1 ≤ 1 = omega arith in
            bounded_resize limit c.births 1 0 new (with_birth ty 1 1 c) (at-set_same c.objects c.births c.births new refl) (omega arith) one
            (bounded_born limit ty 1 1 c (fits_in (live_words_of c + (2 + 1 * 1)) e) h)

    birth_bounds : (ty : TyId) (w size : ℕ) (d : Content) → IsBounded limit d → IfGot (birth s ty w size d) (λ (b : ℕ × Content). IsBounded limit b.1)
    birth_bounds ty w size d h = go (nat_lt s.given.cells (live_words_of d + (2 + w * size))) refl
      where
        go : (x : Bool) → nat_lt s.given.cells (live_words_of d + (2 + w * size)) ≡ x → IfGot (cond x (GotTrap trap.Cells) (Got (d.births, with_birth ty w size d))) (λ (b : ℕ × Content). IsBounded limit b.1)
        go true e = tt
        go false e = bounded_born limit ty w size d (fits_in (live_words_of d + (2 + w * size)) e) h

    sized_bounds : (ty : TyId) (w size : ℕ) (d : Content) → IsBounded limit d → IfGot (sized_birth s ty w size d) (λ (b : ℕ × Content). IsBounded limit b.1)
    sized_bounds ty w size d h = go (nat_lt s.given.cells (live_words_of d + (2 + w * size))) refl
      where
        room : (o : Object) → at (with_birth ty w size d).objects d.births ≡ Some o → size ≤ o.capacity
        room o there =
            let new = newborn ty w size d.clock in
            let same : size ≡ o.capacity = ap (λ (x : Object). x.capacity) (same_Some new o (sym (at-set_same d.objects d.births d.births new refl) ∙ there)) in
            omega (arith, same)

        go : (x : Bool) → nat_lt s.given.cells (live_words_of d + (2 + w * size)) ≡ x
            → IfGot (then_get {A = ℕ × Content} (cond x (GotTrap trap.Cells) (Got (d.births, with_birth ty w size d))) (λ v. Got (v.0, resized_at v.0 size 0 v.1))) (λ (b : ℕ × Content). IsBounded limit b.1)
        go true e = tt
        go false e = bounded_resized limit d.births size 0 (with_birth ty w size d) (omega arith) room (bounded_born limit ty w size d (fits_in (live_words_of d + (2 + w * size)) e) h)

    buffer_bounds : (ty : TyId) (w : ℕ) (d : Content) → IsBounded limit d → IfGot (then_get (birth s ty w 0 d) (λ b. Got (owning b))) (λ (v : Words). IsBounded limit v.1)
    buffer_bounds ty w d h = got_then (birth s ty w 0 d) (λ b. Got (owning b)) (λ (b : ℕ × Content). IsBounded limit b.1) (λ (v : Words). IsBounded limit v.1) (birth_bounds ty w 0 d h) (λ b k. k)

    fresh_bounds : (form : Form) (p : Parts) (d : Content) → IsBounded limit d → IfGot (fresh s form p d) (λ (v : Words). IsBounded limit v.1)
    fresh_bounds form Single d h = h
    fresh_bounds form Raw d h = h
    fresh_bounds form Iterates d h = h
    fresh_bounds form Views d h = h
    fresh_bounds form (Text ty) d h = buffer_bounds ty 1 d h
    fresh_bounds form (Vector ty element) d h = buffer_bounds ty (width element) d h
    fresh_bounds form (Unique ty target) d h = h
    fresh_bounds form (Member first others) d h =
        got_then (fresh s form first d) (λ a. then_get (fresh s form others a.1) (λ b. Got (a.0 ++ b.0, b.1))) (λ (v : Words). IsBounded limit v.1) (λ (v : Words). IsBounded limit v.1) (fresh_bounds form first d h)
        (λ a k. got_then (fresh s form others a.1) (λ b. Got (a.0 ++ b.0, b.1)) (λ (v : Words). IsBounded limit v.1) (λ (v : Words). IsBounded limit v.1) (fresh_bounds form others a.1 k) (λ b j. j))
    fresh_bounds form NoMember d h = h

    -- an object with a fresh value
    with_bounds : (ty : TyId) (p : Parts) (form : Form) (d : Content) → IsBounded limit d → IfGot (object_with s ty p (fresh s form p) d) (λ (b : ℕ × Content). IsBounded limit b.1)
    with_bounds ty p form d h =
        got_then (sized_birth s ty (width p) 1 d) (λ b. then_get (fresh s form p b.1) (λ v. Got (b.0, wrote b.0 0 0 v.0 v.1))) (λ (b : ℕ × Content). IsBounded limit b.1) (λ (b : ℕ × Content). IsBounded limit b.1) (sized_bounds ty (width p) 1 d h)
        (λ b k. got_then (fresh s form p b.1) (λ v. Got (b.0, wrote b.0 0 0 v.0 v.1)) (λ (v : Words). IsBounded limit v.1) (λ (b' : ℕ × Content). IsBounded limit b'.1) (fresh_bounds form p b.1 k) (λ v j. bounded_wrote limit b.0 0 0 v.0 v.1 j))

    owner_bounds : (ty : TyId) (p : Parts) (form : Form) (x : ℕ) (st : State) → IsBounded limit st.world.content → Bounds (born_owner s ty p form x st)
    owner_bounds ty p form x st h = gets_bounds (object_with s ty p (fresh s form p) st.world.content) (λ (b : ℕ × Content). IsBounded limit b.1) (λ b. Next (put_cell x (Named b.0) (put_content b.1 st))) (with_bounds ty p form st.world.content h) (λ b k. k)

    live_of_bounds : (ty : TyId) (p : Parts) (form : Form) (x : ℕ) (st : State) → IsBounded limit st.world.content → Bounds (live_of s ty p form x st)
    live_of_bounds ty Single form x st h = tt
    live_of_bounds ty Raw form x st h = tt
    live_of_bounds ty Iterates form x st h = h
    live_of_bounds ty Views form x st h = h
    live_of_bounds ty (Text id) form x st h = owner_bounds ty (Text id) form x st h
    live_of_bounds ty (Vector id element) form x st h = owner_bounds ty (Vector id element) form x st h
    live_of_bounds ty (Unique id target) form x st h = owner_bounds ty (Unique id target) form x st h
    live_of_bounds ty (Member first others) form x st h = owner_bounds ty (Member first others) form x st h
    live_of_bounds ty NoMember form x st h = tt

    live_as_bounds : (types : Types) (sort : Holding) (ty : TyId) (form : Form) (x : ℕ) (st : State) → IsBounded limit st.world.content → Bounds (live_as s types sort ty form x st)
    live_as_bounds types Blank ty form x st h = live_of_bounds ty (parts_at types ty) form x st h
    live_as_bounds types AnObject ty form x st h = object_born_bounds ty x st h
    live_as_bounds types ANumber ty form x st h = tt
    live_as_bounds types APointer ty form x st h = h
    live_as_bounds types AView ty form x st h = h

    live_over_bounds : (types : Types) (o : Option Cell) (sort : Holding) (ty : TyId) (form : Form) (x : ℕ) (st : State) → IsBounded limit st.world.content → Bounds (live_over s types o sort ty form x st)
    live_over_bounds types None sort ty form x st h = tt
    live_over_bounds types (Some Empty) sort ty form x st h = live_as_bounds types sort ty form x st h
    live_over_bounds types (Some (Named n)) sort ty form x st h = tt
    live_over_bounds types (Some (Number z)) sort ty form x st h = tt
    live_over_bounds types (Some (Points p)) sort ty form x st h = tt

    pub live_bounds : (types : Types) (f : Function) (l : Option Local) (form : Form) (x : ℕ) (st : State) → IsBounded limit st.world.content → Bounds (live_local s types f l form x st)
    live_bounds types f None form x st h = tt
    live_bounds types f (Some l) form x st h = live_over_bounds types (cell st x) (sort_of types f x) l.ty form x st h

    -- ---- what is given

    born_with_bounds : (ty : TyId) (z : ℤ) (x : ℕ) (st : State) → IsBounded limit st.world.content → Bounds (born_with s ty z x st)
    born_with_bounds ty z x st h =
        next_bounds (born_object s ty x st) (λ born. on_found (found_at born.world.content st.world.content.births 0) (λ n i o. Next (saved z n i 0 o born))) (object_born_bounds ty x st h)
        (λ born k. found_bounds born.world.content (found_at born.world.content st.world.content.births 0) (λ n i o. Next (saved z n i 0 o born))
        (found_is born.world.content st.world.content.births 0 (at born.world.content.objects st.world.content.births) refl) (λ n i o there. saved_bounded z n i 0 o born there k))

    number_given_bounds : (sort : Holding) (ty : TyId) (z : ℤ) (x : ℕ) (st : State) → IsBounded limit st.world.content → Bounds (number_given s sort ty z x st)
    number_given_bounds Blank ty z x st h = tt
    number_given_bounds AnObject ty z x st h = born_with_bounds ty z x st h
    number_given_bounds ANumber ty z x st h = h
    number_given_bounds APointer ty z x st h = tt
    number_given_bounds AView ty z x st h = tt

    -- a slot of a unique_ptr
    slot_bounds : (types : Types) (ty : TyId) (owned : Option ℕ) (x : ℕ) (st : State) → IsBounded limit st.world.content → Bounds (slot_born s types ty owned x st)
    slot_bounds types ty owned x st h =
        let id = variable_type types ty (slice_get types.types ty.0) in
        let words : List ℕ = owner_word owned ∷ [] in
        gets_bounds (object_with s id Single (λ c. Got (words, c)) st.world.content) (λ (b : ℕ × Content). IsBounded limit b.1) (λ b. Next (put_cell x (Named b.0) (put_content b.1 st)))
        (got_then (sized_birth s id 1 1 st.world.content) (λ b. Got (b.0, wrote b.0 0 0 words b.1)) (λ (b : ℕ × Content). IsBounded limit b.1) (λ (b : ℕ × Content). IsBounded limit b.1) (sized_bounds id 1 1 st.world.content h) (λ b k. bounded_wrote limit b.0 0 0 words b.1 k))
        (λ b k. k)

    either_bounds : (b : Bool) (x y : Effect) → Bounds x → Bounds y → Bounds (cond b x y)
    either_bounds true x y h k = h
    either_bounds false x y h k = k

    given_to_bounds : (types : Types) (sort : Holding) (ty : TyId) (v : Cell) (x : ℕ) (st : State) → IsBounded limit st.world.content → Bounds (given_to s types sort ty v x st)
    given_to_bounds types sort ty Empty x st h = either_bounds (is_slot_at types ty) (slot_born s types ty None x st) Strays (slot_bounds types ty None x st h) tt
    given_to_bounds types sort ty (Named n) x st h = either_bounds (is_slot_at types ty) (slot_born s types ty (Some n) x st) (Next (put_cell x (Named n) st)) (slot_bounds types ty (Some n) x st h) h
    given_to_bounds types sort ty (Number z) x st h = number_given_bounds sort ty z x st h
    given_to_bounds types sort ty (Points p) x st h = h

    given_if_bounds : (types : Types) (f : Function) (l : Option Local) (v : Cell) (x : ℕ) (st : State) → IsBounded limit st.world.content → Bounds (given_if s types f l v x st)
    given_if_bounds types f None v x st h = tt
    given_if_bounds types f (Some l) v x st h = given_to_bounds types (sort_of types f x) l.ty v x st h

    given_bounds : (types : Types) (f : Function) (v : Cell) (x : ℕ) (st : State) → IsBounded limit st.world.content → Bounds (given s types f v x st)
    given_bounds types f v x st h = given_if_bounds types f (slice_get f.locals x) v x st h

    pub parameters_bound : (types : Types) (f : Function) (x : ℕ) (vs : List Cell) (st : State) → IsBounded limit st.world.content → Bounds (parameters_given s types f x vs st)
    parameters_bound types f x [] st h = h
    parameters_bound types f x (v ∷ vs) st h = next_bounds (given s types f v x st) (parameters_given s types f (x + 1) vs) (given_bounds types f v x st h) (λ st' k. parameters_bound types f (x + 1) vs st' k)

    result_bounds : (types : Types) (f : Function) (l : Location) (ms : List ℕ) (v : Cell) (st : State) → IsBounded limit st.world.content → Bounds (result_given s types f l ms v st)
    result_bounds types f l [] v st h = given_bounds types f v l.local st h
    result_bounds types f l (m ∷ ms) Empty st h = tt
    result_bounds types f l (m ∷ ms) (Named n) st h = tt
    result_bounds types f l (m ∷ ms) (Number z) st h = tt
    result_bounds types f l (m ∷ ms) (Points p) st h = pointed_bounds types f l p st h

    first_bounds : (types : Types) (f : Function) (vs : List Cell) (l : Location) (st : State) → IsBounded limit st.world.content → Bounds (first_given s types f vs l st)
    first_bounds types f [] l st h = tt
    first_bounds types f (v ∷ vs) l st h = result_bounds types f l l.members v st h

    pub target_bounds : (types : Types) (f : Function) (l : Option Location) (vs : List Cell) (st : State) → IsBounded limit st.world.content → Bounds (target_given s types f l vs st)
    target_bounds types f None vs st h = h
    target_bounds types f (Some l) vs st h = first_bounds types f vs l st h
