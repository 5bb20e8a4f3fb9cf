-- Saves, moves, changes and what a unique_ptr is made to own keep the pointers that objects of the frame hold.
use Rattle.std.proofs.Common.{◌≡◌, ⊎_elim, inr, ℕ, zero, suc, ◌+◌, ◌≤◌, ◌<◌, List, [], ◌∷◌, length, length-append, Option, Some, None, refl, sym, ap, subst, ◌∙◌, arith}
use Rattle.std.specs.Prelude.{ℤ, drop, slice_index, take}
use Rattle.std.specs.Int.{cast_unsigned, w64}
use Rattle.life_types.specs.Trees.{IsOrdered}
use Rattle.life_types.specs.Types.{Types}
use Rattle.life_types.specs.declared.ty.TyId.{TyId}
use Rattle.life_core.specs.declared.instr.Form.TheVariants as form
use Rattle.life_core.specs.declared.instr.Made.{Made}
use Rattle.life_core.specs.declared.instr.Made.TheVariants as made
use Rattle.life_core.specs.Function.{Function}
use Rattle.life_core.specs.Operands.{Location, Operand}
use Rattle.life_core.specs.Operands as source
use Rattle.life_core.specs.Step.{Change, PushBack, PopBack, Clear, Reserve, Erase, Set, Append}
use Rattle.life_store.specs.Cells.{at}
use Rattle.life_store.specs.Content.{Object, Content}
use Rattle.life_store.specs.Doing.{changed, edits, giving, made_fresh, made_of, makes, moved_to, moves, moves_from, on_given, pushes, remade, replaced, saved}
use Rattle.life_store.specs.Edits.{Edit, Push, Pop, Clear as ClearAll, Reserve as Room, Put, Add, edited, owned_at}
use Rattle.life_store.specs.Effects.{Setting, Got, Effect, Next, Traps, Faults, Strays, cell, on_got, on_next, on_number, put_cell, put_content, word_of_number}
use Rattle.life_store.specs.Held.{owned_in, owner_word, slot_words, wrote_if}
use Rattle.life_store.specs.Kinds.{Owner, kind_in}
use Rattle.life_store.specs.Owners.{Words, consumed, fresh, object_with, renamed, renamed_if, taken}
use Rattle.life_store.specs.Parts.{Parts, Single, Raw, Iterates, Views, Text, Vector, Unique, Member, NoMember, local_parts, local_type, location_parts, location_type, operand_type, parts_at, parts_if, width, width_at}
use Rattle.life_store.specs.Places.{Found, Here, Fixed, Outside, Wrong, Astray, Spot, locate, location_cell, on_found, on_location, operand_word}
use Rattle.life_store.specs.State.{Cell, Empty, Named, Number, Points, State}
use Rattle.life_store.specs.Views.{seen_words, used}
use Rattle.life_store.proofs.CellLemmas.{some_same}
use Rattle.life_forest.specs.FrameTypes.{Stands}
use Rattle.life_forest.specs.Frames.{OnNext, named_in}
use Rattle.life_forest.specs.Owned.{times}
use Rattle.life_forest.specs.Within.{LiesWithin}
use Rattle.life_forest.proofs.Begins.{row_cases}
use Rattle.life_forest.proofs.FrameChanges.{on_buffer}
use Rattle.life_forest.proofs.Frames.{on_got_next}
use Rattle.life_forest.proofs.Following.{IsOwned}
use Rattle.life_forest.proofs.Holding.{KeepsHeld, KeepsOn, held_cell, held_content}
use Rattle.life_forest.proofs.Keeping.{BornKeeps, MayWrite, consumed_keeps, fresh_keeps, keeps_self, keeps_wrote, object_keeps, taken_keeps}
use Rattle.life_forest.proofs.KeepingEdits.{edited_keeps, moved_keeps, replaced_keeps}
use Rattle.life_forest.proofs.Lists.{length_back, length_front}
use Rattle.life_forest.proofs.Members.{within_self}
use Rattle.life_forest.proofs.Operands.{FoundWell, IsPlace, OperandAims, on_location_next, on_spot_next, operand_well}
use Rattle.life_forest.proofs.Placed.{place_owns}
use Rattle.life_forest.proofs.PlainTypes.{HasNoPointer}
use Rattle.life_forest.proofs.StandingChanges.{on_got_each, on_number_next}
use Rattle.life_forest.proofs.WrittenPointers.{IsNoPointer}

-- ---- words that are no pointer's

-- a value of less than five words has no pointer
pub narrow_free : (p : Parts) (u : ℕ) → width p < 5 → u < width p → IsNoPointer (kind_in p u)
narrow_free Single u small lt = tt
narrow_free Raw u small lt = absurd (omega (arith, small))
narrow_free Iterates u small lt = absurd (omega (arith, small))
narrow_free Views u small lt = absurd (omega (arith, small))
narrow_free (Text id) zero small lt = tt
narrow_free (Text id) (suc u) small lt = tt
narrow_free (Vector id element) zero small lt = tt
narrow_free (Vector id element) (suc u) small lt = tt
narrow_free (Unique id target) zero small lt = tt
narrow_free (Unique id target) (suc u) small lt = tt
narrow_free (Member first others) u small lt =
    ⊎_elim
    (λ h. subst IsNoPointer (sym h.1) (narrow_free first u (omega (arith, small)) h.0))
    (λ h. let e = h.1 in subst IsNoPointer (sym h.2) (narrow_free others h.0 (omega (arith, small)) (omega (arith, lt, e))))
    (row_cases (width first) (kind_in first) (kind_in others) u)
narrow_free NoMember u small lt = tt

-- .. and gives over as many words as it has
renamed_wide : (o : Option ℕ) (c : Content) → length (renamed o c).0 ≡ 1
renamed_wide None c = refl
renamed_wide (Some n) c = go (at c.objects n)
  where
    go : (o : Option Object) → length (renamed_if o n c).0 ≡ 1
    go None = refl
    go (Some o) = refl

taken_wide : (p : Parts) (ws : List ℕ) (c : Content) → length ws ≡ width p → length (taken p ws c).0 ≡ width p
taken_wide Single ws c e = e
taken_wide Raw ws c e = e
taken_wide Iterates ws c e = e
taken_wide Views ws c e = e
taken_wide (Text id) ws c e = renamed_wide (owned_in (slice_index ws 0)) c
taken_wide (Vector id element) ws c e = e
taken_wide (Unique id target) ws c e = e
taken_wide (Member first others) ws c e =
    let a = taken first (take (width first) ws) c in
    let front = taken_wide first (take (width first) ws) c (length_front (width first) (width others) ws e) in
    let back = taken_wide others (drop (width first) ws) a.1 (length_back (width first) (width others) ws e) in
    let both = length-append a.0 (taken others (drop (width first) ws) a.1).0 in
    omega (arith, front, back, both)
taken_wide NoMember ws c e = e

module _ (types : Types) (ordered : IsOrdered types) (f : Function) (rest : ℕ → ℕ) (st : State) (stands : Stands types f rest st) where
  abbrev c : Content
  c = st.world.content

  abbrev Loose : ℕ → Type 0
  Loose n = IsOwned types st.world.content n

  abbrev has : ℕ → ℕ
  has k = times (named_in st.cells) k + rest k

  same_content : KeepsOn types f st st.world.content
  same_content = keeps_self types Loose st.world.content

  -- ---- places of values and owners

  module _ (part : TyId) (n i w : ℕ) (o : Object) (place : IsPlace types st.world.content part n i w o) where
    abbrev spot : Spot
    spot = record { object = n; index = i; word = w }

    -- words that are no pointer's may be written
    pub place_words : HasNoPointer (parts_at types part) → (len : ℕ) → len ≤ width_at types part → MayWrite types ordered (IsOwned types st.world.content) st.world.content n w len
    place_words free len le =
        inr (λ x e j lt. subst (λ (y : Object). IsNoPointer (kind_in (parts_at types y.ty) (w + j))) (some_same (sym place.there ∙ e))
        (subst IsNoPointer (sym (place.within.words j (omega (arith, le, lt)))) (free j (omega (arith, le, lt)))))

    -- .. as one word may
    pub place_writes : width_at types part ≡ 1 → (len : ℕ) → len ≤ 1 → MayWrite types ordered (IsOwned types st.world.content) st.world.content n w len
    place_writes one len le = place_words (λ u lt. narrow_free (parts_at types part) u (omega (arith, one)) lt) len (omega (arith, le, one))

    -- ---- one edit of an owner

    pub edits_keep : (s : Setting) (p : Parts) (edit : Edit) → parts_at types part ≡ p → width p ≡ 1 → kind_in p 0 ≡ Owner → ((value : Content → Words) → edit ≡ Push value → (e : Content) → KeepsOn types f st e → KeepsOn types f st (value e).1)
        → OnNext (edits s p (record { object = n; index = i; word = w }) edit st) (KeepsHeld types f st)
    edits_keep s p edit is one owner each =
        on_buffer (owned_at c spot) (λ b. on_got (edited s p spot b edit c) (λ d. Next (put_content d st))) (KeepsHeld types f st)
        (λ b owned. on_got_next (edited s p spot b edit c) (λ d. Next (put_content d st)) (KeepsOn types f st) (KeepsHeld types f st)
        (edited_keeps types ordered Loose c b
        (place_owns types ordered has st.world.content stands.store part n i w o place (ap width is ∙ one) (ap (λ (r : Parts). kind_in r 0) is ∙ owner) b owned) s p spot edit c (place_writes (ap width is ∙ one) 1 (omega arith)) each same_content)
        (λ d h. held_content types f st d h))

    -- all changes but that an element is erased, which makes a pointer
    abbrev pub IsNoErase : Change → Type 0
    IsNoErase (Erase from into) = ⊥
    IsNoErase _ = Unit {0}

    pub changed_keeps : (s : Setting) (p : Parts) → parts_at types part ≡ p → width p ≡ 1 → kind_in p 0 ≡ Owner → (change : Change) → IsNoErase change
        → OnNext (changed s types f p (record { object = n; index = i; word = w }) change st) (KeepsHeld types f st)
    changed_keeps s p is one owner (PushBack x) plain = pushed_on (cell st x)
      where
        same : (a b : Content → Words) → Push a ≡ Push b → a ≡ b
        same a b e = cc

        pushed : (value : Content → Words) → ((e : Content) → KeepsOn types f st e → KeepsOn types f st (value e).1) → OnNext (edits s p (record { object = n; index = i; word = w }) (Push value) st) (KeepsHeld types f st)
        pushed value keeps = edits_keep s p (Push value) is one owner (λ v k e h. subst (λ (u : Content → Words). KeepsOn types f st (u e).1) (same value v k) (keeps e h))

        given_over : (e : Effect) → OnNext e (KeepsHeld types f st) → OnNext (on_next e (λ after. Next (put_cell x Empty after))) (KeepsHeld types f st)
        given_over (Next after) h = held_cell types f st after x Empty (λ m k. unlike m k) h
          where
            unlike : (m : ℕ) → Empty ≡ Named m → ⊥
            unlike m k = cc
        given_over (Traps kind) h = tt
        given_over (Faults kind) h = tt
        given_over Strays h = tt

        pushed_on : (v : Option Cell) → OnNext (pushes s types f p (record { object = n; index = i; word = w }) x v st) (KeepsHeld types f st)
        pushed_on None = tt
        pushed_on (Some Empty) = tt
        pushed_on (Some (Points q)) = tt
        pushed_on (Some (Number z)) = pushed (λ d. (word_of_number z ∷ [], d)) (λ e h. h)
        pushed_on (Some (Named m)) =
            given_over (edits s p spot (Push (consumed (local_parts types f x) m)) st)
            (pushed (consumed (local_parts types f x) m) (λ e h. consumed_keeps types ordered Loose c (local_parts types f x) m e h))
    changed_keeps s p is one owner PopBack plain = edits_keep s p Pop is one owner (λ v k e h. absurd (unlike v k))
      where
        unlike : (v : Content → Words) → Pop ≡ Push v → ⊥
        unlike v k = cc
    changed_keeps s p is one owner Clear plain = edits_keep s p ClearAll is one owner (λ v k e h. absurd (unlike v k))
      where
        unlike : (v : Content → Words) → ClearAll ≡ Push v → ⊥
        unlike v k = cc
    changed_keeps s p is one owner (Reserve r) plain =
        on_number_next (cell st r) (λ z. edits s p spot (Room (cast_unsigned w64 z)) st) (KeepsHeld types f st) (λ z. edits_keep s p (Room (cast_unsigned w64 z)) is one owner (λ v k e h. absurd (unlike z v k)))
      where
        unlike : (z : ℤ) (v : Content → Words) → Room (cast_unsigned w64 z) ≡ Push v → ⊥
        unlike z v k = cc
    changed_keeps s p is one owner (Erase from into) plain = absurd plain
    changed_keeps s p is one owner (Set given) plain = given_on given (λ ws. edits s p spot (Put ws) st) (λ ws. edits_keep s p (Put ws) is one owner (λ v k e h. absurd (unlike ws v k)))
      where
        unlike : (ws : List ℕ) (v : Content → Words) → Put ws ≡ Push v → ⊥
        unlike ws v k = cc

        given_on : (g : source.Characters) (go : List ℕ → Effect) → ((ws : List ℕ) → OnNext (go ws) (KeepsHeld types f st)) → OnNext (on_given s types f g st go) (KeepsHeld types f st)
        given_on (source.View l) go each = on_got_each (used c (location_cell types f l st)) (λ v. go (seen_words s.texts c v)) (KeepsHeld types f st) (λ v. each (seen_words s.texts c v))
        given_on (source.Single r) go each = on_number_next (cell st r) (λ z. go (word_of_number z ∷ [])) (KeepsHeld types f st) (λ z. each (word_of_number z ∷ []))
    changed_keeps s p is one owner (Append given) plain = given_on given (λ ws. edits s p spot (Add ws) st) (λ ws. edits_keep s p (Add ws) is one owner (λ v k e h. absurd (unlike ws v k)))
      where
        unlike : (ws : List ℕ) (v : Content → Words) → Add ws ≡ Push v → ⊥
        unlike ws v k = cc

        given_on : (g : source.Characters) (go : List ℕ → Effect) → ((ws : List ℕ) → OnNext (go ws) (KeepsHeld types f st)) → OnNext (on_given s types f g st go) (KeepsHeld types f st)
        given_on (source.View l) go each = on_got_each (used c (location_cell types f l st)) (λ v. go (seen_words s.texts c v)) (KeepsHeld types f st) (λ v. each (seen_words s.texts c v))
        given_on (source.Single r) go each = on_number_next (cell st r) (λ z. go (word_of_number z ∷ [])) (KeepsHeld types f st) (λ z. each (word_of_number z ∷ []))

  -- ---- a number is saved

  pub saved_keeps : (part : TyId) → parts_at types part ≡ Single → (z : ℤ) (m i w : ℕ) (object : Object) → IsPlace types st.world.content part m i w object → KeepsHeld types f st (saved z m i w object st)
  saved_keeps part single z m i w object place =
      subst (λ d. KeepsHeld types f st (put_content d st)) (ap (λ (x : Option Object). wrote_if x m i w (word_of_number z ∷ []) c) place.there)
      (held_content types f st _ (keeps_wrote types ordered Loose c m i w (word_of_number z ∷ []) c (place_writes part m i w object place (ap width single) 1 (omega arith)) same_content))

  pub saves_keep : (o : Operand) (r : ℕ) (part : TyId) → operand_type types f o ≡ Some part → OperandAims types f st o → parts_at types part ≡ Single
      → OnNext (on_number (cell st r) (λ z. on_found (locate types f o st) (λ n i object. Next (saved z n i (operand_word types f o st) object st)))) (KeepsHeld types f st)
  saves_keep o r part typed aims single =
      on_number_next (cell st r) (λ z. on_found (locate types f o st) (λ n i object. Next (saved z n i (operand_word types f o st) object st))) (KeepsHeld types f st)
      (λ z. over z (locate types f o st) (operand_well types ordered f st stands.frame o part typed aims))
    where
      over : (z : ℤ) (found : Found) → FoundWell types st.world.content part (operand_word types f o st) found → OnNext (on_found found (λ n i object. Next (saved z n i (operand_word types f o st) object st))) (KeepsHeld types f st)
      over z (Here n i object) place = saved_keeps part single z n i (operand_word types f o st) object place
      over z (Fixed t) place = tt
      over z Outside place = tt
      over z (Wrong kind) place = tt
      over z Astray place = tt

  -- ---- an owner is moved

  pub moves_keep : (to : Operand) (y : ℕ) (part : TyId) → operand_type types f to ≡ Some part → OperandAims types f st to → local_type types f y ≡ Some part → width_at types part ≡ 1 → OnNext (moves types f to y st) (KeepsHeld types f st)
  moves_keep to y part typed aims typed_from one =
      on_spot_next types ordered f st stands.frame to part (λ spot. moves_from (local_parts types f y) spot (cell st y) st) (KeepsHeld types f st) typed aims
      (λ n i w o place. subst (λ (id : Option TyId). OnNext (moves_from (parts_if types id) (record { object = n; index = i; word = w }) (cell st y) st) (KeepsHeld types f st)) (sym typed_from) (over n i w o place (cell st y) refl))
    where
      over : (n i w : ℕ) (o : Object) → IsPlace types st.world.content part n i w o → (v : Option Cell) → cell st y ≡ v → OnNext (moves_from (parts_at types part) (record { object = n; index = i; word = w }) v st) (KeepsHeld types f st)
      over n i w o place None e = tt
      over n i w o place (Some Empty) e = tt
      over n i w o place (Some (Number z)) e = tt
      over n i w o place (Some (Points p)) e = tt
      over n i w o place (Some (Named m)) e =
          on_got_each (giving (parts_at types part) (owned_in (slice_index (slot_words c m 0) 0)))
          (λ owned. Next (put_content (moved_to (parts_at types part) (record { object = n; index = i; word = w }) m (taken (parts_at types part) (owner_word owned ∷ []) c)) st)) (KeepsHeld types f st)
          (λ owned. held_content types f st _
          (moved_keeps types ordered Loose c (parts_at types part) (record { object = n; index = i; word = w }) m (taken (parts_at types part) (owner_word owned ∷ []) c)
          (place_writes part n i w o place one (length (taken (parts_at types part) (owner_word owned ∷ []) c).0) (let l = taken_wide (parts_at types part) (owner_word owned ∷ []) c (sym one) in omega (arith, l, one)))
          from
          (taken_keeps types ordered Loose c (parts_at types part) (owner_word owned ∷ []) c same_content)))
        where
          from : MayWrite types ordered (IsOwned types st.world.content) st.world.content m 0 1
          from =
              let v = stands.frame.objects y m e in
              let type : part ≡ v.object.ty = some_same (sym typed_from ∙ v.type) in
              place_writes part m 0 0 v.object (record { there = v.there; slot = (let l = ap length v.one in omega (arith, l)); within = subst (λ id. LiesWithin types id 0 part) type (within_self types part) }) one 1 (omega arith)

  -- ---- a unique_ptr is given null, a new object as it comes to life, one of a number, or one of a temporary

  module _ (u : Location) (part id : TyId) (typed : location_type types f u ≡ Some part) (is : parts_at types part ≡ Unique id (parts_at types id)) where
    abbrev owner : Parts
    owner = Unique id (parts_at types id)

    on_owner : (go : Parts → Spot → Effect) → ((n w : ℕ) (o : Object) → IsPlace types st.world.content part n 0 w o → OnNext (go (Unique id (parts_at types id)) (record { object = n; index = 0; word = w })) (KeepsHeld types f st))
        → OnNext (on_location types f u st (go (location_parts types f u))) (KeepsHeld types f st)
    on_owner go each =
        on_location_next types ordered f st stands.frame u part (go (location_parts types f u)) (KeepsHeld types f st) typed
        (λ n w o place. subst (λ (p : Parts). OnNext (go p (record { object = n; index = 0; word = w })) (KeepsHeld types f st)) (sym (ap (parts_if types) typed ∙ is)) (each n w o place))

    replaced_holds : (n w : ℕ) (o : Object) → IsPlace types st.world.content part n 0 w o → (x : ℕ) (d : Content) → KeepsOn types f st d → KeepsOn types f st (replaced (Unique id (parts_at types id)) (record { object = n; index = 0; word = w }) (x ∷ [], d))
    replaced_holds n w o place x d keeps = replaced_keeps types ordered Loose c owner (record { object = n; index = 0; word = w }) (x ∷ [], d) (place_writes part n 0 w o place (ap width is) 1 (omega arith)) keeps

    pub makes_keep : (s : Setting) (m : Made) → OnNext (makes s types f u m st) (KeepsHeld types f st)
    makes_keep s made.Null =
        on_owner (λ p spot. Next (put_content (replaced p spot (owner_word None ∷ [], c)) st)) (λ n w o place. held_content types f st _ (replaced_holds n w o place (owner_word None) c same_content))
    makes_keep s made.Zero =
        on_owner (λ p spot. made_fresh s p spot st)
        (λ n w o place. on_got_next (object_with s id (parts_at types id) (fresh s form.Zero (parts_at types id)) c) (λ b. Next (remade owner (record { object = n; index = 0; word = w }) b st)) (BornKeeps types ordered Loose c) (KeepsHeld types f st)
        (object_keeps types ordered Loose c s id (parts_at types id) (fresh s form.Zero (parts_at types id)) c same_content (λ e h. fresh_keeps types ordered Loose c s form.Zero (parts_at types id) e h))
        (λ b h. held_content types f st _ (replaced_holds n w o place (owner_word (Some b.0)) b.1 h.1)))
    makes_keep s (made.Of x) = on_owner (λ p spot. made_of s types f p spot x (cell st x) st) (λ n w o place. over n w o place (cell st x))
      where
        unlike : (m : ℕ) → Empty ≡ Named m → ⊥
        unlike m k = cc

        over : (n w : ℕ) (o : Object) → IsPlace types st.world.content part n 0 w o → (v : Option Cell) → OnNext (made_of s types f (Unique id (parts_at types id)) (record { object = n; index = 0; word = w }) x v st) (KeepsHeld types f st)
        over n w o place None = tt
        over n w o place (Some Empty) = tt
        over n w o place (Some (Points p)) = tt
        over n w o place (Some (Number z)) =
            on_got_next (object_with s id (parts_at types id) (λ d. Got (word_of_number z ∷ [], d)) c) (λ b. Next (remade owner (record { object = n; index = 0; word = w }) b st)) (BornKeeps types ordered Loose c) (KeepsHeld types f st)
            (object_keeps types ordered Loose c s id (parts_at types id) (λ d. Got (word_of_number z ∷ [], d)) c same_content (λ d h. h))
            (λ b h. held_content types f st _ (replaced_holds n w o place (owner_word (Some b.0)) b.1 h.1))
        over n w o place (Some (Named m)) =
            on_got_next (object_with s id (parts_at types id) (λ d. Got (consumed (local_parts types f x) m d)) c) (λ b. Next (put_cell x Empty (remade owner (record { object = n; index = 0; word = w }) b st))) (BornKeeps types ordered Loose c) (KeepsHeld types f st)
            (object_keeps types ordered Loose c s id (parts_at types id) (λ d. Got (consumed (local_parts types f x) m d)) c same_content (λ d h. consumed_keeps types ordered Loose c (local_parts types f x) m d h))
            (λ b h. held_cell types f st (remade owner (record { object = n; index = 0; word = w }) b st) x Empty unlike (held_content types f st _ (replaced_holds n w o place (owner_word (Some b.0)) b.1 h.1)))
