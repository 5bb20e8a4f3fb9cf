-- A frame stands behind moves of owners, and where a unique_ptr is given a new object or null.
use Rattle.std.proofs.Common.{◌≡◌, ℕ, ◌+◌, ◌<◌, List, [], ◌∷◌, length, Option, Some, None, refl, sym, ap, subst, ◌∙◌, arith}
use Rattle.std.specs.Prelude.{ℤ, slice_index}
use Rattle.life_types.specs.Trees.{IsOrdered}
use Rattle.life_types.specs.Types.{Types}
use Rattle.life_types.specs.declared.ty.TyId.{TyId}
use Rattle.life_core.specs.declared.instr.Form.TheVariants as form
use Rattle.life_core.specs.declared.instr.Made.{Made}
use Rattle.life_core.specs.declared.instr.Made.TheVariants as made
use Rattle.life_core.specs.Function.{Function}
use Rattle.life_core.specs.Operands.{Location, Operand}
use Rattle.life_store.specs.Content.{Object, Content}
use Rattle.life_store.specs.Doing.{giving, made_fresh, made_of, makes, moved_to, moves, moves_from, remade, replaced, word_of_number}
use Rattle.life_store.specs.Effects.{Setting, Got, Effect, Next, cell, put_cell, put_content}
use Rattle.life_store.specs.Held.{owned_in, owner_word, slot_words, wrote}
use Rattle.life_store.specs.Owners.{consumed, fresh, object_with, taken}
use Rattle.life_store.specs.Parts.{Parts, Single, Unique, local_parts, local_type, location_parts, location_type, operand_type, parts_at, parts_if, width, width_at}
use Rattle.life_store.specs.Places.{Spot, on_location}
use Rattle.life_store.specs.State.{Cell, Empty, Named, Number, Points, State}
use Rattle.life_store.proofs.CellLemmas.{some_same}
use Rattle.life_forest.specs.FrameTypes.{Stands}
use Rattle.life_forest.specs.Frames.{HasStore, OnNext, named_in}
use Rattle.life_forest.specs.Kinds.{owned_type, rank_of}
use Rattle.life_store.specs.Kinds.{kind_in}
use Rattle.life_forest.specs.Owned.{times}
use Rattle.life_forest.specs.Within.{LiesWithin}
use Rattle.life_forest.proofs.Above.{Remains, above_apart, above_unowned, owner_above, remains_moved}
use Rattle.life_forest.proofs.FrameChanges.{make_keeps, make_number_keeps, make_object_keeps, null_keeps}
use Rattle.life_forest.proofs.FrameMoves.{move_keeps, words_are}
use Rattle.life_forest.proofs.Frames.{on_got_next}
use Rattle.life_forest.proofs.Following.{Follows, IsOwned, follows_content, follows_empty, follows_stands, next_stands}
use Rattle.life_forest.proofs.Members.{within_self}
use Rattle.life_forest.proofs.Operands.{IsPlace, OperandAims, on_location_next, on_spot_next}
use Rattle.life_forest.proofs.StandingChanges.{on_got_each}
use Rattle.life_forest.proofs.Staying.{BornStays, consumed_stays_on, fresh_stays, object_stays, stays_self, taken_stays_on}
use Rattle.life_forest.proofs.StayingEdits.{moved_stays, replaced_stays}

module _ (types : Types) (ordered : IsOrdered types) (f : Function) (rest : ℕ → ℕ) (st : State) (stands : Stands types f rest st) where
  abbrev c : Content
  c = st.world.content

  abbrev has : ℕ → ℕ
  has k = times (named_in st.cells) k + rest k

  -- ---- moves

  pub moves_stand : (to : Operand) (y : ℕ) (part : TyId) → operand_type types f to ≡ Some part → OperandAims types f st to → local_type types f y ≡ Some part → width_at types part ≡ 1 → OnNext (moves types f to y st) (Stands types f rest)
  moves_stand to y part typed aims typed_from one =
      on_spot_next types ordered f st stands.frame to part (λ spot. moves_from (local_parts types f y) spot (cell st y) st) (Stands types f rest) typed aims
      (λ n i w o place. subst (λ (id : Option TyId). OnNext (moves_from (parts_if types id) (record { object = n; index = i; word = w }) (cell st y) st) (Stands types f rest)) (sym typed_from) (over n i w o place (cell st y) refl))
    where
      over : (n i w : ℕ) (o : Object) → IsPlace types st.world.content part n i w o → (v : Option Cell) → cell st y ≡ v → OnNext (moves_from (parts_at types part) (record { object = n; index = i; word = w }) v st) (Stands types f rest)
      over n i w o place None e = tt
      over n i w o place (Some Empty) e = tt
      over n i w o place (Some (Number z)) e = tt
      over n i w o place (Some (Points p)) e = tt
      over n i w o place (Some (Named m)) e =
          let v = stands.frame.objects y m e in
          let m_type : part ≡ v.object.ty = some_same (sym typed_from ∙ v.type) in
          let m_within : LiesWithin types v.object.ty 0 part = subst (λ id. LiesWithin types id 0 part) m_type (within_self types part) in
          let m_slot : 0 < length v.object.slots = (let l = ap length v.one in omega arith) in
          let r : Remains (wrote m 0 0 (owner_word None ∷ []) (taken (parts_at types part) (owner_word (owned_in (slice_index (slot_words c m 0) 0)) ∷ []) c).1) n o =
          subst (λ (ws : List ℕ). Remains (wrote m 0 0 (owner_word None ∷ []) (taken (parts_at types part) ws c).1) n o) (words_are types ordered rest st stands.store m part v.object v.there m_within m_slot one)
          (remains_moved types ordered has c stands.store n w part o place.there place.within m v.object v.there m_within m_slot one) in
          next_stands types f rest st stands (moves_from (parts_at types part) (record { object = n; index = i; word = w }) (Some (Named m)) st)
          (move_keeps types ordered rest st stands.store m part v.object v.there m_within m_slot one n i w r.object r.there (subst (λ id. LiesWithin types id w part) (sym r.type) place.within) (let l = place.slot in let s = r.size in omega arith))
          (on_got_each (giving (parts_at types part) (owned_in (slice_index (slot_words c m 0) 0)))
          (λ owned. Next (put_content (moved_to (parts_at types part) (record { object = n; index = i; word = w }) m (taken (parts_at types part) (owner_word owned ∷ []) c)) st)) (Follows types f st)
          (λ owned. follows_content types f st (moved_to (parts_at types part) (record { object = n; index = i; word = w }) m (taken (parts_at types part) (owner_word owned ∷ []) c))
          (moved_stays (IsOwned types c) c (parts_at types part) (record { object = n; index = i; word = w }) m (taken (parts_at types part) (owner_word owned ∷ []) c)
          (taken_stays_on (IsOwned types c) c (parts_at types part) (owner_word owned ∷ []) c (stays_self (IsOwned types c) c)))))

  -- ---- a unique_ptr is given null, a new object as it comes to life, one of a number, or one of a temporary

  module _ (u : Location) (part id : TyId) (typed : location_type types f u ≡ Some part) (is : parts_at types part ≡ Unique id (parts_at types id)) where
    abbrev owner : Parts
    owner = Unique id (parts_at types id)

    -- what is done with the owner's place, by its parts
    at_owner : (go : Parts → Spot → Effect) → ((n w : ℕ) (o : Object) → IsPlace types st.world.content part n 0 w o → OnNext (go (Unique id (parts_at types id)) (record { object = n; index = 0; word = w })) (Stands types f rest))
        → OnNext (on_location types f u st (go (location_parts types f u))) (Stands types f rest)
    at_owner go each =
        on_location_next types ordered f st stands.frame u part (go (location_parts types f u)) (Stands types f rest) typed
        (λ n w o place. subst (λ (p : Parts). OnNext (go p (record { object = n; index = 0; word = w })) (Stands types f rest)) (sym (ap (parts_if types) typed ∙ is)) (each n w o place))

    -- it has another object, whose birth keeps all else
    remade_follows : (n w : ℕ) (b : ℕ × Content) → BornStays (IsOwned types st.world.content) st.world.content b → Follows types f st (remade (Unique id (parts_at types id)) (record { object = n; index = 0; word = w }) b st)
    remade_follows n w b h =
        follows_content types f st (replaced owner (record { object = n; index = 0; word = w }) (owner_word (Some b.0) ∷ [], b.1))
        (replaced_stays (IsOwned types c) c owner (record { object = n; index = 0; word = w }) (owner_word (Some b.0) ∷ [], b.1) h.1)

    null_stands : (s : Setting) → OnNext (makes s types f u made.Null st) (Stands types f rest)
    null_stands s =
        at_owner (λ p spot. Next (put_content (replaced p spot (owner_word None ∷ [], c)) st))
        (λ n w o place. follows_stands types f rest st stands (put_content (replaced owner (record { object = n; index = 0; word = w }) (owner_word None ∷ [], c)) st)
        (subst (λ (p : Parts). HasStore types rest (put_content (replaced p (record { object = n; index = 0; word = w }) (owner_word None ∷ [], c)) st)) is
        (null_keeps types ordered rest st stands.store n 0 w part o place.there place.within place.slot s id is))
        (follows_content types f st (replaced owner (record { object = n; index = 0; word = w }) (owner_word None ∷ [], c))
        (replaced_stays (IsOwned types c) c owner (record { object = n; index = 0; word = w }) (owner_word None ∷ [], c) (stays_self (IsOwned types c) c))))

    fresh_stands : (s : Setting) → OnNext (makes s types f u made.Zero st) (Stands types f rest)
    fresh_stands s =
        at_owner (λ p spot. made_fresh s p spot st)
        (λ n w o place. next_stands types f rest st stands (made_fresh s owner (record { object = n; index = 0; word = w }) st)
        (make_keeps types ordered rest st stands.store n 0 w part o place.there place.within place.slot s id is)
        (on_got_next (object_with s id (parts_at types id) (fresh s form.Zero (parts_at types id)) c) (λ b. Next (remade owner (record { object = n; index = 0; word = w }) b st)) (BornStays (IsOwned types c) c) (Follows types f st)
        (object_stays (IsOwned types c) c s id (parts_at types id) (fresh s form.Zero (parts_at types id)) c (stays_self (IsOwned types c) c) (λ e h. fresh_stays (IsOwned types c) c s form.Zero (parts_at types id) e h))
        (λ b h. remade_follows n w b h)))

    below : (n w : ℕ) (o : Object) → IsPlace types st.world.content part n 0 w o → rank_of types id < rank_of types o.ty
    below n w o place =
        owner_above types ordered has c stands.store n w part o place.there place.within id (let e = ap width is in omega arith) (ap (λ (p : Parts). kind_in p 0) is) (ap (λ (p : Parts). owned_type p 0) is)

    -- .. of a number, or of a temporary of its type
    of_stands : (s : Setting) (x : ℕ) → ((z : ℤ) → cell st x ≡ Some (Number z) → parts_at types id ≡ Single) → ((m : ℕ) → cell st x ≡ Some (Named m) → local_type types f x ≡ Some id) → OnNext (makes s types f u (made.Of x) st) (Stands types f rest)
    of_stands s x number object = at_owner (λ p spot. made_of s types f p spot x (cell st x) st) (λ n w o place. over n w o place (cell st x) refl)
      where
        over : (n w : ℕ) (o : Object) → IsPlace types st.world.content part n 0 w o → (v : Option Cell) → cell st x ≡ v → OnNext (made_of s types f (Unique id (parts_at types id)) (record { object = n; index = 0; word = w }) x v st) (Stands types f rest)
        over n w o place None e = tt
        over n w o place (Some Empty) e = tt
        over n w o place (Some (Points p)) e = tt
        over n w o place (Some (Number z)) e =
            next_stands types f rest st stands (made_of s types f owner (record { object = n; index = 0; word = w }) x (Some (Number z)) st)
            (make_number_keeps types ordered rest st stands.store n 0 w part o place.there place.within place.slot s types f x id z is (number z e))
            (on_got_next (object_with s id (parts_at types id) (λ d. Got (word_of_number z ∷ [], d)) c) (λ b. Next (remade owner (record { object = n; index = 0; word = w }) b st)) (BornStays (IsOwned types c) c) (Follows types f st)
            (object_stays (IsOwned types c) c s id (parts_at types id) (λ d. Got (word_of_number z ∷ [], d)) c (stays_self (IsOwned types c) c) (λ d h. h))
            (λ b h. remade_follows n w b h))
        over n w o place (Some (Named m)) e =
            let v = stands.frame.objects x m e in
            let m_type : v.object.ty ≡ id = some_same (sym v.type ∙ object m e) in
            let lower : rank_of types v.object.ty < rank_of types o.ty = subst (λ ty. rank_of types ty < rank_of types o.ty) (sym m_type) (below n w o place) in
            next_stands types f rest st stands (made_of s types f owner (record { object = n; index = 0; word = w }) x (Some (Named m)) st)
            (make_object_keeps types ordered rest st stands.store n 0 w part o place.there place.within place.slot s types f x m id v.object v.slot is (ap (parts_if types) (object m e)) e v.there v.one m_type
            (λ k. above_apart types ordered has c stands.store n w part o place.there place.within m v.object v.there lower (sym k))
            (above_unowned types ordered has c stands.store n w part o place.there place.within m v.object v.there lower))
            (on_got_next (object_with s id (parts_at types id) (λ d. Got (consumed (local_parts types f x) m d)) c) (λ b. Next (put_cell x Empty (remade owner (record { object = n; index = 0; word = w }) b st))) (BornStays (IsOwned types c) c) (Follows types f st)
            (object_stays (IsOwned types c) c s id (parts_at types id) (λ d. Got (consumed (local_parts types f x) m d)) c (stays_self (IsOwned types c) c) (λ d h. consumed_stays_on (IsOwned types c) c (local_parts types f x) m d h))
            (λ b h. follows_empty types f st (replaced owner (record { object = n; index = 0; word = w }) (owner_word (Some b.0) ∷ [], b.1)) x
            (replaced_stays (IsOwned types c) c owner (record { object = n; index = 0; word = w }) (owner_word (Some b.0) ∷ [], b.1) h.1)))

    pub makes_stand : (s : Setting) (m : Made) → ((x : ℕ) (z : ℤ) → m ≡ made.Of x → cell st x ≡ Some (Number z) → parts_at types id ≡ Single) → ((x n : ℕ) → m ≡ made.Of x → cell st x ≡ Some (Named n) → local_type types f x ≡ Some id)
        → OnNext (makes s types f u m st) (Stands types f rest)
    makes_stand s made.Null number object = null_stands s
    makes_stand s made.Zero number object = fresh_stands s
    makes_stand s (made.Of x) number object = of_stands s x (λ z e. number x z refl e) (λ n e. object x n refl e)
