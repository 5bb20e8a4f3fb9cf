-- Behind an object that is pushed to a vector of a frame, and gives its value over, each vector and each string has its buffer; and
-- what is touched lies beneath what the frame names.
use Rattle.std.proofs.Common.{◌≡◌, ◌≢◌, inr, ⊎_elim, ℕ, ◌<◌, true, List, length, Option, Some, refl, sym, ap, subst, ◌∙◌, arith, ◌⊎◌, ◌+◌, ◌∷◌, [], true}
use Rattle.std.specs.Prelude.{slice_get, slice_set, Contains}
use Rattle.life_types.specs.Types.{Types}
use Rattle.life_types.specs.declared.ty.Ty.TheVariants as ty
use Rattle.life_types.specs.declared.ty.TyId.{TyId}
use Rattle.life_types.specs.Trees.{IsOrdered}
use Rattle.life_core.specs.Function.{Function}
use Rattle.life_types.specs.TypeTests.{is_void}
use Rattle.life_core.specs.Operands.{Operand}
use Rattle.life_core.specs.Step.{Changes, PushBack}
use Rattle.life_pset.specs.declared.element.Fact.{Fact}
use Rattle.life_pset.specs.Shapes.{has_buffer}
use Rattle.life_pset.specs.declared.element.Root.{Root}
use Rattle.life_proper.specs.Placed.{type_of, type_at}
use Rattle.life_store.specs.Cells.{at}
use Rattle.life_store.specs.Content.{Slot, Object, Content}
use Rattle.life_store.specs.Doing.{does, edits, pushes}
use Rattle.life_store.specs.Edits.{Push, edited, pushed, owned_at}
use Rattle.life_store.specs.Effects.{Attempt, Got, GotTrap, GotFault, GotLost, Effect, Next, Setting, cell, got_or, on_got, on_next, put_cell, put_content}
use Rattle.life_store.specs.Owners.{consumed}
use Rattle.life_store.specs.Parts.{Parts, Vector, local_type, parts_at, parts_if, width, width_at}
use Rattle.life_store.specs.State.{Cell, Empty, Named, State}
use Rattle.life_store.specs.declared.run.FaultKind.TheVariants as fault
use Rattle.life_store.specs.Kinds.{kind_in}
use Rattle.life_store.proofs.CellLemmas.{some_same}
use Rattle.life_forest.specs.Forest.{Beneath, Touches, Foot, whole}
use Rattle.life_forest.specs.FrameTypes.{IsVariable}
use Rattle.life_forest.specs.Frames.{OnNext, named_in}
use Rattle.life_forest.specs.Kinds.{kinds_of, rank_of, owned_type}
use Rattle.life_forest.specs.Values.{AllWide}
use Rattle.life_forest.specs.Typed.{IsStore}
use Rattle.life_forest.specs.Within.{LiesWithin}
use Rattle.life_forest.specs.Owned.{times}
use Rattle.life_forest.proofs.Coming.{IfGot}
use Rattle.life_forest.proofs.Feet.{and_all}
use Rattle.life_forest.proofs.Adding.{pushed_object_touches}
use Rattle.life_forest.proofs.Above.{above_apart, above_unowned, owner_above}
use Rattle.life_forest.proofs.Below.{is_positive}
use Rattle.life_forest.proofs.Counting.{one_same}
use Rattle.life_forest.proofs.Frames.{less_in_hand, named_put}
use Rattle.life_forest.proofs.Following.{in_hand}
use Rattle.life_cover.specs.Buffered.{HasBuffers, AreBut}
use Rattle.life_cover.specs.Inputs.{may_change, owning, StandsAt}
use Rattle.life_cover.specs.Regions.{Region, foot_of}
use Rattle.life_cover.specs.Lacking.{IsUnmoved, MayLack}
use Rattle.life_cover.proofs.Buffers.{low, foot_covers, buffer, own}
use Rattle.life_cover.proofs.HeldElements.{all_free, elements_region, held, held_type, vector_operand, vector_parts, not_bare}
use Rattle.life_cover.proofs.Inside.{beneath_lesser, not_itself}
use Rattle.life_cover.proofs.KeptBuffers.{by_change, holder_born}
use Rattle.life_cover.proofs.KnownFrames.{IsKnownFrame, hand_of, store_of}
use Rattle.life_cover.proofs.Locals.{named_free}
use Rattle.life_cover.proofs.Opening.{IsOpened, region_part, vector_opened}
use Rattle.life_cover.proofs.OwnedWords.{word_beneath, word_lives}
use Rattle.life_cover.proofs.UniquesStay.{had_beside_given}
use Rattle.life_cover.proofs.OtherTypes.{reached_other}
use Rattle.life_cover.proofs.PushedBuffers.{object_buffered}
use Rattle.life_cover.proofs.Reaching.{IsReached}
use Rattle.life_cover.proofs.Rebuffering.{IsFree}
use Rattle.life_cover.proofs.SaveKinds.{region_within}
use Rattle.life_cover.proofs.Behind.{behind_empty, both_got, IsBehind, no_location}
use Rattle.life_cover.proofs.Sparing.{pushed_spares}
use Rattle.life_cover.proofs.Lacking.{low_whole, local_whole}
use Rattle.life_rules.proofs.Giving.{at_head}

-- ---- what is touched

-- what the vector has, and what gives its value over
abbrev pub pushed_foot : Types → Region → ℕ → Foot
pushed_foot types r m = and_all (foot_of types r) (m ∷ [])

module _ (types : Types) (ordered : IsOrdered types) (hand : ℕ → ℕ) (c : Content) (m : ℕ) (store : IsStore types (λ k. times (m ∷ []) k + hand k) c) (n i w : ℕ) (vector : TyId) (o : Object) (there : at c.objects n ≡ Some o) (within : LiesWithin types o.ty w vector)
    (lt : i < length o.slots) (item : TyId) (is_vector : parts_at types vector ≡ Vector item (parts_at types item)) (b : ℕ) (owned : owned_at c (record { object = n; index = i; word = w }) ≡ Some b) (om : Object) (sl : Slot) (m_there : at c.objects m ≡ Some om)
    (one_slot : om.slots ≡ sl ∷ []) (m_type : om.ty ≡ item) where
  whole_hand : ℕ → ℕ
  whole_hand k = times (m ∷ []) k + hand k

  lower : rank_of types om.ty < rank_of types o.ty
  lower =
      subst (λ id. rank_of types id < rank_of types o.ty) (sym m_type)
      (owner_above types ordered (λ k. times (m ∷ []) k + hand k) c store n w vector o there within item (let e = ap width is_vector in omega (arith, e)) (ap (λ (p : Parts). kind_in p 0) is_vector) (ap (λ (p : Parts). owned_type p 0) is_vector))

  wide : length sl.words ≡ width (parts_at types item)
  wide = let fit = store.fit m om m_there in (subst (AllWide om.width) one_slot fit.slots).0 ∙ fit.width ∙ ap (width_at types) m_type

  pub object_touches : (s : Setting)
      → IfGot (pushed s item (parts_at types item) (record { object = n; index = i; word = w }) b (consumed (parts_at types item) m) c) (Touches (kinds_of types) (pushed_foot types (record { object = n; word = w; ty = vector }) m) c)
  object_touches s =
      pushed_object_touches (kinds_of types) item (parts_at types item) (record { object = n; index = i; word = w }) b hand c o
      (buffer types ordered (λ k. times (m ∷ []) k + hand k) c store n i w vector o there within lt item (parts_at types item) is_vector b owned).0 m om sl store.forest
      (own types ordered (λ k. times (m ∷ []) k + hand k) c store n i w vector o there within lt item (parts_at types item) is_vector b owned) m_there one_slot m_type wide
      (above_apart types ordered (λ k. times (m ∷ []) k + hand k) c store n w vector o there within m om m_there lower)
      (above_unowned types ordered (λ k. times (m ∷ []) k + hand k) c store n w vector o there within m om m_there lower) s
      (pushed_foot types (record { object = n; word = w; ty = vector }) m) (foot_covers types n i w vector (Vector item (parts_at types item)) is_vector)
      (whole m (is_positive (times (m ∷ []) m) (let e = one_same m m refl in omega (arith, e))))

-- ---- in a frame

module _ (types : Types) (f : Function) (rest : ℕ → ℕ) (inputs : Root → Option Region) (S : Fact → Type 0) (st : State) (k : IsKnownFrame types f rest inputs S st) (s : Setting) (o : Operand) (item : TyId) (is_vector : type_of types f o ≡ ty.Vector item) (x m : ℕ) (named : cell st x ≡ Some (Named m)) (typed : local_type types f x ≡ Some item)
    (fresh : has_buffer (type_at types f x) ≡ true → Contains (x ∷ []) x → IsUnmoved S x) where
  variable : IsVariable st.world.content (local_type types f x) m
  variable = k.stands.frame.objects x m named

  m_type : variable.object.ty ≡ item
  m_type = some_same (sym variable.type ∙ typed)

  born : m < st.world.content.births
  born = k.stands.store.forest.births m variable.object variable.there

  -- its one slot
  slot_there : slice_get variable.object.slots 0 ≡ Some variable.slot
  slot_there = ap (λ (ss : List Slot). slice_get ss 0) variable.one

  -- it wasn't moved from
  given_whole : MayLack types f inputs S st m → ⊥
  given_whole = local_whole types f rest inputs S st k x m named (λ buffer. fresh buffer (at_head x []))

  m_has : HasBuffers (parts_at types item) variable.slot.words
  m_has = subst (λ (id : TyId). HasBuffers (parts_at types id) variable.slot.words) m_type (k.buffered m 0 variable.object variable.slot given_whole variable.there slot_there)

  m_wide : length variable.slot.words ≡ width (parts_at types item)
  m_wide = let fit = k.stands.store.fit m variable.object variable.there in (subst (AllWide variable.object.width) variable.one fit.slots).0 ∙ fit.width ∙ ap (width_at types) m_type

  -- all of it
  abbrev region : Region
  region = record { object = m; word = 0; ty = variable.object.ty }

  module _ (r : IsReached types f st (StandsAt inputs) (may_change types f) S o) (unmoved : MayLack types f inputs S st r.region.object → ⊥) (own : owning types f r.place.root ≡ true) where
    abbrev h : IsOpened types f rest inputs S st k o r (ty.Vector item) item
    h = vector_opened types f rest inputs S st k o r unmoved item is_vector

    abbrev elements : (y : Object) × (at st.world.content.objects (vector_opened types f rest inputs S st k o r unmoved item is_vector).buffer ≡ Some y)
    elements = held types f rest inputs S st k o r item is_vector unmoved

    -- the store, where what is given over is in the hand by itself
    in_two : IsStore types (λ j. times (m ∷ []) j + (times (named_in (slice_set st.cells x Empty)) j + rest j)) st.world.content
    in_two =
        less_in_hand types (hand_of rest st) (λ j. times (m ∷ []) j + (times (named_in (slice_set st.cells x Empty)) j + rest j)) st.world.content
        (λ j. let e = named_put st.cells x (Named m) Empty j named in omega (arith, e)) (store_of types f rest inputs S st k)

    pub pushed_touches : IfGot (pushed s item (parts_at types item) (record { object = r.region.object; index = r.index; word = r.region.word }) (vector_opened types f rest inputs S st k o r unmoved item is_vector).buffer (consumed (parts_at types item) m) st.world.content)
        (Touches (kinds_of types) (pushed_foot types r.region m) st.world.content)
    pushed_touches =
        object_touches types k.ordered (λ j. times (named_in (slice_set st.cells x Empty)) j + rest j) st.world.content m in_two r.region.object r.index r.region.word r.region.ty r.holder r.there (region_within types f rest inputs S st k o r) r.small
        item (vector_parts types f rest inputs S st k o r item is_vector) h.buffer h.owned variable.object variable.slot variable.there variable.one m_type s

    -- what it has is another buffer than the vector's
    free_of : IsFree types (parts_at types variable.object.ty) (λ j. MayLack types f inputs S st j ⊎ ((j ≡ h.buffer) ⊎ (j ≡ st.world.content.births))) variable.slot.words
    free_of u j e owned out =
        let l = word_lives types k.ordered (hand_of rest st) st.world.content (store_of types f rest inputs S st k) m 0 u j variable.object variable.slot variable.there slot_there e owned in
        let beneath = word_beneath types k.ordered (hand_of rest st) st.world.content (store_of types f rest inputs S st k) m 0 u j variable.object variable.slot variable.there slot_there e owned in
        ⊎_elim (λ lacks. low_whole types f rest inputs S st k region j beneath lacks)
        (λ either. ⊎_elim
        (λ same.
        let less = beneath_lesser types k.ordered (hand_of rest st) st.world.content (store_of types f rest inputs S st k) region j beneath variable.object l.0 variable.there l.1 in
        let one = ap (λ (q : Object). rank_of types q.ty) (some_same (sym l.1 ∙ ap (at st.world.content.objects) same ∙ elements.1)) in
        let two = ap (rank_of types) (held_type types f rest inputs S st k o r item is_vector unmoved ∙ sym m_type) in
        omega (arith, less, one, two))
        (λ new. let old_one = k.stands.store.forest.births j l.0 l.1 in omega (arith, old_one, new)) either) out

    -- what the vector has lies beneath it, so it isn't what gives its value over, and neither is what its elements have
    buffer_beneath : Beneath (kinds_of types) st.world.content (foot_of types r.region) h.buffer
    buffer_beneath =
        low types k.ordered (hand_of rest st) st.world.content (store_of types f rest inputs S st k) r.region.object r.index r.region.word r.region.ty r.holder r.there (region_within types f rest inputs S st k o r) r.small item (parts_at types item) (vector_parts types f rest inputs S st k o r item is_vector)
        h.buffer h.owned

    apart : h.buffer ≢ m
    apart e = named_free types f rest st k.stands.store k.stands.frame x m r.region named (subst (Beneath (kinds_of types) st.world.content (foot_of types r.region)) e buffer_beneath)

    holder_apart : h.buffer ≢ r.region.object
    holder_apart e = not_itself types k.ordered (hand_of rest st) st.world.content (store_of types f rest inputs S st k) r.region (subst (Beneath (kinds_of types) st.world.content (foot_of types r.region)) e buffer_beneath)

    unborn : (j : ℕ) (q : Object) → at st.world.content.objects j ≡ Some q → j ≡ st.world.content.births → ⊥
    unborn j q there e = let old = k.stands.store.forest.births j q there in omega (arith, old, e)

    fit_word : elements.0.width ≡ width (parts_at types item)
    fit_word = (k.stands.store.fit h.buffer elements.0 elements.1).width ∙ ap (width_at types) (held_type types f rest inputs S st k o r item is_vector unmoved)

    pushed_one : IfGot (pushed s item (parts_at types item) (record { object = r.region.object; index = r.index; word = r.region.word }) h.buffer (consumed (parts_at types item) m) st.world.content) (AreBut types (MayLack types f inputs S st))
    pushed_one =
        object_buffered types (MayLack types f inputs S st) s item (parts_at types item) refl h.buffer st.world.content k.buffered elements.0 elements.1 (held_type types f rest inputs S st k o r item is_vector unmoved)
        (subst (λ n. AllWide n elements.0.slots) fit_word (k.stands.store.fit h.buffer elements.0 elements.1).slots) fit_word (k.stands.store.forest.births h.buffer elements.0 elements.1) (not_bare types f rest inputs S st k o r item is_vector unmoved) m born apart
        (all_free types f rest inputs S st k o r item is_vector unmoved (λ j. MayLack types f inputs S st j ⊎ (j ≡ st.world.content.births)) (λ j q there beneath out. ⊎_elim (λ lacks. low_whole types f rest inputs S st k (elements_region types f rest inputs S st k o r item is_vector unmoved) j beneath lacks) (λ new. unborn j q there new) out))
        (all_free types f rest inputs S st k o r item is_vector unmoved (λ j. (MayLack types f inputs S st j ⊎ (j ≡ st.world.content.births)) ⊎ (j ≡ m))
        (λ j q there beneath out. ⊎_elim (λ left. ⊎_elim (λ lacks. low_whole types f rest inputs S st k (elements_region types f rest inputs S st k o r item is_vector unmoved) j beneath lacks) (λ new. unborn j q there new) left)
        (λ same. named_free types f rest st k.stands.store k.stands.frame x m (elements_region types f rest inputs S st k o r item is_vector unmoved) named (subst (Beneath (kinds_of types) st.world.content (foot_of types (elements_region types f rest inputs S st k o r item is_vector unmoved))) same beneath)) out))
        variable.object variable.slot variable.there variable.one m_has m_wide (subst (λ (id : TyId). IsFree types (parts_at types id) (λ j. MayLack types f inputs S st j ⊎ ((j ≡ h.buffer) ⊎ (j ≡ st.world.content.births))) variable.slot.words) m_type free_of)
        r.region.object r.index r.region.word (holder_born types f rest inputs S st k o r s) holder_apart

    after_edit : (a : Attempt Content) → IfGot a (λ d. AreBut types (MayLack types f inputs S st) d × Touches (kinds_of types) (pushed_foot types r.region m) st.world.content d) → OnNext (on_next (on_got a (λ d. Next (put_content d st))) (λ after. Next (put_cell x Empty after))) (IsBehind types f inputs (MayLack types f inputs S st) (λ y. x ≡ y) no_location st)
    after_edit (Got d) e = behind_empty types f inputs (MayLack types f inputs S st) (λ y. x ≡ y) no_location st x (λ n is. refl) d e.0 (pushed_spares types f rest inputs S st k o r own m (in_hand st.cells x m named) d e.1)
        (λ y j ne at is. inr (had_beside_given types f rest inputs S st k r.region (region_part types f rest inputs S st k o r) (reached_other types f rest inputs S st k o r (ap is_void is_vector) (ap has_buffer is_vector)) x m named d e.1 y j ne at is))
    after_edit (GotTrap kind) e = tt
    after_edit (GotFault kind) e = tt
    after_edit GotLost e = tt

    pub object_pushed : OnNext (does s types f (Changes o (PushBack x)) st) (IsBehind types f inputs (MayLack types f inputs S st) (λ y. x ≡ y) no_location st)
    object_pushed =
        by_change types f rest inputs S st k o r s (λ y. x ≡ y) (Vector item (parts_at types item)) (vector_operand types f rest inputs S st k o r item is_vector) (PushBack x)
        (subst (λ (v : Option Cell). OnNext (pushes s types f (Vector item (parts_at types item)) (record { object = r.region.object; index = r.index; word = r.region.word }) x v st) (IsBehind types f inputs (MayLack types f inputs S st) (λ y. x ≡ y) no_location st)) (sym named)
        (subst (λ (p : Parts). OnNext (on_next (edits s (Vector item (parts_at types item)) (record { object = r.region.object; index = r.index; word = r.region.word }) (Push (consumed p m)) st) (λ after. Next (put_cell x Empty after))) (IsBehind types f inputs (MayLack types f inputs S st) (λ y. x ≡ y) no_location st)) (sym (ap (parts_if types) typed))
        (subst (λ w. OnNext (on_next (on_got (got_or w (GotFault fault.Moved)) go) (λ after. Next (put_cell x Empty after))) (IsBehind types f inputs (MayLack types f inputs S st) (λ y. x ≡ y) no_location st)) (sym h.owned)
        (after_edit (pushed s item (parts_at types item) (record { object = r.region.object; index = r.index; word = r.region.word }) h.buffer (consumed (parts_at types item) m) st.world.content)
        (both_got (pushed s item (parts_at types item) (record { object = r.region.object; index = r.index; word = r.region.word }) h.buffer (consumed (parts_at types item) m) st.world.content) (AreBut types (MayLack types f inputs S st)) (Touches (kinds_of types) (pushed_foot types r.region m) st.world.content)
        pushed_one pushed_touches)))))
      where
        go : ℕ → Effect
        go b = on_got (edited s (Vector item (parts_at types item)) (record { object = r.region.object; index = r.index; word = r.region.word }) b (Push (consumed (parts_at types item) m)) st.world.content) (λ d. Next (put_content d st))
