-- A frame has a store behind what is lent to a slot, and a callee behind what it is given; and the caller when it has that back.
use Rattle.std.proofs.Common.{◌≡◌, ◌≢◌, ℕ, zero, suc, ◌+◌, ◌<◌, List, [], ◌∷◌, length, Option, Some, None, refl, sym, ap, subst, ◌∙◌, arith}
use Rattle.std.specs.Prelude.{slice_get, slice_index, slice_set, take}
use Rattle.life_types.specs.Trees.{IsOrdered}
use Rattle.life_types.specs.Types.{Types}
use Rattle.life_types.specs.declared.ty.TyId.{TyId}
use Rattle.life_store.specs.Calls.{slot_born, spot_lent}
use Rattle.life_store.specs.Cells.{at}
use Rattle.life_store.specs.Content.{Slot, Object, without}
use Rattle.life_store.specs.Effects.{Setting, Got, Next, cell, put_cell, put_content}
use Rattle.life_store.specs.Held.{owner_word, slot_words, slots_if, words_if}
use Rattle.life_store.specs.Owners.{object_with}
use Rattle.life_store.specs.Parts.{Parts, Single, Unique, parts_at, variable_type, width_at}
use Rattle.life_store.specs.Places.{spot_words, wrote_spot}
use Rattle.life_store.specs.State.{Empty, Named, State}
use Rattle.life_store.proofs.MapLemmas.{one_or_apart}
use Rattle.life_forest.specs.Frames.{HasStore, OnNext, named_in}
use Rattle.life_forest.specs.Owned.{times}
use Rattle.life_forest.specs.Typed.{IsStore}
use Rattle.life_forest.specs.Values.{AllWide, listed, owned_of}
use Rattle.life_forest.specs.Within.{LiesWithin}
use Rattle.life_forest.proofs.Fitting.{Flat}
use Rattle.life_forest.proofs.Frames.{less_in_hand, named_put, on_got_next}
use Rattle.life_forest.proofs.Given.{slot_back_store, slot_store}
use Rattle.life_forest.proofs.Stores.{word_owned, wrote_store}

module _ (types : Types) (ordered : IsOrdered types) (rest : ℕ → ℕ) (st : State) where
  abbrev has : ℕ → ℕ
  has k = times (named_in st.cells) k + rest k

  -- ---- null is in a unique_ptr while what it has is lent

  pub lent_keeps : (n i w : ℕ) (part : TyId) (o : Object) → HasStore types rest st → at st.world.content.objects n ≡ Some o → LiesWithin types o.ty w part → i < length o.slots → width_at types part ≡ 1
      → HasStore types (λ k. times (owned_of (parts_at types part) (spot_words st.world.content (record { object = n; index = i; word = w }) (width_at types part))) k + rest k) (spot_lent (Got (record { object = n; index = i; word = w })) st)
  lent_keeps n i w part o store there within lt one =
      let old : ℕ → ℕ = λ k. times (owned_of (parts_at types part) (spot_words st.world.content (record { object = n; index = i; word = w }) (width_at types part))) k in
      wrote_store types ordered (λ k. times (named_in st.cells) k + (times (owned_of (parts_at types part) (spot_words st.world.content (record { object = n; index = i; word = w }) (width_at types part))) k + rest k)) has st.world.content store n i w part o there within lt
      (owner_word None ∷ []) (sym one) (λ u m q k e is. absurd (no_word u m e))
      (λ k. let z = none (parts_at types part) k in omega arith)
    where
      no_word : (u j : ℕ) → slice_index (0 ∷ []) u ≡ suc j → ⊥
      no_word zero j e = omega (arith, e)
      no_word (suc u) j e = omega (arith, e)

      none : (p : Parts) (k : ℕ) → times (owned_of p (owner_word None ∷ [])) k ≡ 0
      none p k = one_or_apart (times (owned_of p (0 ∷ [])) k) 0 (λ z. z) (λ nz. let r = word_owned p (0 ∷ []) k (omega arith) in absurd (no_word r.0 k r.2))

  -- ---- a slot is an object of its own, with what was lent

  pub slot_lives : (s : Setting) (ty target : TyId) (q : Parts) (owned : Option ℕ) (x : ℕ) → HasStore types (λ k. times (listed owned) k + rest k) st → parts_at types (variable_type types ty (slice_get types.types ty.0)) ≡ Unique target q
      → Flat st.world.content (parts_at types (variable_type types ty (slice_get types.types ty.0))) (owner_word owned ∷ []) → cell st x ≡ Some Empty → OnNext (slot_born s types ty owned x st) (HasStore types rest)
  slot_lives s ty target q owned x store is_unique flat empty =
      let id = variable_type types ty (slice_get types.types ty.0) in
      on_got_next (object_with s id Single (λ d. Got (owner_word owned ∷ [], d)) st.world.content) (λ b. Next (put_cell x (Named b.0) (put_content b.1 st))) (λ b. IsStore types (λ k. times (b.0 ∷ []) k + has k) b.1) (HasStore types rest)
      (slot_store types ordered has st.world.content s id target q owned is_unique
      (less_in_hand types (λ k. times (named_in st.cells) k + (times (listed owned) k + rest k)) (λ k. times (listed owned) k + has k) st.world.content (λ k. omega arith) store) flat)
      (λ b h. less_in_hand types (λ k. times (b.0 ∷ []) k + has k) (λ k. times (named_in (slice_set st.cells x (Named b.0))) k + rest k) b.1 (λ k. let e = named_put st.cells x Empty (Named b.0) k empty in omega arith) h)

  -- ---- .. and the operand has it back

  pub slot_returns : (m : ℕ) (om : Object) (sl : Slot) (n i w : ℕ) (o : Object) → HasStore types (λ k. times (m ∷ []) k + rest k) st → at st.world.content.objects m ≡ Some om → om.slots ≡ sl ∷ [] → width_at types om.ty ≡ 1
      → at st.world.content.objects n ≡ Some o → n ≢ m → LiesWithin types o.ty w om.ty → i < length o.slots
      → HasStore types rest (put_content (without m (wrote_spot (record { object = n; index = i; word = w }) (take 1 (slot_words st.world.content m 0)) st.world.content)) st)
  slot_returns m om sl n i w o store m_there one_slot one there apart within lt =
      let before : IsStore types (λ k. times (m ∷ []) k + has k) st.world.content =
      less_in_hand types (λ k. times (named_in st.cells) k + (times (m ∷ []) k + rest k)) (λ k. times (m ∷ []) k + has k) st.world.content (λ k. omega arith) store in
      let fit = store.fit m om m_there in
      let wide : length sl.words ≡ 1 = (subst (AllWide om.width) one_slot fit.slots).0 ∙ fit.width ∙ one in
      let words : slot_words st.world.content m 0 ≡ sl.words = ap (λ (y : Option Object). words_if (slice_get (slots_if y) 0)) m_there ∙ ap (λ (ss : List Slot). words_if (slice_get ss 0)) one_slot in
      subst (λ (vs : List ℕ). IsStore types has (without m (wrote_spot (record { object = n; index = i; word = w }) vs st.world.content))) (sym (ap (take 1) words ∙ first_word sl.words wide))
      (slot_back_store types ordered has st.world.content m om sl n i w o before m_there one_slot there apart within lt)
    where
      first_word : (xs : List ℕ) → length xs ≡ 1 → take 1 xs ≡ xs
      first_word [] e = absurd (omega (arith, e))
      first_word (x ∷ []) e = refl
      first_word (x ∷ (y ∷ ys)) e = absurd (omega (arith, e))
