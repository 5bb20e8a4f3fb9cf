-- A unique_ptr that took what another one had has that then, and the other one has nothing.
use Rattle.std.proofs.Common.{◌≡◌, ◌≢◌, ℕ, ◌+◌, ◌<◌, [], ◌∷◌, length, Option, Some, None, refl, ap, ◌∙◌, arith}
use Rattle.life_types.specs.Trees.{IsOrdered}
use Rattle.life_types.specs.Types.{Types}
use Rattle.life_types.specs.declared.ty.TyId.{TyId}
use Rattle.life_store.specs.Cells.{at, at-set_same}
use Rattle.life_store.specs.Content.{Slot, Object, Content}
use Rattle.life_store.specs.Doing.{replaced}
use Rattle.life_store.specs.Held.{owned_in, owner_word, with_words, wrote, wrote_if}
use Rattle.life_store.specs.Kinds.{is_value, kind_in}
use Rattle.life_store.specs.Parts.{Parts, Unique, parts_at, width_at}
use Rattle.life_store.specs.Places.{spot_words}
use Rattle.life_forest.specs.Forest.{Beneath, Foot}
use Rattle.life_forest.specs.Kinds.{kinds_of}
use Rattle.life_forest.specs.Owned.{times}
use Rattle.life_forest.specs.Typed.{IsStore}
use Rattle.life_forest.specs.Values.{owned_of}
use Rattle.life_forest.specs.Within.{LiesWithin}
use Rattle.life_forest.proofs.Below.{positive_is}
use Rattle.life_forest.proofs.Feet.{and_all}
use Rattle.life_forest.proofs.Puts.{wrote_is}
use Rattle.life_forest.proofs.Steps.{alive_le}
use Rattle.life_cover.specs.Regions.{Region, foot_of, is_in_region}
use Rattle.life_cover.specs.Uniques.{had_at}
use Rattle.life_cover.proofs.Inside.{region_within}
use Rattle.life_cover.proofs.Moved.{kept, out, put_touches}
use Rattle.life_cover.proofs.OwnersStay.{null_written, owner_kept}
use Rattle.life_cover.proofs.Remade.{hand_apart, replaced_has}
use Rattle.life_cover.proofs.UniquesStay.{not_true}

module _ (types : Types) (ordered : IsOrdered types) (hand : ℕ → ℕ) (c : Content) (store : IsStore types hand c) (id ty : TyId) (is_unique : parts_at types id ≡ Unique ty (parts_at types ty)) (n start : ℕ) (o : Object) (there : at c.objects n ≡ Some o) (within : LiesWithin types o.ty start id)
    (lt : 0 < length o.slots) (m : ℕ) (om : Object) (m_there : at c.objects m ≡ Some om) (m_within : LiesWithin types om.ty 0 id) (m_lt : 0 < length om.slots) (apart : m ≢ n) (owned : Option ℕ)
    (are : spot_words c (record { object = m; index = 0; word = 0 }) (width_at types id) ≡ owner_word owned ∷ []) (n_hand : 0 < hand n) (m_hand : 0 < hand m) where
  abbrev into : Region
  into = record { object = n; word = start; ty = id }

  abbrev emptied : Content
  emptied = wrote m 0 0 (owner_word None ∷ []) c

  -- what is in the hand where the one that gives has nothing
  abbrev before : ℕ → ℕ
  before j = times (owned_of (parts_at types id) (owner_word owned ∷ [])) j + hand j

  emptied_store : IsStore types before emptied
  emptied_store = (out types ordered hand c store id ty is_unique n start o there within lt m om m_there m_within m_lt apart owned are).0

  abbrev foot : Foot
  foot = and_all (foot_of types into) (owned_of (parts_at types id) (owner_word owned ∷ []))

  births : emptied.births ≡ c.births
  births = ap (λ (d : Content). d.births) (wrote_is c m 0 0 (owner_word None ∷ []) om m_there)

  -- neither of them is what is taken
  free : (j : ℕ) → 0 < hand j → Beneath (kinds_of types) emptied foot j → ⊥
  free j in_hand = hand_apart (kinds_of types) before emptied foot j emptied_store.forest (omega (arith, in_hand))
      (λ e.
      let taken = positive_is (times (owned_of (parts_at types id) (owner_word owned ∷ [])) j) e in
      let held = emptied_store.forest.held j in
      let one = alive_le (kinds_of types) emptied j in
      omega (arith, in_hand, taken, held, one))

  pub taken_has : (slot : Slot) → o.slots ≡ slot ∷ [] → start < length slot.words → had_at (replaced (parts_at types id) (record { object = n; index = 0; word = start }) (owner_word owned ∷ [], wrote m 0 0 (owner_word None ∷ []) c)) n start ≡ owned
  taken_has slot one some =
      replaced_has types foot emptied n start o slot (parts_at types id) (owner_word owned) (kept types ordered hand c store id ty is_unique n start o there within lt m om m_there m_within m_lt apart owned are) one some
      (let b = births in let born = store.forest.births n o there in omega (arith, b, born)) (free n n_hand)
      (put_touches types ordered hand c store id ty is_unique n start o there within lt m om m_there m_within m_lt apart owned are) ∙ word_of owned
    where
      word_of : (w : Option ℕ) → owned_in (owner_word w) ≡ w
      word_of None = refl
      word_of (Some j) = refl

  pub given_has : om.ty ≡ id → had_at (replaced (parts_at types id) (record { object = n; index = 0; word = start }) (owner_word owned ∷ [], wrote m 0 0 (owner_word None ∷ []) c)) m 0 ≡ None
  given_has typed =
      owner_kept (kinds_of types) foot emptied (replaced (parts_at types id) (record { object = n; index = 0; word = start }) (owner_word owned ∷ [], emptied)) m 0 0 (with_words 0 0 (owner_word None ∷ []) om)
      (put_touches types ordered hand c store id ty is_unique n start o there within lt m om m_there m_within m_lt apart owned are) (let b = births in let born = store.forest.births m om m_there in omega (arith, b, born)) (free m m_hand)
      (ap (λ (q : Option Object). at (wrote_if q m 0 0 (owner_word None ∷ []) c).objects m) m_there ∙ at-set_same c.objects m m (with_words 0 0 (owner_word None ∷ []) om) refl)
      (ap (λ (i : TyId). is_value (kind_in (parts_at types i) 0)) typed ∙ ap (λ (p : Parts). is_value (kind_in p 0)) is_unique)
      (not_true (is_in_region types into m 0) (λ e. apart (region_within types into m 0 e).object))
      ∙ null_written m 0 c
