-- Slots that are taken where they are have the words that the meaning takes of them.
use Rattle.std.proofs.Common.{◌≡◌, ◌≢◌, ℕ, ◌+◌, ◌<◌, List, [], ◌∷◌, ◌++◌, length, Some, refl, sym, ap, ◌∙◌, arith}
use Rattle.std.specs.Prelude.{map}
use Rattle.life_store.specs.Cells.{Cells, at, at-set_other, at-unset_other}
use Rattle.life_store.specs.Content.{Slot, Object, Content, with_object, without}
use Rattle.life_store.specs.Edits.{words_in}
use Rattle.life_store.specs.Held.{filled_slots, with_words, words_if}
use Rattle.life_store.specs.Owners.{Words, taken, taken_slots}
use Rattle.life_store.specs.Parts.{Parts, width}
use Rattle.life_store.proofs.MapLemmas.{set_back}
use Rattle.life_forest.specs.Owned.{times}
use Rattle.life_forest.specs.Values.{owned_of, owned_slots, AllWide}
use Rattle.life_forest.proofs.Beside.{taken_births, taken_slots_stay}
use Rattle.life_forest.proofs.Counting.{times-append}
use Rattle.life_values.specs.Layouts.{flat}
use Rattle.life_values.specs.Regrown.{slots_taken}
use Rattle.life_values.specs.Taken.{leaves_taken}
use Rattle.life_values.proofs.InRows.{one_more, regrouped, slot_here, whole_written, with_slots, words_here}
use Rattle.life_values.proofs.ReadWords.{read, read_is}
use Rattle.life_values.proofs.TakenMeant.{taken_leaves, taken_wide}

pub words_filled : (ss : List Slot) (vs : List (List ℕ)) → length vs ≡ length ss → map words_in (filled_slots ss vs) ≡ vs
words_filled [] [] e = refl
words_filled [] (v ∷ vs) e = absurd (omega (arith, e))
words_filled (s ∷ ss) [] e = absurd (omega (arith, e))
words_filled (s ∷ ss) (v ∷ vs) e = ap (λ xs. v ∷ xs) (words_filled ss vs (omega (arith, e)))

module _ (element : Parts) (b : ℕ) (o : Object) where
  -- one of them, behind others
  module _ (pre : List Slot) (s : Slot) (ss : List Slot) (d : Content) (long : length s.words ≡ width element) (z : times (owned_of element s.words) b ≡ 0) (born : b < d.births) where
    abbrev now : Object
    now = with_slots o (pre ++ s ∷ ss)

    abbrev v : Words
    v = taken element s.words d

    read_here : read (length pre) 0 (width element) now ≡ s.words
    read_here =
        read_is (length pre) 0 (width element) now (let e = ap (λ x. length (words_if x)) (slot_here pre s ss) in omega (arith, e, long))
        ∙ words_here pre s ss (width element) long

    pub one_taken : leaves_taken b (length pre) 0 (flat 0 element) (with_object b now d) ≡ with_object b (with_slots o (pre ++ record { words = v.0; stamp = s.stamp } ∷ ss)) v.1
    one_taken =
        taken_leaves b (length pre) element 0 0 now d (ap (λ ws. times (owned_of element ws) b) read_here ∙ z) born
        ∙ (λ j. with_object b (with_words (length pre) 0 (taken element (read_here j) d).0 now) (taken element (read_here j) d).1)
        ∙ ap (λ (x : Object). with_object b x v.1) (whole_written o pre s ss v.0 (taken_wide element s.words d long ∙ sym long))

  pub taken_behind : (pre ss : List Slot) (d : Content) → AllWide (width element) ss → times (owned_slots element ss) b ≡ 0 → b < d.births
      → slots_taken (flat 0 element) b (length pre) (length ss) (with_object b (with_slots o (pre ++ ss)) d)
      ≡ with_object b (with_slots o (pre ++ filled_slots ss (taken_slots element ss d).0)) (taken_slots element ss d).1
  taken_behind pre [] d wide z born = refl
  taken_behind pre (s ∷ ss) d wide z born =
      let e = times-append (owned_of element s.words) (owned_slots element ss) b in
      let v : Words = taken element s.words d in
      let t : Slot = record { words = v.0; stamp = s.stamp } in
      let births = taken_births element s.words d in
      ap (slots_taken (flat 0 element) b (length pre + 1) (length ss)) (one_taken pre s ss d wide.0 (omega (arith, e, z)) born)
      ∙ (λ j. slots_taken (flat 0 element) b (sym (one_more pre t) j) (length ss) (with_object b (with_slots o (regrouped pre t ss j)) v.1))
      ∙ taken_behind (pre ++ t ∷ []) ss v.1 wide.1 (omega (arith, e, z)) (omega (arith, births, born))
      ∙ ap (λ (rest : List Slot). with_object b (with_slots o rest) (taken_slots element ss v.1).1) (sym (regrouped pre t (filled_slots ss (taken_slots element ss v.1).0)))

-- all slots of an object, where what they own isn't that
module _ (element : Parts) (b : ℕ) (o : Object) (m : Content) (there : at m.objects b ≡ Some o) (wide : AllWide (width element) o.slots) (free : times (owned_slots element o.slots) b ≡ 0) (born : b < m.births) where
  abbrev pub rows : List (List ℕ)
  rows = (taken_slots element o.slots (without b m)).0

  abbrev pub others : Content
  others = (taken_slots element o.slots (without b m)).1

  pub taken_is : slots_taken (flat 0 element) b 0 (length o.slots) m ≡ with_object b (with_slots o (filled_slots o.slots rows)) others
  taken_is =
      ap (λ (x : Cells Object). slots_taken (flat 0 element) b 0 (length o.slots) (record { objects = x; births = m.births; clock = m.clock })) (sym (set_back m.objects b o there))
      ∙ taken_behind element b o [] o.slots (without b m) wide free born

  pub taken_beside : (k : ℕ) → b ≢ k → k < m.births → times (owned_slots element o.slots) k ≡ 0 → at (slots_taken (flat 0 element) b 0 (length o.slots) m).objects k ≡ at m.objects k
  taken_beside k ne k_born k_free =
      ap (λ (x : Content). at x.objects k) taken_is
      ∙ at-set_other others.objects b k (with_slots o (filled_slots o.slots rows)) ne
      ∙ taken_slots_stay element o.slots (without b m) k k_born k_free
      ∙ at-unset_other m.objects b k ne
