-- A temporary whose value was handed over to a slot is what the meaning has of one that is consumed.
use Rattle.std.proofs.Common.{◌≡◌, ◌≢◌, ℕ, ◌<◌, List, [], ◌∷◌, ◌++◌, length, Option, Some, sym, ap, ◌∙◌}
use Rattle.std.specs.Prelude.{slice_get}
use Rattle.life_store.specs.Cells.{Cells, at, set, unset, at-set_other, at-unset_same, at-unset_other, same_cells}
use Rattle.life_store.specs.Content.{Slot, Object, Content, with_object, without}
use Rattle.life_store.specs.Held.{slot_words, slots_if, words_if, wrote, wrote_if}
use Rattle.life_store.specs.Owners.{Words, consumed, taken}
use Rattle.life_store.specs.Parts.{Parts, width}
use Rattle.life_store.proofs.MapLemmas.{one_or_apart, unset_apart}
use Rattle.life_forest.specs.Owned.{times}
use Rattle.life_forest.specs.Values.{owned_of}
use Rattle.life_forest.proofs.Beside.{taken_stays}
use Rattle.life_values.specs.Consumed.{stored}
use Rattle.life_values.specs.Layouts.{flat}
use Rattle.life_values.specs.Moved.{slots_moved}
use Rattle.life_values.specs.Regrown.{handed_over, slot_at, slots_taken}
use Rattle.life_values.proofs.InRows.{nothing_owned, whole_written, with_slots}
use Rattle.life_values.proofs.RegrownMeant.{same_back}
use Rattle.life_values.proofs.SlotsMoved.{one_moved}
use Rattle.life_values.proofs.SlotsTaken.{one_taken}
use Rattle.life_values.proofs.TakenMeant.{taken_wide}

-- what goes may as well have been changed
gone_alike : {A : Type 0} (m : Cells A) (n : ℕ) (x : A) → unset (set m n x) n ≡ unset m n
gone_alike m n x =
    same_cells (unset (set m n x) n) (unset m n)
    (λ k. one_or_apart n k
    (λ e. at-unset_same (set m n x) n k e ∙ sym (at-unset_same m n k e))
    (λ ne. at-unset_other (set m n x) n k ne ∙ at-set_other m n k x ne ∙ sym (at-unset_other m n k ne)))

module _ (element : Parts) (us : List ℕ) (n f : ℕ) (ne : n ≢ f) (o : Object) (s : Slot) (alone : o.slots ≡ s ∷ []) (of : Object) (prf : List Slot) (t : Slot) (ts : List Slot) (split : of.slots ≡ prf ++ t ∷ ts)
    (m : Content) (there : at m.objects n ≡ Some o) (target : at m.objects f ≡ Some of) (born : n < m.births) (target_born : f < m.births)
    (long : length s.words ≡ width element) (wide : length t.words ≡ width element) (free : times (owned_of element s.words) n ≡ 0) (target_free : times (owned_of element s.words) f ≡ 0) where
  abbrev v : Words
  v = taken element s.words m

  abbrev given : Slot
  given = record { words = v.0; stamp = s.stamp }

  abbrev filled : Object
  filled = with_slots of (prf ++ record { words = v.0; stamp = t.stamp } ∷ ts)

  v_long : length v.0 ≡ width element
  v_long = taken_wide element s.words m long

  taken_is : slots_taken (flat 0 element) n 0 1 m ≡ with_object n (with_slots o (given ∷ [])) v.1
  taken_is =
      ap (slots_taken (flat 0 element) n 0 1) (sym (same_back m n o there) ∙ ap (λ (ss : List Slot). with_object n (with_slots o ss) m) alone)
      ∙ one_taken element n o [] s [] m long free born

  target_then : at v.1.objects f ≡ Some of
  target_then = taken_stays element s.words m f target_born target_free ∙ target

  target_is : with_object f (with_slots of (prf ++ t ∷ ts)) v.1 ≡ v.1
  target_is = ap (λ (ss : List Slot). with_object f (with_slots of ss) v.1) (sym split) ∙ same_back v.1 f of target_then

  over : handed_over (flat 0 element) (width element) us n f (length prf) 1 m ≡ without n (with_object f filled v.1)
  over =
      ap (λ (x : Content). without n (slots_moved (slot_at n 0) (slot_at f (length prf)) (width element) us 1 x))
      (taken_is ∙ ap (with_object n (with_slots o (given ∷ []))) (sym target_is))
      ∙ ap (without n) (one_moved n f ne o of (width element) us [] prf given t [] ts v.1 v_long wide)
      ∙ ap (λ (x : Cells Object). record { objects = x; births = v.1.births; clock = v.1.clock })
      (gone_alike (with_object f filled v.1).objects n (with_slots o (record { words = nothing_owned 0 us v.0; stamp = s.stamp } ∷ [])))

  written : wrote f (length prf) 0 v.0 (without n v.1) ≡ without n (with_object f filled v.1)
  written =
      ap (λ (x : Option Object). wrote_if x f (length prf) 0 v.0 (without n v.1)) (at-unset_other v.1.objects n f ne ∙ target_then ∙ ap (λ (ss : List Slot). Some (with_slots of ss)) split)
      ∙ ap (λ (x : Object). with_object f x (without n v.1)) (whole_written of prf t ts v.0 (v_long ∙ sym wide))
      ∙ ap (λ (x : Cells Object). record { objects = x; births = v.1.births; clock = v.1.clock }) (sym (unset_apart v.1.objects f n filled (λ e. ne (sym e))))

  words_are : slot_words m n 0 ≡ s.words
  words_are = ap (λ (x : Option Object). words_if (slice_get (slots_if x) 0)) there ∙ ap (λ (ss : List Slot). words_if (slice_get ss 0)) alone

  pub consumed_meant : handed_over (flat 0 element) (width element) us n f (length prf) 1 m ≡ stored f (length prf) (consumed element n m)
  consumed_meant = over ∙ sym written ∙ ap (λ ws. wrote f (length prf) 0 (taken element ws m).0 (without n (taken element ws m).1)) (sym words_are)
