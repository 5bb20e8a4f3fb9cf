-- Slots that go into those of another object: it has their words then.
use Rattle.std.proofs.Common.{◌≡◌, ◌≢◌, ℕ, ◌+◌, ◌≤◌, List, [], ◌∷◌, ◌++◌, length, Option, Some, refl, sym, ap, ◌∙◌, arith}
use Rattle.std.specs.Prelude.{drop, map, slice_get, take}
use Rattle.life_store.specs.Cells.{Cells, at, set, at-set_same, at-set_other}
use Rattle.life_store.specs.Content.{Slot, Object, Content, with_object}
use Rattle.life_store.specs.Edits.{words_in}
use Rattle.life_store.specs.Held.{filled_slots, slots_if, words_if, wrote_if}
use Rattle.life_store.specs.Places.{spot_words, wrote_spot}
use Rattle.life_store.proofs.MapLemmas.{set-set, set_apart}
use Rattle.life_forest.specs.Values.{AllWide}
use Rattle.life_values.specs.Moved.{disowned, moved_words, slots_moved}
use Rattle.life_values.specs.Regrown.{slot_at}
use Rattle.life_values.proofs.Disowned.{disowned_with}
use Rattle.life_values.proofs.InRows.{nothing_owned, one_more, regrouped, whole_written, with_slots, words_here, zeroed_here}

module _ (b f : ℕ) (ne : b ≢ f) (ob of : Object) (w : ℕ) (us : List ℕ) where
  -- both, with these slots
  abbrev pub both : (List Slot) → (List Slot) → Content → Content
  both xs ys d = with_object b (with_slots ob xs) (with_object f (with_slots of ys) d)

  module _ (pre prf : List Slot) (s t : Slot) (ss ts : List Slot) (d : Content) (long : length s.words ≡ w) (wide : length t.words ≡ w) where
    abbrev m : Content
    m = both (pre ++ s ∷ ss) (prf ++ t ∷ ts) d

    abbrev target : Object
    target = with_slots of (prf ++ t ∷ ts)

    there : at m.objects f ≡ Some target
    there = at-set_other (with_object f target d).objects b f (with_slots ob (pre ++ s ∷ ss)) ne ∙ at-set_same d.objects f f target refl

    words_are : spot_words m (slot_at b (length pre)) w ≡ s.words
    words_are =
        ap (λ (x : Option Object). take w (drop 0 (words_if (slice_get (slots_if x) (length pre))))) (at-set_same (with_object f target d).objects b b (with_slots ob (pre ++ s ∷ ss)) refl)
        ∙ words_here pre s ss w long

    abbrev next : Slot
    next = record { words = s.words; stamp = t.stamp }

    wrote_is : wrote_spot (slot_at f (length prf)) (spot_words m (slot_at b (length pre)) w) m ≡ both (pre ++ s ∷ ss) (prf ++ next ∷ ts) d
    wrote_is =
        ap (λ vs. wrote_spot (slot_at f (length prf)) vs m) words_are
        ∙ ap (λ (x : Option Object). wrote_if x f (length prf) 0 s.words m) there
        ∙ ap (λ (x : Object). with_object f x m) (whole_written of prf t ts s.words (long ∙ sym wide))
        ∙ ap (λ (x : Cells Object). record { objects = x; births = d.births; clock = d.clock })
        (set_apart (with_object f target d).objects b f (with_slots ob (pre ++ s ∷ ss)) (with_slots of (prf ++ next ∷ ts)) ne
        ∙ ap (λ (x : Cells Object). set x b (with_slots ob (pre ++ s ∷ ss))) (set-set d.objects f target (with_slots of (prf ++ next ∷ ts))))

    pub one_moved : moved_words (slot_at b (length pre)) (slot_at f (length prf)) w us m ≡ both (pre ++ record { words = nothing_owned 0 us s.words; stamp = s.stamp } ∷ ss) (prf ++ next ∷ ts) d
    one_moved =
        ap (disowned (slot_at b (length pre)) us) wrote_is
        ∙ disowned_with b (length pre) 0 us (with_slots ob (pre ++ s ∷ ss)) (with_object f (with_slots of (prf ++ next ∷ ts)) d)
        ∙ ap (λ (x : Object). with_object b x (with_object f (with_slots of (prf ++ next ∷ ts)) d)) (zeroed_here ob pre s ss 0 us)

  -- what is left of the first
  abbrev pub left_of : List Slot → List Slot
  left_of [] = []
  left_of (s ∷ ss) = record { words = nothing_owned 0 us s.words; stamp = s.stamp } ∷ left_of ss

  pub moved_behind : (pre prf ss ts : List Slot) (d : Content) → AllWide w ss → AllWide w ts → length ss ≤ length ts
      → slots_moved (slot_at b (length pre)) (slot_at f (length prf)) w us (length ss) (both (pre ++ ss) (prf ++ ts) d) ≡ both (pre ++ left_of ss) (prf ++ filled_slots ts (map words_in ss)) d
  moved_behind pre prf [] ts d long wide le = ap (λ (xs : List Slot). both (pre ++ []) (prf ++ xs) d) (sym (unfilled ts))
    where
      unfilled : (xs : List Slot) → filled_slots xs [] ≡ xs
      unfilled [] = refl
      unfilled (x ∷ xs) = refl
  moved_behind pre prf (s ∷ ss) [] d long wide le = absurd (omega (arith, le))
  moved_behind pre prf (s ∷ ss) (t ∷ ts) d long wide le =
      let x : Slot = record { words = nothing_owned 0 us s.words; stamp = s.stamp } in
      let y : Slot = record { words = s.words; stamp = t.stamp } in
      ap (slots_moved (slot_at b (length pre + 1)) (slot_at f (length prf + 1)) w us (length ss)) (one_moved pre prf s t ss ts d long.0 wide.0)
      ∙ (λ j. slots_moved (slot_at b (sym (one_more pre x) j)) (slot_at f (sym (one_more prf y) j)) w us (length ss) (both (regrouped pre x ss j) (regrouped prf y ts j) d))
      ∙ moved_behind (pre ++ x ∷ []) (prf ++ y ∷ []) ss ts d long.1 wide.1 (omega (arith, le))
      ∙ (λ j. both (sym (regrouped pre x (left_of ss)) j) (sym (regrouped prf y (filled_slots ts (map words_in ss))) j) d)
