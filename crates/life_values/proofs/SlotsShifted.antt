-- Slots that move one further to the front in their object.
use Rattle.std.proofs.Common.{◌≡◌, ℕ, ◌+◌, List, [], ◌∷◌, ◌++◌, length, Option, refl, sym, ap, ◌∙◌}
use Rattle.std.proofs.lemmas.List.{length-set}
use Rattle.std.specs.Prelude.{drop, slice_get, slice_set, take}
use Rattle.life_store.specs.Cells.{at-set_same}
use Rattle.life_store.specs.Content.{Slot, Object, Content, with_object}
use Rattle.life_store.specs.Held.{slots_if, words_if}
use Rattle.life_store.specs.Places.{spot_words, wrote_spot}
use Rattle.life_forest.specs.Values.{AllWide}
use Rattle.life_values.specs.Moved.{disowned, moved_words, slots_moved}
use Rattle.life_values.specs.Regrown.{slot_at}
use Rattle.life_values.proofs.Disowned.{disowned_with}
use Rattle.life_values.proofs.InRows.{nothing_owned, one_more, regrouped, whole_written, with_slots, words_here, zeroed_here}
use Rattle.life_values.proofs.Zeros.{wrote_with}

module _ (b : ℕ) (o : Object) (w : ℕ) (us : List ℕ) where
  -- what a slot and those behind it are then
  abbrev pub shifted : Slot → List Slot → List Slot
  shifted z [] = z ∷ []
  shifted z (s ∷ ss) = record { words = s.words; stamp = z.stamp } ∷ shifted (record { words = nothing_owned 0 us s.words; stamp = s.stamp }) ss

  module _ (pre : List Slot) (z s : Slot) (ss : List Slot) (d : Content) (wide : length z.words ≡ w) (long : length s.words ≡ w) where
    abbrev now : Object
    now = with_slots o (pre ++ z ∷ s ∷ ss)

    abbrev next : Slot
    next = record { words = s.words; stamp = z.stamp }

    abbrev blank : Slot
    blank = record { words = nothing_owned 0 us s.words; stamp = s.stamp }

    words_are : spot_words (with_object b now d) (slot_at b (length pre + 1)) w ≡ s.words
    words_are =
        ap (λ (x : Option Object). take w (drop 0 (words_if (slice_get (slots_if x) (length pre + 1))))) (at-set_same d.objects b b now refl)
        ∙ (λ j. take w (drop 0 (words_if (slice_get (regrouped pre z (s ∷ ss) j) (sym (one_more pre z) j)))))
        ∙ words_here (pre ++ z ∷ []) s ss w long

    pub one_shifted : moved_words (slot_at b (length pre + 1)) (slot_at b (length pre)) w us (with_object b now d) ≡ with_object b (with_slots o (pre ++ next ∷ blank ∷ ss)) d
    one_shifted =
        ap (λ vs. disowned (slot_at b (length pre + 1)) us (wrote_spot (slot_at b (length pre)) vs (with_object b now d))) words_are
        ∙ ap (disowned (slot_at b (length pre + 1)) us)
        (wrote_with b (length pre) 0 s.words now d ∙ ap (λ (x : Object). with_object b x d) (whole_written o pre z (s ∷ ss) s.words (long ∙ sym wide)))
        ∙ (λ j. disowned (slot_at b (sym (one_more pre next) j)) us (with_object b (with_slots o (regrouped pre next (s ∷ ss) j)) d))
        ∙ disowned_with b (length (pre ++ next ∷ [])) 0 us (with_slots o ((pre ++ next ∷ []) ++ s ∷ ss)) d
        ∙ ap (λ (x : Object). with_object b x d) (zeroed_here o (pre ++ next ∷ []) s ss 0 us)
        ∙ ap (λ (xs : List Slot). with_object b (with_slots o xs) d) (sym (regrouped pre next (blank ∷ ss)))

  pub nothing_long : (v : ℕ) (vs : List ℕ) (ws : List ℕ) → length (nothing_owned v vs ws) ≡ length ws
  nothing_long v [] ws = refl
  nothing_long v (x ∷ xs) ws = nothing_long v xs (slice_set ws (v + x) 0) ∙ length-set ws (v + x) 0

  pub slots_shifted : (pre : List Slot) (z : Slot) (ss : List Slot) (d : Content) → length z.words ≡ w → AllWide w ss
      → slots_moved (slot_at b (length pre + 1)) (slot_at b (length pre)) w us (length ss) (with_object b (with_slots o (pre ++ z ∷ ss)) d) ≡ with_object b (with_slots o (pre ++ shifted z ss)) d
  slots_shifted pre z [] d wide long = refl
  slots_shifted pre z (s ∷ ss) d wide long =
      let next : Slot = record { words = s.words; stamp = z.stamp } in
      let blank : Slot = record { words = nothing_owned 0 us s.words; stamp = s.stamp } in
      ap (slots_moved (slot_at b (length pre + 1 + 1)) (slot_at b (length pre + 1)) w us (length ss)) (one_shifted pre z s ss d wide long.0)
      ∙ (λ j. slots_moved (slot_at b (sym (one_more pre next) j + 1)) (slot_at b (sym (one_more pre next) j)) w us (length ss) (with_object b (with_slots o (regrouped pre next (blank ∷ ss) j)) d))
      ∙ slots_shifted (pre ++ next ∷ []) blank ss d (nothing_long 0 us s.words ∙ long.0) long.1
      ∙ ap (λ (xs : List Slot). with_object b (with_slots o xs) d) (sym (regrouped pre next (shifted blank ss)))
